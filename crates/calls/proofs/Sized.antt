-- What `right_words` answered of the tables that were lent: it is what `right_lengths` says of them; and where it is yes,
-- they are as long as they must be.
use mathlib.Core.Path.{◌≡◌, sym, ◌∙◌}
use mathlib.Core.Bool.{Bool, true}
use mathlib.Core.List.{List}
use Prim.Native.Nat.{ℕ}
use lib.IntN.{ℤ}
use lib.ListN.{length}
use Rattle.words.specs.Map.{WORDS, TIMES}
use Rattle.tables.specs.Tables.{right_lengths}
use Rattle.tables.specs.Grid.{grid, right_words}
use Rattle.tables.proofs.Grid.{grid_lengths, words_said}

module _ (w : List ℕ) (ts : List ℤ) {r : Bool} (e : r ≡ right_words (length w) (length ts)) where
  pub sized : right_lengths (grid w ts) ≡ r
  sized = sym (grid_lengths w ts) ∙ sym e

  pub as_long : r ≡ true → (length w ≡ WORDS) × (length ts ≡ TIMES)
  as_long f = words_said w ts (sized ∙ f)
