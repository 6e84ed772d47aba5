-- The entry at which a search found an object tells how the search ended. So that crates above go on by it, and need not
-- unfold the definition.
use mathlib.Core.Path.{◌≡◌, refl, ap}
use Prim.Native.Nat.{ℕ}
use Rattle.base.specs.Outcome.{Outcome, corrupt, done}
use Rattle.base.proofs.Table.{clash}
use Rattle.index.specs.Search.{found_at}
use Rattle.index.specs.declared.search.Search.{Search}
use Rattle.index.specs.declared.search.Search.TheVariants.{Found, Empty}

-- there is one: the search ended there
pub found_there : (s : Search) {i : ℕ} → done i ≡ found_at s → s ≡ Found i
unfolding found_at
found_there (Found j) {i} e = let q : j ≡ i = cc in ap Found q
found_there (Empty j) e = clash (cc)

-- there is none: it ended at an empty entry, or came round
pub found_nowhere : (s : Search) → corrupt ≡ found_at s → (i : ℕ) × (s ≡ Empty i)
unfolding found_at
found_nowhere (Found j) e = clash (cc)
found_nowhere (Empty j) e = (j, refl)
