-- The lines to come by the answer of next_line; and a run that is left before a line was read, or with none.
use mathlib.Core.Path.{◌≡◌, refl, sym, ap, subst, ◌∙◌}
use mathlib.Core.Bool.{Bool, true, false}
use mathlib.Core.List.{List, [], ◌∷◌, ◌++◌}
use Prim.Native.Nat.{ℕ}
use Rattle.std.specs.Prelude.{Result, Ok, Err, IsOk, ⊤}
use Rattle.base.proofs.Table.{clash}
use Rattle.grid.specs.Run.{Grid}
use Rattle.streams.specs.Lines.{kept_lines, last_line}
use Rattle.streams.specs.Next.{left, due}
use Rattle.streams.specs.declared.input.Fetched.{Fetched}
use Rattle.streams.specs.declared.input.Fetched.TheVariants.{Line, End}
use Rattle.streams.specs.declared.progress.Failed.{Failed}
use Rattle.streams.specs.declared.progress.Failed.TheVariants.{TooLong}
use Rattle.streams.specs.declared.progress.Progress.{Progress}
use Rattle.streams.specs.declared.progress.Progress.TheVariants.{Ended as Over}
use Rattle.console.specs.Run.{Answered, Ran}
use Rattle.console.specs.declared.run.Ended.{Ended}
use Rattle.console.specs.declared.run.Reads.{Reads}
use Rattle.console.specs.declared.run.Reads.TheVariants.{Whole, Stopped, Failed as Broken}
use Rattle.console.proofs.Sofar.{Sofar, Before, Behind, sofar_end, ran}

-- ---- the lines to come

-- the line to answer comes first
pub due_first : (r : Result Fetched Failed) (line bytes : List ℕ) → r ≡ Ok Line
    → due r line bytes ≡ line ∷ kept_lines [] bytes
due_first r line bytes e = ap (λ (x : Result Fetched Failed). due x line bytes) e

-- no line is left
pub none_due : (r : Result Fetched Failed) (line bytes : List ℕ) → r ≡ Ok End → due r line bytes ≡ []
none_due r line bytes e = ap (λ (x : Result Fetched Failed). due x line bytes) e

-- none is to come where the input has ended and nothing is kept
none_left : (block : List ℕ) (p : Progress) → p ≡ Over → kept_lines [] (left block p ++ []) ≡ []
unfolding kept_lines last_line
none_left block p e = ap (λ (x : Progress). kept_lines [] (left block x ++ [])) e

-- the input had ended before the next line: every line was answered
pub answered_over : (block : List ℕ) (p : Progress) {front page list : List ℕ} {n : ℕ} {g : Grid} (r : Result ⊤ Failed)
    → Before front n block p page g list → p ≡ Over → Answered front page r
answered_over block p r s e = sofar_end r s (λ _. none_left block p e)

-- ---- a run that is left

module _ {n : ℕ} {page list : List ℕ} {p : Progress} {g : Grid} {lines : List ℕ → List (List ℕ)} (r : Ended) where
  left_as : (w : Reads) → r.reads ≡ w → Sofar [] n p lines page g list → (r.reads ≡ Whole → lines [] ≡ []) → Ran r
  left_as Whole e s k = ran page r (sofar_end (Ok tt) s (λ _. k e)) refl (λ _. refl)
  left_as Stopped e s k = ran page r (sofar_end (Err TooLong) s (λ h. clash (cc))) refl (λ w. clash (cc))
  left_as (Broken x) e s k = ran page r (sofar_end (Err TooLong) s (λ h. clash (cc))) refl (λ w. clash (cc))

  left_off : Sofar [] n p lines page g list → (r.reads ≡ Whole → lines [] ≡ []) → Ran r
  left_off s k = left_as r.reads refl s k

module _ (block : List ℕ) (p : Progress) {n : ℕ} {page list : List ℕ} {g : Grid} (r : Ended) where
  -- before a line was read: the input was read to its end only where it has ended
  pub ran_before : Before [] n block p page g list → (r.reads ≡ Whole → p ≡ Over) → Ran r
  ran_before s k = left_off r s (λ w. none_left block p (k w))

  -- with the answer of next_line: only where that is that no line is left
  pub ran_behind : (line : List ℕ) {q : Result Fetched Failed} → Behind q [] n block line p page g list
      → (r.reads ≡ Whole → q ≡ Ok End) → Ran r
  ran_behind line {q} s k = left_off r s (λ w. none_due q line (left block p ++ []) (k w))
