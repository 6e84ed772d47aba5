-- Corners that are accepted: what that says of the coordinates, and what the answer of `check_corners` says of the tests.
-- The answer is 0 where both tests hold, 5 or 6 elsewhere; the tests are then taken apart into the orders that they test.
use mathlib.Core.Path.{◌≡◌, refl, sym, ap, ◌∙◌}
use mathlib.Core.Bool.{Bool, true, false, ◌&&◌, So, false≢true}
use mathlib.Core.List.{[]}
use mathlib.Core.Logic.{◌↔◌}
use Prim.Native.Nat.{◌≤◌}
use native.Mathlib.Omega.{arith}
use Rattle.std.specs.Prelude.{Result, Ok, Err, ⊤}
use Rattle.base.specs.Outcome.{Told, says, pick}
use Rattle.layout.specs.Place.{on_grid}
use Rattle.layout.specs.Question.{corners, corners_on, corners_says, ordered, Proper}
use Rattle.layout.specs.declared.question.BadCorners.{BadCorners}
use Rattle.layout.specs.declared.question.BadCorners.TheVariants.{OffGrid, Crossed}
use Rattle.layout.specs.declared.question.Question.{Question}
use Rattle.layout.proofs.Bools.{not_so}
use Rattle.std.proofs.lemmas.Bool.Decides.{nat_tests}

-- accepted corners pass both tests, and corners that pass both are accepted
pub proper_iff : (q : Question) → Proper q ↔ So (corners_on q && ordered q)
unfolding corners pick
proper_iff q = (λ e. grind arith, λ h. grind arith)

-- accepted corners lie on the grid, in order
pub proper_facts : (q : Question) → Proper q
    → (q.x0 ≤ q.x1) × (q.y0 ≤ q.y1) × (q.x0 ≤ 16383) × (q.y0 ≤ 16383) × (q.x1 ≤ 16383) × (q.y1 ≤ 16383)
unfolding corners_on ordered on_grid
proper_facts q h = grind (arith, nat_tests, (proper_iff q).0 h)

-- corners on the grid, in order, are accepted
pub facts_proper : (q : Question)
    → (q.x0 ≤ q.x1) × (q.y0 ≤ q.y1) × (q.x0 ≤ 16383) × (q.y0 ≤ 16383) × (q.x1 ≤ 16383) × (q.y1 ≤ 16383) → Proper q
unfolding corners_on ordered on_grid
facts_proper q h = (proper_iff q).1 (grind (arith, nat_tests))

-- ---- the answer of two tests in a row, by its number

-- equal answers have equal numbers
same_number : {s t : Told} → s ≡ t → s.number ≡ t.number
same_number e = ap (λ (t : Told). t.number) e

-- the answer 0 comes of two tests that hold, and of nothing else
pub zero_iff : (a b : Bool) → (pick a (pick b (says 0 []) (says 6 [])) (says 5 []) ≡ says 0 []) ↔ So (a && b)
unfolding pick
zero_iff true true = (λ e. refl, λ h. refl)
zero_iff true false = (λ e. absurd (omega (arith, same_number e)), λ h. absurd (false≢true h))
zero_iff false b = (λ e. absurd (omega (arith, same_number e)), λ h. absurd (false≢true h))

-- the number tells which test failed
pub told_accepted : (a b : Bool) → pick a (pick b (says 0 []) (says 6 [])) (says 5 []) ≡ says 0 [] → (a ≡ true) × (b ≡ true)
unfolding pick
told_accepted true true e = (refl, refl)
told_accepted true false e = absurd (omega (arith, same_number e))
told_accepted false b e = absurd (omega (arith, same_number e))

pub told_off : (a b : Bool) → pick a (pick b (says 0 []) (says 6 [])) (says 5 []) ≡ says 5 [] → a ≡ false
unfolding pick
told_off true true e = absurd (omega (arith, same_number e))
told_off true false e = absurd (omega (arith, same_number e))
told_off false b e = refl

pub told_crossed : (a b : Bool) → pick a (pick b (says 0 []) (says 6 [])) (says 5 []) ≡ says 6 [] → (a ≡ true) × (b ≡ false)
unfolding pick
told_crossed true true e = absurd (omega (arith, same_number e))
told_crossed true false e = (refl, refl)
told_crossed false b e = absurd (omega (arith, same_number e))

-- ---- what the answer of `check_corners` says of the tests

module _ (q : Question) {r : Result ⊤ BadCorners} (e : corners q ≡ corners_says r) where
  pub corners_accepted : {x : ⊤} → r ≡ Ok x → (corners_on q ≡ true) × (ordered q ≡ true)
  unfolding corners
  corners_accepted p = told_accepted (corners_on q) (ordered q) (e ∙ ap corners_says p)

  pub corners_off : r ≡ Err OffGrid → corners_on q ≡ false
  unfolding corners
  corners_off p = told_off (corners_on q) (ordered q) (e ∙ ap corners_says p)

  pub corners_crossed : r ≡ Err Crossed → (corners_on q ≡ true) × (ordered q ≡ false)
  unfolding corners
  corners_crossed p = told_crossed (corners_on q) (ordered q) (e ∙ ap corners_says p)

-- an answer that is a refusal has another number than 0
pub not_accepted : (r : Result ⊤ BadCorners) → (r ≡ Ok tt → ⊥) → corners_says r ≡ says 0 [] → ⊥
not_accepted (Ok x) other e = other refl
not_accepted (Err OffGrid) other e = omega (arith, same_number e)
not_accepted (Err Crossed) other e = omega (arith, same_number e)

-- where the answer is such a one, the tests fail
pub refused_tests : (q : Question) (r : Result ⊤ BadCorners) → corners q ≡ corners_says r → (r ≡ Ok tt → ⊥) → (corners_on q && ordered q) ≡ false
refused_tests q r e other = not_so (corners_on q && ordered q) (λ h. not_accepted r other (sym e ∙ (proper_iff q).1 h))
