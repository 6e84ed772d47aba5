-- Laws of steps: a step on its own tables tells the same on all of them, and who was told knows how it ended.
use mathlib.Core.Path.{◌≡◌, refl, ap}
use Rattle.std.specs.Prelude.{Option, Some}
use native.Mathlib.Omega.{arith}
use Rattle.base.specs.Outcome.{Outcome, corrupt, blocked, done}
use Rattle.base.specs.Step.{Said, said, Step, turn_tells, turn_leaves, turned, told, lift}

-- ---- it tells the same there, and leaves its own tables in their places

module _ {S A B : Type 0} (g : A → B) (a : A) where
  tells_lift : (o : Outcome (Step S A)) → turn_tells (lift g o) ≡ turn_tells o
  unfolding turn_tells lift
  tells_lift corrupt = refl
  tells_lift blocked = refl
  tells_lift (done m) = refl

  leaves_lift : (o : Outcome (Step S A)) → turn_leaves (g a) (lift g o) ≡ g (turn_leaves a o)
  unfolding turn_leaves lift
  leaves_lift corrupt = refl
  leaves_lift blocked = refl
  leaves_lift (done m) = refl

  pub lifted : (o : Outcome (Step S A)) (s : Said S) (a' : A) → turned a o ≡ (s, a') → turned (g a) (lift g o) ≡ (s, g a')
  lifted o s a' e = rw (tells_lift o, leaves_lift o) (ap (λ (p : Said S × A). (p.0, g p.1)) e)

-- ---- laws: who was told the number knows the outcome

module _ {S : Type 0} where
  number_of : {a b : Said S} → a ≡ b → a.number ≡ b.number
  number_of e = ap (λ (r : Said S). r.number) e

  pub said_corrupt : (o : Outcome S) {n : Option S} → told o ≡ said 12 n → o ≡ corrupt
  unfolding told
  said_corrupt corrupt e = refl
  said_corrupt blocked e = absurd (omega (arith, number_of e))
  said_corrupt (done s) e = absurd (omega (arith, number_of e))

  pub said_done : (o : Outcome S) {s : S} → told o ≡ said 0 (Some s) → o ≡ done s
  unfolding told
  said_done corrupt e = absurd (omega (arith, number_of e))
  said_done blocked e = absurd (omega (arith, number_of e))
  said_done (done r) {s} e = let n : Some r ≡ Some s = ap (λ (a : Said S). a.next) e in cc
