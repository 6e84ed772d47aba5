-- A step on its own tables, seen on all of them: how it ended, and what the tables are then.
use mathlib.Core.Path.{◌≡◌, sym, ap}
use Rattle.std.specs.Prelude.{None, Some}
use Prim.Native.Nat.{ℕ}
use Rattle.base.specs.Outcome.{Outcome, corrupt, blocked, done}
use Rattle.base.specs.Step.{said, Step, step_of, turn_tells, turn_leaves, turned, lift}

module _ {S A B : Type 0} (g : A → B) (t : B) (o : Outcome (Step S A)) (t' : B) where
  pub halts : o ≡ corrupt → t' ≡ t → turned t (lift g o) ≡ (said 12 None, t')
  unfolding turn_tells turn_leaves lift
  halts e p = rw e (ap (λ (u : B). (said 12 None, u)) (sym p))

  pub waits : o ≡ blocked → t' ≡ t → turned t (lift g o) ≡ (said 20 None, t')
  unfolding turn_tells turn_leaves lift
  waits e p = rw e (ap (λ (u : B). (said 20 None, u)) (sym p))

  pub moves : (n : ℕ) (s : S) (a : A) → o ≡ done (step_of n s a) → t' ≡ g a → turned t (lift g o) ≡ (said n (Some s), t')
  unfolding turn_tells turn_leaves lift
  moves n s a e p = rw e (ap (λ (u : B). (said n (Some s), u)) (sym p))
