-- A step is refused, blocked, or P holds of its number and of what comes next: the tests on the way to its end keep that.
use mathlib.Core.Bool.{Bool, true, false}
use Prim.Native.Nat.{ℕ}
use Rattle.base.specs.Outcome.{Outcome, corrupt, blocked, done, need, pick, and_then}
use Rattle.base.specs.Step.{Step, lift}

pub data Moves {S : Type 0} (P : ℕ → S → Type 0) {B : Type 0} : Outcome (Step S B) → Type 0 where
  stuck : Moves P corrupt
  held : Moves P blocked
  moved : {m : Step S B} → P m.number m.next → Moves P (done m)

module _ {S : Type 0} {P : ℕ → S → Type 0} {B : Type 0} where
  pub in_need : (b : Bool) (k : Outcome (Step S B)) → Moves P k → Moves P (need b k)
  unfolding need
  in_need true k m = m
  in_need false k m = stuck

  pub in_pick : (b : Bool) (k l : Outcome (Step S B)) → Moves P k → Moves P l → Moves P (pick b k l)
  unfolding pick
  in_pick true k l m n = m
  in_pick false k l m n = n

  pub in_then : {A : Type 0} (o : Outcome A) (f : A → Outcome (Step S B)) → ((a : A) → Moves P (f a)) → Moves P (and_then o f)
  unfolding and_then
  in_then corrupt f m = stuck
  in_then blocked f m = held
  in_then (done a) f m = m a

  pub in_lift : {A : Type 0} (g : A → B) (o : Outcome (Step S A)) → Moves P o → Moves P (lift g o)
  unfolding lift
  in_lift g corrupt m = stuck
  in_lift g blocked m = held
  in_lift g (done a) (moved m) = moved m

  -- what moved has the property
  pub move_of : {m : Step S B} → Moves P (done m) → P m.number m.next
  move_of (moved p) = p
