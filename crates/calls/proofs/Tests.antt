-- A call is a nest of `unless`: each refuses with a number, and a refusal changes nothing. The laws move past one of them, and past the end of a step.
use mathlib.Core.Path.{◌≡◌, refl}
use mathlib.Core.Logic.{◌≢◌}
use mathlib.Core.Bool.{Bool, true, false, not}
use Prim.Native.Nat.{ℕ}
use Rattle.base.specs.Outcome.{Outcome, corrupt, blocked, done, pick}
use Rattle.base.specs.Step.{Step, turn_tells, turn_leaves}
use Rattle.tables.specs.Tables.{Tables}
use Rattle.calls.specs.Call.{Result, After, after, after_of, Same, unless, stepped, next_lanes}
use Rattle.calls.proofs.Numbers.{number_of}

module _ {L : Type 0} (t : Tables) (ls : L) where
  -- the number past one test of a call
  pub number_unless : (b : Bool) (n : ℕ) (k : Result L) → (after t ls (unless b n k)).number ≡ pick (not b) n (after t ls k).number
  unfolding after unless pick
  number_unless true n k = refl
  number_unless false n k = refl

  -- a refusal by a test changes nothing; past it, what is asked of the number is asked of the rest
  pub same_unless : (P : ℕ → Type 0) (b : Bool) (n : ℕ) (k : Result L)
      → (P (after t ls k).number → Same t ls (after t ls k)) → P (after t ls (unless b n k)).number → Same t ls (after t ls (unless b n k))
  unfolding after unless
  same_unless P true n k f h = f h
  same_unless P false n k f h = record { tables = refl; lanes = refl }

  -- an accepted call has passed every test
  pub past_unless : (Q : After L → Type 0) (b : Bool) (n : ℕ) (k : Result L) → n ≢ 0
      → (b ≡ true → (after t ls k).number ≡ 0 → Q (after t ls k)) → (after t ls (unless b n k)).number ≡ 0 → Q (after t ls (unless b n k))
  unfolding after unless
  past_unless Q true n k z f h = f refl h
  past_unless Q false n k z f h = absurd (z h)

  -- ---- the end of a step

  module _ {S : Type 0} (put : S → L) where
    -- what a step leaves, read off how it ended
    pub told_stepped : (o : Outcome (Step S Tables)) → after t ls (stepped t ls put o) ≡ after_of (turn_tells o).number (turn_leaves t o) (next_lanes ls put (turn_tells o).next)
    unfolding after stepped turn_tells turn_leaves
    told_stepped corrupt = refl
    told_stepped blocked = refl
    told_stepped (done m) = refl

    -- a call gives the number of its step
    pub number_stepped : (o : Outcome (Step S Tables)) → (after t ls (stepped t ls put o)).number ≡ number_of o
    unfolding after stepped number_of
    number_stepped corrupt = refl
    number_stepped blocked = refl
    number_stepped (done m) = refl

    -- one that did not move changes nothing
    pub same_stepped : (o : Outcome (Step S Tables)) → ((m : Step S Tables) → o ≡ done m → (after t ls (stepped t ls put o)).number ≡ m.number → ⊥) → Same t ls (after t ls (stepped t ls put o))
    unfolding after stepped
    same_stepped corrupt h = record { tables = refl; lanes = refl }
    same_stepped blocked h = record { tables = refl; lanes = refl }
    same_stepped (done m) h = absurd (h m refl refl)
