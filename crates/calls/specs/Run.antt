-- A RUN OF STEPS of one lane, or of one among all: each step on what the last one left, so many of them, ended by the first number that is not 0.
use Rattle.std.specs.Prelude.{◌||◌, ℕ, zero, suc, ◌+◌, eqb}
use Rattle.base.specs.Numbers.{DONE, RESTARTED, FINISHED}
use Rattle.base.specs.Outcome.{pick}
use Rattle.tables.specs.Tables.{Tables}
use Rattle.calls.specs.Call.{Result, after}

-- the number of the last step, how many steps were carried out, and everything afterwards
pub record Ran (L : Type 0) : Type 0 where
  pub number : ℕ
  pub made : ℕ
  pub tables : Tables
  pub lanes : L

abbrev pub ran_of : {L : Type 0} → ℕ → ℕ → Tables → L → Ran L
ran_of n m t ls = record { number = n; made = m; tables = t; lanes = ls }

-- A step is carried out if it moves on, goes back or finishes; one that is blocked or refused changes nothing and does not count.
unfoldable pub carried_out : ℕ → ℕ
carried_out n = pick (eqb n DONE || (eqb n RESTARTED || eqb n FINISHED)) 1 0

-- with k steps before it
abbrev pub later : {L : Type 0} → ℕ → Ran L → Ran L
later k r = ran_of r.number (k + r.made) r.tables r.lanes

-- up to n steps
unfoldable pub run_steps : {L : Type 0} → (Tables → L → Result L) → ℕ → Tables → L → Ran L
run_steps step zero t ls = ran_of DONE 0 t ls
run_steps step (suc n) t ls =
    let a = after t ls (step t ls) in
    pick (eqb a.number DONE)
    (later 1 (run_steps step n a.tables a.lanes))
    (ran_of a.number (carried_out a.number) a.tables a.lanes)
