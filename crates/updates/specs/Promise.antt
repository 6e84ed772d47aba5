-- WHAT THE CALLS OF UPDATES PROMISE, of the tables t as a call finds them and t' as it leaves them: the number, the tables and the lanes afterwards are
-- those of the definition, for every content of the tables and every argument.
use Rattle.std.specs.Prelude.{◌≡◌, List, ℕ, Result}
use Rattle.base.specs.declared.Stop.{Stop}
use Rattle.tables.specs.Tables.{Tables}
use Rattle.stage.specs.Turn.{turn_says}
use Rattle.stage.specs.declared.Turn.{Turn}
use Rattle.stage.specs.declared.Updater.{Updater}
use Rattle.calls.specs.Call.{after, after_of, next_lanes}
use Rattle.calls.specs.Refusals.{told_call, told_step}
use Rattle.calls.specs.declared.refusal.Refusal.{Refusal}
use Rattle.calls.specs.declared.pace.Stepped.{Stepped}
use Rattle.updates.specs.Update.{update_start, update_step, with_stage}
use Rattle.updates.specs.One.{start_one, step_one}

-- A START of an update of object k, to stand at (x, y) with tag m, in lane l.
abbrev pub Starts : List Updater → ℕ → ℕ → ℕ → ℕ → ℕ → Result (List Updater) Refusal → Tables → Tables → Type 0
Starts us l k x y m r t t' = after t us (update_start t us l k x y m) ≡ told_call us r t'

-- A STEP of the update in lane l.
abbrev pub Steps : List Updater → ℕ → Result (Stepped (List Updater)) Refusal → Tables → Tables → Type 0
Steps us l r t t' = after t us (update_step t us l) ≡ told_step us r t'

-- The same of one lane, in which the update u is.
abbrev pub StartsOne : Updater → ℕ → ℕ → ℕ → ℕ → ℕ → Result Updater Refusal → Tables → Tables → Type 0
StartsOne u l k x y m r t t' = after t u (start_one t l u k x y m) ≡ told_call u r t'

abbrev pub StepsOne : Updater → ℕ → Result (Stepped Updater) Refusal → Tables → Tables → Type 0
StepsOne u l r t t' = after t u (step_one t l u) ≡ told_step u r t'

-- the end of a step, from how its stage ended
abbrev pub EndsTurn : Updater → Result Turn Stop → Result (Stepped Updater) Refusal → Type 0
EndsTurn u turn r =
    (t : Tables) → after_of (turn_says turn).number t (next_lanes u (with_stage u) (turn_says turn).next) ≡ told_step u r t
