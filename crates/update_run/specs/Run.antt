-- A run of an update (document 01: report steps, one after the other), in one lane and over all lanes.
use Rattle.std.specs.Prelude.{List, ℕ}
use Rattle.stage.specs.declared.Updater.{Updater}
use Rattle.tables.specs.Tables.{Tables}
use Rattle.calls.specs.Run.{Ran, run_steps}
use Rattle.updates.specs.Update.{update_step}
use Rattle.updates.specs.One.{step_one}

-- up to n steps of the update u of lane l, ended by the first number that is not 0
unfoldable pub run_one : ℕ → ℕ → Tables → Updater → Ran Updater
run_one n l t u = run_steps (λ t u. step_one t l u) n t u

-- the same by so many calls of report step in lane l
unfoldable pub lane_run : ℕ → ℕ → Tables → List Updater → Ran (List Updater)
lane_run n l t us = run_steps (λ t us. update_step t us l) n t us
