-- A RUN IS ITS CALLS: a run of a lane by itself, put among the others, is what so many calls of report step come to, one after the other, up to the first
-- number that is not 0.
use mathlib.Core.Path.{◌≡◌}
use mathlib.Core.List.{List}
use Prim.Native.Nat.{ℕ, ◌<◌}
use lib.ListN.{length, get_or}
use Rattle.stage.specs.declared.Updater.{Updater}
use Rattle.tables.specs.Tables.{Tables}
use Rattle.calls.proofs.Runs.{placed_run, run_calls}
use Rattle.updates.specs.Update.{idle_updater, update_step}
use Rattle.updates.specs.One.{step_one}
use Rattle.updates.proofs.Lane.{step_in}
use Rattle.update_run.specs.Run.{run_one, lane_run}

pub update_run_calls : (n l : ℕ) (t : Tables) (us : List Updater) → l < length us → lane_run n l t us ≡ placed_run us l (run_one n l t (get_or us l idle_updater))
unfolding lane_run run_one
update_run_calls n l t us h = run_calls idle_updater (λ t u. step_one t l u) (λ t us. update_step t us l) l (λ t us. step_in t us l) n t us h
