-- WHAT A RUN OF AN UPDATE PROMISES, of the tables t as it finds them and t' as it leaves them.
use Rattle.std.specs.Prelude.{◌≡◌, ℕ}
use Rattle.stage.specs.declared.Updater.{Updater}
use Rattle.tables.specs.Tables.{Tables}
use Rattle.calls.specs.Run.{ran_of}
use Rattle.calls.specs.Refusals.{end_number}
use Rattle.calls.specs.declared.run.Ran.{Ran}
use Rattle.update_run.specs.Run.{run_one}

-- A RUN of up to n steps of the update u of lane l.
abbrev pub Runs : Updater → ℕ → ℕ → Ran Updater → Tables → Tables → Type 0
Runs u l n r t t' = run_one n l t u ≡ ran_of (end_number r.end) r.made t' r.lanes
