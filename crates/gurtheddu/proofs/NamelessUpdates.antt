-- The exports of updates over variable tables and lanes, where no stage has the number of the lane, and a run where one
-- has.
use mathlib.Core.Path.{◌≡◌}
use mathlib.Core.Logic.{◌≢◌}
use mathlib.Core.List.{List}
use Prim.Native.Nat.{ℕ, ◌<◌, ◌≤◌}
use borrow.Author.Tests.{lt-ltb, le-leb, lt-leb, ne_eqb}
use Rattle.base.specs.Outcome.{pick}
use Rattle.tables.specs.Tables.{Tables}
use Rattle.calls.specs.Call.{after, after_of, unless}
use Rattle.calls.specs.Run.{ran_of}
use Rattle.update_run.specs.Run.{run_one}
use Rattle.codes.specs.Updaters.{stage_in, updater_in, with_updater}
use Rattle.gurtheddu.specs.Coded.{coded_run, start_update, run_update}

module _ (t : Tables) (ns : List ℕ) (l k x y m : ℕ) (l< : l < 8) where
  -- no stage has the number
  pub start_nameless : 14 < stage_in ns l → after t ns (start_update t ns l k x y m) ≡ after_of 12 t ns
  unfolding start_update unless after
  start_nameless h = rw (lt-ltb l 8 l<, lt-leb (stage_in ns l) 14 h)

module _ (n l : ℕ) (t : Tables) (ns : List ℕ) (n> : n ≢ 0) (l< : l < 8) where
  pub run_nameless : 14 < stage_in ns l → run_update n l t ns ≡ ran_of 12 0 t ns
  unfolding run_update pick
  run_nameless h = rw (ne_eqb n 0 n>, lt-ltb l 8 l<, lt-leb (stage_in ns l) 14 h)

  pub onward_run : stage_in ns l ≤ 14
      → run_update n l t ns ≡ coded_run ns (with_updater ns l) (run_one n l t (updater_in ns l))
  unfolding run_update pick
  onward_run g = rw (ne_eqb n 0 n>, lt-ltb l 8 l<, le-leb (stage_in ns l) 14 g)
