-- THE THEOREMS OF Theorems.antt FROM ANY GOOD GRID, whatever made it: they cite nothing of a grid but that it is `Good`, and
-- every call keeps that (`run_good`). The empty grid is an instance.
use mathlib.Core.List.{List}
use Rattle.grid.specs.Run.{Grid, Call, run, empty_grid}
use Rattle.runs.specs.Holds.{Holds}
use Rattle.runs.proofs.Accounts.{two_each}
use Rattle.runs.proofs.Apart.{apart, handed_out_free}
use Rattle.runs.proofs.Counted.{buckets_counted}
use Rattle.runs.proofs.Empty.{empty_good}
use Rattle.runs.proofs.Every.{Good}
use Rattle.runs.proofs.Locks.{locks_exact}
use Rattle.runs.proofs.Quiet.{clock_fits, never_dry, locks_owned, objects_owned, chains_end, rest_full, no_locks, same_tuples}
use Rattle.runs.proofs.Reached.{reached, in_their_cells}
use Rattle.runs.proofs.Runs.{call_good, run_good}
use Rattle.runs.proofs.Standing.{list_fits, readers_fit}

-- A GOOD GRID
pub good_holds : (g : Grid) → Good g → Holds g
good_holds g G =
    record {
      never_12 = λ c. (call_good c g G).0;
      clock = clock_fits g G;
      pool_never_dry = never_dry g G;
      locks = locks_owned g G;
      objects = objects_owned g G;
      locks_both_ways = locks_exact g G;
      chains = chains_end g G;
      later_full = rest_full g G;
      buckets = buckets_counted g G;
      buckets_apart = apart g G;
      handed_out = handed_out_free g G;
      two_buckets = two_each g G;
      index_reached = reached g G;
      tuples_placed = in_their_cells g G;
      readers = readers_fit g G;
      lists = list_fits g G;
      quiet_locks = no_locks g G;
      quiet_tuples = same_tuples g G;
    }

-- EVERY LIST OF CALLS FROM ANY GOOD GRID
pub holds_from : (g : Grid) → Good g → (cs : List Call) → Holds (run cs g)
holds_from g G cs = good_holds (run cs g) (run_good cs g G)

-- and so from the empty one
pub holds : (cs : List Call) → Holds (run cs empty_grid)
holds cs = holds_from empty_grid empty_good cs
