-- THE GRID NEVER STANDS STILL BY ITSELF (document 02, request j), for every list of calls, refused ones included, in
-- any order: nothing is assumed. It cites nothing of a grid but that it is `Good`, which every call keeps (`run_good`).
use mathlib.Core.List.{List}
use Rattle.grid.specs.Run.{Grid, Call, run, empty_grid}
use Rattle.runs.proofs.Empty.{empty_good}
use Rattle.runs.proofs.Every.{Good}
use Rattle.runs.proofs.Runs.{run_good}
use Rattle.progress.specs.Progress.{Progress}
use Rattle.progress.proofs.Rounds.{round_moves}
use Rattle.progress.proofs.Still.{never_still, open_moves}

-- A GOOD GRID
pub good_progress : (g : Grid) → Good g → Progress g
good_progress g G = record { never_still = never_still g G; open_moves = open_moves g G; round_moves = round_moves g G }

-- EVERY LIST OF CALLS FROM ANY GOOD GRID
pub progress_from : (g : Grid) → Good g → (cs : List Call) → Progress (run cs g)
progress_from g G cs = good_progress (run cs g) (run_good cs g G)

-- EVERY LIST OF CALLS FROM THE EMPTY GRID: where something is under way, something under way moves; a query that has a
-- bucket open moves; and in a round in which everything under way is stepped something moves.
pub progress : (cs : List Call) → Progress (run cs empty_grid)
progress cs = progress_from empty_grid empty_good cs
