-- ALL THAT IS SAID OF A GRID OF A RUN, in one record. Each part is a definition of another file here.
use Rattle.std.specs.Prelude.{◌≡◌, ◌≢◌, ℕ, ◌+◌, ◌<◌}
use Rattle.base.specs.Numbers.{CORRUPT}
use Rattle.pool.specs.Pool.{size}
use Rattle.query.specs.declared.Scan.TheVariants.{Idle}
use Rattle.grid.specs.Run.{Grid, Call, call}
use Rattle.runs.specs.Accounts.{TwoEach}
use Rattle.runs.specs.Apart.{Apart, HandedOutFree}
use Rattle.runs.specs.Counting.{chained, awaiting}
use Rattle.runs.specs.Locks.{LocksExact}
use Rattle.runs.specs.Quiet.{ClockFits, NeverDry, LocksOwned, ObjectsOwned, ChainsEnd, LaterFull, Quiet, NoLocks, SameTuples}
use Rattle.runs.specs.Reached.{Reached, InTheirCells}
use Rattle.runs.specs.Sweeps.{query, ListFits, ReadersFit}

pub record Holds (g : Grid) : Type 0 where
  pub never_12 : (c : Call) → (call c g).0.number ≢ CORRUPT
  pub clock : ClockFits g
  pub pool_never_dry : NeverDry g
  pub locks : LocksOwned g
  pub objects : ObjectsOwned g
  pub locks_both_ways : LocksExact g
  pub chains : ChainsEnd g.tables
  pub later_full : LaterFull g.tables
  pub buckets : size g.tables.pool + chained g.tables + awaiting g.updaters ≡ 512
  pub buckets_apart : Apart g
  pub handed_out : HandedOutFree g
  pub two_buckets : TwoEach g
  pub index_reached : Reached g.tables
  pub tuples_placed : InTheirCells g.tables
  pub readers : ReadersFit g
  pub lists : (q : ℕ) → q < 4 → (query g q).stage ≢ Idle → ListFits g q
  pub quiet_locks : Quiet g → NoLocks g.tables
  pub quiet_tuples : Quiet g → SameTuples g.tables
