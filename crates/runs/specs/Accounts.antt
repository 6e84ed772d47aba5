-- EACH CARRIER ACCOUNTS FOR AT MOST TWO BUCKETS (document 01): every bucket that is not in the pool is put down to a
-- known object, to each at most one for its current tuple and one for its former tuple.
use Rattle.std.specs.Prelude.{◌≡◌, Bool, true, false, List, ℕ, ◌+◌, ◌*◌, ◌<◌, ◌≤◌}
use Rattle.std.specs.Prelude.{Option, Some}
use Rattle.base.specs.Table.{at}
use Rattle.layout.specs.Place.{cell_of}
use Rattle.slots.specs.Tuple.{tuple_in, slot_at}
use Rattle.index.specs.Search.{known}
use Rattle.index.specs.Index.{Entry, entry_for}
use Rattle.stage.specs.declared.Stage.{Stage}
use Rattle.grid.specs.Run.{Grid}
use Rattle.stage.specs.StageTable.{row, cell_or, bucket_by}
use Rattle.runs.specs.Apart.{InUse}
use Rattle.runs.specs.Counting.{chained, awaiting}
use Rattle.runs.specs.Quiet.{updater, positive}

-- The bucket that an update empties or fills at a stage, c being the cell where its object is reported: at stage 5 the
-- first of the cell from which it erases, at stage 6 the one that it is to return, at stages 10 and 11 the first of
-- the cell c, at stage 12 that of the new place (the table of the stages). At these stages its object has no former
-- tuple, and accounts for this bucket instead.
unfoldable pub at_work : List ℕ → ℕ → Stage → Option ℕ
at_work first c s = bucket_by (at first (cell_or c (row s).cell)) (row s).bucket

-- slot i of bucket b is counted and has a tuple of object k
abbrev pub Counts : Grid → ℕ → ℕ → ℕ → Type 0
Counts g b i k = (i < at g.tables.count b) × ((tuple_in g.tables.tuples (slot_at b i)).oid ≡ k)

-- the update of lane l empties or fills bucket b
abbrev pub Works : Grid → ℕ → ℕ → Type 0
Works g l b = at_work g.tables.first (cell_of (updater g l).x (updater g l).y) (updater g l).stage ≡ Some b

-- Why bucket b is put down to object k, and whether for its former tuple: the current tuple of k, which has a positive
-- time, is in it; or the former one is (before stage 13 its time is positive too); or an update of k empties or fills
-- it.
pub data Reason (g : Grid) (b k : ℕ) : Bool → Type 0 where
  current : (i : ℕ) → Counts g b i k → positive (tuple_in g.tables.tuples (slot_at b i)).time → Reason g b k false
  former : (i : ℕ) → Counts g b i k → Reason g b k true
  update : (l : ℕ) → l < 8 → (updater g l).oid ≡ k → Works g l b → Reason g b k true

-- The object to which each bucket is put down, and whether for its former tuple. No two buckets in use have both in
-- common: so one object has at most two of them, and all objects together at most twice as many as are known.
pub record TwoEach (g : Grid) : Type 0 where
  pub object : ℕ → ℕ
  pub for_former : ℕ → Bool
  pub is_known : (b : ℕ) → InUse g b → (e : Entry) × (entry_for g.tables.index (object b) ≡ Some e)
  pub reason : (b : ℕ) → InUse g b → Reason g b (object b) (for_former b)
  pub once : (b b' : ℕ) → InUse g b → InUse g b' → object b ≡ object b' → for_former b ≡ for_former b' → b ≡ b'
  pub few : chained g.tables + awaiting g.updaters ≤ 2 * known g.tables.index.oid
