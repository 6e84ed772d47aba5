-- THE TABLE OF THE STAGES: a row for each stage of an update says what it holds, what it moves, what it has still to
-- draw and what comes next. What is said of a stage by its kind alone is read off its row, here and in the crates
-- above.
use Rattle.std.specs.Prelude.{Bool, true, false, List, [], ◌∷◌, ℕ}
use Rattle.std.specs.Prelude.{Option, None, Some}
use Rattle.stage.specs.declared.Stage.{Stage}
use Rattle.stage.specs.declared.Stage.TheVariants.{Idle, TakeObject, LockCell, LookLast, CopyLast, LowerCount, ReturnBucket, ErasePlace, ChooseCell, MakeRoom, WriteTuple, RaiseCount, SwitchPlace, DeleteOld, ReleaseObject}

-- the cell whose lock an update holds: none, the cell where its object is reported, or the cell of a place
pub data CellHeld : Type 0 where
  no_cell_held : CellHeld
  goal_cell : CellHeld
  cell_at : ℕ → CellHeld

-- a bucket that it uses beside those of its object's places: none, the first one of the cell that it holds, or
-- another
pub data BucketUsed : Type 0 where
  no_bucket : BucketUsed
  first_bucket : BucketUsed
  bucket_at : ℕ → BucketUsed

pub record Row : Type 0 where
  -- document 01's number; 0 for an idle lane
  pub number : ℕ
  -- it holds the lock of its object
  pub own : Bool
  -- the object whose tuple it moves, whose lock it holds too
  pub moved : Option ℕ
  pub cell : CellHeld
  -- it is about to write into the first bucket of that cell, or to count what it has written
  pub fills : Bool
  pub bucket : BucketUsed
  -- the bucket that it has taken off its chain, and not yet returned
  pub unlinked : Option ℕ
  -- the tuple at its object's current place is at the reported place
  pub late : Bool
  -- how many stamps it may still draw
  pub draws : ℕ
  -- the numbers of the stages that a step may lead to
  pub next : List ℕ

abbrev row_of : ℕ → Bool → Option ℕ → CellHeld → Bool → BucketUsed → Option ℕ → Bool → ℕ → List ℕ → Row
row_of n o m c f b u l d s = record {
  number = n;
  own = o;
  moved = m;
  cell = c;
  fills = f;
  bucket = b;
  unlinked = u;
  late = l;
  draws = d;
  next = s;
}

-- number, own lock, object moved, cell held, fills, bucket used, unlinked, late, draws, next
abbrev pub row : Stage → Row
row Idle = row_of 0 false None no_cell_held false no_bucket None false 0 []
row TakeObject = row_of 1 false None no_cell_held false no_bucket None false 2 (2 ∷ 8 ∷ [])
row (LockCell p) = row_of 2 true None no_cell_held false no_bucket None false 2 (3 ∷ [])
row (LookLast p) = row_of 3 true None (cell_at p.cell) false no_bucket None false 2 (4 ∷ 1 ∷ [])
row (CopyLast p m) = row_of 4 true (Some m) (cell_at p.cell) false no_bucket None false 2 (5 ∷ [])
row (LowerCount p m) = row_of 5 true (Some m) (cell_at p.cell) false first_bucket None false 2 (6 ∷ 7 ∷ [])
row (ReturnBucket p m b) = row_of 6 true (Some m) (cell_at p.cell) false (bucket_at b) (Some b) false 2 (7 ∷ [])
row (ErasePlace p m) = row_of 7 true (Some m) (cell_at p.cell) false no_bucket None false 2 (8 ∷ [])
row ChooseCell = row_of 8 true None no_cell_held false no_bucket None false 2 (9 ∷ 14 ∷ [])
row MakeRoom = row_of 9 true None goal_cell false no_bucket None false 2 (10 ∷ [])
row WriteTuple = row_of 10 true None goal_cell true first_bucket None false 2 (11 ∷ [])
row (RaiseCount p) = row_of 11 true None goal_cell true first_bucket None false 1 (12 ∷ [])
row (SwitchPlace p) = row_of 12 true None goal_cell false (bucket_at p.bucket) None false 1 (13 ∷ 14 ∷ [])
row (DeleteOld p) = row_of 13 true None no_cell_held false no_bucket None true 1 (14 ∷ [])
row ReleaseObject = row_of 14 true None no_cell_held false no_bucket None true 0 (0 ∷ [])

-- ---- what is read off a row

-- there is something
abbrev pub given : Option ℕ → Bool
given None = false
given (Some n) = true

-- what there is, or else k
abbrev pub or_else : ℕ → Option ℕ → ℕ
or_else k None = k
or_else k (Some n) = n

abbrev pub holds_cell : CellHeld → Bool
holds_cell no_cell_held = false
holds_cell goal_cell = true
holds_cell (cell_at c) = true

-- the cell held, c being the one where the object is reported; c too where none is held
abbrev pub cell_or : ℕ → CellHeld → ℕ
cell_or c no_cell_held = c
cell_or c goal_cell = c
cell_or c (cell_at c') = c'

-- the same, or none
abbrev pub cell_held_by : ℕ → CellHeld → Option ℕ
cell_held_by c no_cell_held = None
cell_held_by c goal_cell = Some c
cell_held_by c (cell_at c') = Some c'

-- the bucket used, f being the first one of the cell held
abbrev pub bucket_by : ℕ → BucketUsed → Option ℕ
bucket_by f no_bucket = None
bucket_by f first_bucket = Some f
bucket_by f (bucket_at b) = Some b

-- the objects whose locks are held, k the update's own
abbrev pub objects_by : ℕ → Bool → Option ℕ → List ℕ
objects_by k false m = []
objects_by k true None = k ∷ []
objects_by k true (Some m) = k ∷ m ∷ []
