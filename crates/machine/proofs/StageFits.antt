-- WHAT EVERY ROW OF THE TABLE OF THE STAGES HAS, as a test that a row passes or not, and one proof that all rows pass it.
-- From the test, what it says; a new stage is a row of the table and a line here.
use mathlib.Core.Path.{◌≡◌, refl}
use mathlib.Core.Bool.{Bool, true, false, not, ◌&&◌, ◌||◌}
use Rattle.std.specs.Prelude.{Some}
use Prim.Native.Nat.{ℕ, ◌≤◌}
use lib.Dec.{T, leb, leb→le}
use Rattle.base.proofs.Table.{clash}
use Rattle.stage.specs.declared.Stage.{Stage}
use Rattle.stage.specs.declared.Stage.TheVariants.{Idle, TakeObject, LockCell, LookLast, CopyLast, LowerCount, ReturnBucket, ErasePlace, ChooseCell, MakeRoom, WriteTuple, RaiseCount, SwitchPlace, DeleteOld, ReleaseObject}
use Rattle.stage.specs.StageTable.{BucketUsed, no_bucket, first_bucket, bucket_at, Row, row, given, holds_cell, bucket_by}

abbrev implied : Bool → Bool → Bool
implied a b = not a || b

abbrev uses_first : BucketUsed → Bool
uses_first no_bucket = false
uses_first first_bucket = true
uses_first (bucket_at b) = false

abbrev uses_bucket : BucketUsed → Bool
uses_bucket no_bucket = false
uses_bucket first_bucket = true
uses_bucket (bucket_at b) = true

-- who moves a tuple or uses a bucket holds the object's lock; who fills a bucket holds its cell's; no update draws
-- more than twice
abbrev pub fits : Row → Bool
fits r =
    implied (given r.moved) r.own && implied (uses_bucket r.bucket) r.own
    && implied r.fills (holds_cell r.cell) && implied r.fills (uses_first r.bucket) && leb r.draws 2

-- THE TABLE PASSES.
pub row_fits : (s : Stage) → T (fits (row s))
row_fits Idle = tt
row_fits TakeObject = tt
row_fits (LockCell p) = tt
row_fits (LookLast p) = tt
row_fits (CopyLast p m) = tt
row_fits (LowerCount p m) = tt
row_fits (ReturnBucket p m b) = tt
row_fits (ErasePlace p m) = tt
row_fits ChooseCell = tt
row_fits MakeRoom = tt
row_fits WriteTuple = tt
row_fits (RaiseCount p) = tt
row_fits (SwitchPlace p) = tt
row_fits (DeleteOld p) = tt
row_fits ReleaseObject = tt

-- the same, said of a row
pub record Fits (r : Row) : Type 0 where
  pub moves : T (given r.moved) → T r.own
  pub uses : (f b : ℕ) → bucket_by f r.bucket ≡ Some b → T r.own
  pub holds : T r.fills → T (holds_cell r.cell)
  pub first : T r.fills → r.bucket ≡ first_bucket
  pub few : r.draws ≤ 2

by_implied : (a b : Bool) → T (implied a b) → T a → T b
by_implied true b t a = t
by_implied false b t a = absurd a

both : (a b : Bool) → T (a && b) → T a × T b
both true b t = (tt, t)
both false b t = absurd t

is_first : (b : BucketUsed) → T (uses_first b) → b ≡ first_bucket
is_first no_bucket t = absurd t
is_first first_bucket t = refl
is_first (bucket_at b) t = absurd t

is_used : (u : BucketUsed) (f b : ℕ) → bucket_by f u ≡ Some b → T (uses_bucket u)
is_used no_bucket f b e = clash (cc)
is_used first_bucket f b e = tt
is_used (bucket_at c) f b e = tt

pub fit_row : (r : Row) → T (fits r) → Fits r
fit_row r t =
    let p : Bool = implied (given r.moved) r.own in
    let q : Bool = implied (uses_bucket r.bucket) r.own in
    let u : Bool = implied r.fills (holds_cell r.cell) in
    let v : Bool = implied r.fills (uses_first r.bucket) in
    let w : Bool = leb r.draws 2 in
    let a = both (p && q && u && v) w t in
    let b = both (p && q && u) v a.0 in
    let c = both (p && q) u b.0 in
    let d = both p q c.0 in
    record {
      moves = by_implied (given r.moved) r.own d.0;
      uses = λ f n e. by_implied (uses_bucket r.bucket) r.own d.1 (is_used r.bucket f n e);
      holds = by_implied r.fills (holds_cell r.cell) c.1;
      first = λ x. is_first r.bucket (by_implied r.fills (uses_first r.bucket) b.1 x);
      few = leb→le r.draws 2 a.1;
    }

-- of a stage
abbrev pub stage_fits : (s : Stage) → Fits (row s)
stage_fits s = fit_row (row s) (row_fits s)
