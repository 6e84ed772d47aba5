-- THE INVARIANT of the index while updates and queries take turns, over the tables of `machine`.
-- It says what the paper takes for granted of its listings: where the tuples of each object lie, in the middle of an update too.
-- Beside the tables it keeps three things that no table holds (`Ghost`): who owns each bucket (the pool, a cell's chain at some
-- height, or an update that has unlinked it), the height of each chain, and for each object the places of its tuples (`Pos`).
-- Of an object there are at most four: the current tuple, the previous one, a new one that the index does not name yet (from
-- stage 11 to stage 12), and the second copy of a tuple that is moved within its cell (from stage 4 to stage 5).
-- The clauses that carry the rest: every slot below its bucket's count is exactly one such place of the object in it (`Slots`);
-- a current tuple has a positive time and a flagged previous one a negative, and the two lie in different cells (`Fit`); what the
-- index says of an object that nobody has locked is what is there (`Free`); and each update says how far it is with what it has
-- locked (`Ok`).
-- What an update says rests only on what it has locked (`frame`). So a step of another update cannot make it false, and the
-- proof of a stage has to look at its own update alone.
-- A clause is a record over just the tables that it reads: a stage that leaves those alone keeps it as it stands.
use mathlib.Core.Path.{◌≡◌, ◌∙◌}
use mathlib.Core.Logic.{◌≢◌, ◌⊎◌}
use mathlib.Core.Bool.{Bool, true, false}
use Rattle.std.specs.Prelude.{Option, None, Some}
use mathlib.Core.List.{List}
use Prim.Native.Nat.{ℕ, suc, ◌+◌, ◌-◌, ◌≤◌, ◌<◌}
use native.Mathlib.Omega.{arith}
use lib.Dec.{T, eqb}
use lib.IntN.{nat_abs}
use Rattle.machine.specs.Store.{StoreOps, Store}
use Rattle.machine.specs.Marks.{stands, stood}
use Rattle.base.specs.Sums.{sum_below, bit}
use Rattle.layout.specs.declared.place.Place.{Place}
use Rattle.layout.specs.Place.{cell_of}
use Rattle.slots.specs.Tuple.{Tuple}
use Rattle.stage.specs.declared.Stage.{Stage}
use Rattle.stage.specs.declared.Stage.TheVariants.{Idle, TakeObject, LockCell, LookLast, CopyLast, LowerCount, ReturnBucket, ErasePlace, ChooseCell, MakeRoom, WriteTuple, RaiseCount, SwitchPlace, DeleteOld, ReleaseObject}
use Rattle.stage.specs.declared.Updater.{Updater}
use Rattle.machine.specs.Machine.{Entry, Scanner, St}
use Rattle.stage.specs.StageTable.{row, given, or_else, holds_cell, cell_or}
use Rattle.cells.proofs.Chains.{Owner, in_chain, unlinked, Links, Full, Held, Loose}

-- ---- the pool, in the words of the chains' owners
pub record Stored {O : StoreOps} (S : Store O) (own : ℕ → Owner) (pool : List ℕ) : Type 0 where
  pub held : Held own (λ b. S.Has pool b)
  pub below : (b : ℕ) → S.Has pool b → b < 512
  pub fine : S.Fine pool

-- ---- for each object the places of its tuples. `fresh`: the previous tuple is not flagged yet (stage 13 is to come)
pub record Pos : Type 0 where
  pub cur : Option Place
  pub prev : Option Place
  pub new : Option Place
  pub dup : Option Place
  pub fresh : Bool

pub data Kind : Type 0 where
  k_cur : Kind
  k_prev : Kind
  k_new : Kind
  k_dup : Kind

unfoldable pub sel : Kind → Pos → Option Place
sel k_cur g = g.cur
sel k_prev g = g.prev
sel k_new g = g.new
sel k_dup g = g.dup

abbrev pub mk : Option Place → Option Place → Option Place → Option Place → Bool → Pos
mk c p n d f = record { cur = c; prev = p; new = n; dup = d; fresh = f }

abbrev pub plain : Entry → Pos
plain e = mk e.cur e.prev None None false

abbrev pub pl : ℕ → ℕ → ℕ → Place
pl c b i = record { cell = c; bucket = b; slot = i }

pub record Lives (own : ℕ → Owner) (count : ℕ → ℕ) (p : Place) : Type 0 where
  pub h : ℕ
  pub owned : own p.bucket ≡ in_chain p.cell h
  pub low : p.slot < count p.bucket

-- every live slot is exactly one place of its own tuple's object
pub record Slots (own : ℕ → Owner) (count : ℕ → ℕ) (tup : ℕ → ℕ → Tuple) (known : ℕ → Bool) (gh : ℕ → Pos) : Type 0 where
  pub back : (κ : Kind) (k : ℕ) (p : Place) → sel κ (gh k) ≡ Some p → Lives own count p × ((tup p.bucket p.slot).oid ≡ k) × T (known k)
  pub forth : (b c h i : ℕ) → own b ≡ in_chain c h → i < count b → (κ : Kind) × (sel κ (gh (tup b i).oid) ≡ Some (pl c b i))
  pub apart : (κ κ' : Kind) (k : ℕ) (p : Place) → sel κ (gh k) ≡ Some p → sel κ' (gh k) ≡ Some p → κ ≡ κ'

-- of one object: signs of its times, its two places in different cells, and a previous one only beside a current one
pub record Fit (tup : ℕ → ℕ → Tuple) (g : Pos) : Type 0 where
  pub curs : (p : Place) → g.cur ≡ Some p → T (stands (tup p.bucket p.slot).time)
  pub news : (p : Place) → g.new ≡ Some p → T (stands (tup p.bucket p.slot).time)
  pub prevs : (p : Place) → g.prev ≡ Some p → g.fresh ≡ false → T (stood (tup p.bucket p.slot).time)
  pub unflagged : (p : Place) → g.prev ≡ Some p → g.fresh ≡ true → T (stands (tup p.bucket p.slot).time)
  pub far : (p q : Place) → g.cur ≡ Some p → g.prev ≡ Some q → p.cell ≢ q.cell
  pub pair : (q : Place) → g.prev ≡ Some q → g.cur ≢ None

pub record Fits (tup : ℕ → ℕ → Tuple) (gh : ℕ → Pos) : Type 0 where
  pub fit : (k : ℕ) → Fit tup (gh k)

pub record Free (lock : ℕ → ℕ) (ent : ℕ → Entry) (gh : ℕ → Pos) : Type 0 where
  pub free : (k : ℕ) → lock k ≡ 0 → gh k ≡ plain (ent k)

-- ---- what a lane says, over the values at the things it holds
pub record Top : Type 0 where
  pub bucket : ℕ
  pub n : ℕ
  pub last : ℕ
  pub fill : Tuple

abbrev pub top_of : (ℕ → ℕ) → (ℕ → ℕ) → (ℕ → ℕ → Tuple) → ℕ → Top
top_of first count tup c = record { bucket = first c; n = count (first c); last = (tup (first c) (count (first c) - 1)).oid; fill = tup (first c) (count (first c)) }

-- the moved object's places; `d`: its second copy
pub data Moved (p : Place) (e : Entry) (g : Pos) (d : Option Place) : Type 0 where
  moved_cur : g ≡ mk (Some p) e.prev None d false → Moved p e g d
  moved_prev : g ≡ mk e.cur (Some p) None d false → Moved p e g d

pub data Lowering (k : ℕ) (p : Place) (m : ℕ) (e : Entry) (g : Pos) (em : Entry) (gm : Pos) (t : Top) : Type 0 where
  same : m ≡ k → g ≡ mk e.cur None None (Some (pl p.cell t.bucket (t.n - 1))) false → e.cur ≢ None → Lowering k p m e g em gm t
  other : m ≢ k → g ≡ mk e.cur None None None false → Moved p em gm (Some (pl p.cell t.bucket (t.n - 1))) → Lowering k p m e g em gm t

pub data Erasing (k : ℕ) (p : Place) (m : ℕ) (e : Entry) (g : Pos) (em : Entry) (gm : Pos) : Type 0 where
  same : m ≡ k → g ≡ mk e.cur None None None false → Erasing k p m e g em gm
  other : m ≢ k → g ≡ mk e.cur None None None false → Moved p em gm None → Erasing k p m e g em gm

pub record Outside (e : Entry) (c : ℕ) : Type 0 where
  pub no_prev : e.prev ≡ None
  pub out : (q : Place) → e.cur ≡ Some q → q.cell ≢ c

-- an update at this stage holds its own object's lock, that of the object whose tuple it moves, that of a cell
unfoldable pub stage_holds_own : Stage → Bool
stage_holds_own s = (row s).own

unfoldable pub mov_held : Stage → Bool
mov_held s = given (row s).moved

unfoldable pub cel_held : Stage → Bool
cel_held s = holds_cell (row s).cell

abbrev pub goal : Updater → ℕ
goal a = cell_of a.x a.y

-- the object whose tuple is moved, or its own
unfoldable pub mv : ℕ → Stage → ℕ
mv k s = or_else k (row s).moved

-- the cell held, or the one where the object is reported
unfoldable pub cl : ℕ → Stage → ℕ
cl c s = cell_or c (row s).cell

-- the bucket to be returned
unfoldable pub bk : Stage → ℕ
bk s = or_else 0 (row s).unlinked

unfoldable pub Ok : ℕ → ℕ → ℕ → Stage → Entry → Pos → Entry → Pos → Top → Owner → Type 0
Ok l k c Idle e g em gm t o = Unit {0}
Ok l k c TakeObject e g em gm t o = Unit {0}
Ok l k c (LockCell p) e g em gm t o = (e.prev ≡ Some p) × (g ≡ plain e)
Ok l k c (LookLast p) e g em gm t o = (e.prev ≡ Some p) × (g ≡ plain e)
Ok l k c (CopyLast p m) e g em gm t o = (e.prev ≡ Some p) × (g ≡ plain e) × (gm ≡ plain em) × (t.last ≡ m)
Ok l k c (LowerCount p m) e g em gm t o = Lowering k p m e g em gm t
Ok l k c (ReturnBucket p m b) e g em gm t o = Erasing k p m e g em gm × ((h : ℕ) × (o ≡ unlinked l p.cell h))
Ok l k c (ErasePlace p m) e g em gm t o = Erasing k p m e g em gm
Ok l k c ChooseCell e g em gm t o = (g ≡ plain e) × (e.prev ≡ None)
Ok l k c MakeRoom e g em gm t o = (g ≡ plain e) × Outside e (c)
Ok l k c WriteTuple e g em gm t o = (g ≡ plain e) × Outside e (c) × (t.bucket < 512) × (t.n < 4)
Ok l k c (RaiseCount p) e g em gm t o = (g ≡ plain e) × Outside e (c) × (t.bucket < 512) × (t.n < 4) × (p ≡ pl (c) t.bucket t.n) × (t.fill.oid ≡ k) × T (stands t.fill.time) × (cell_of t.fill.x t.fill.y ≡ c)
Ok l k c (SwitchPlace p) e g em gm t o = (g ≡ mk e.cur None (Some p) None false) × Outside e (c) × (p.cell ≡ c)
Ok l k c (DeleteOld p) e g em gm t o = (e.prev ≡ Some p) × (g ≡ mk e.cur e.prev None None true)
Ok l k c ReleaseObject e g em gm t o = g ≡ plain e

-- what a lane says is kept where the values at the things it holds are kept
pub frame : (l k c : ℕ) (s : Stage) {e e' em em' : Entry} {g g' gm gm' : Pos} {t t' : Top} {o o' : Owner}
    → (T (stage_holds_own s) → (e ≡ e') × (g ≡ g')) → (T (mov_held s) → (em ≡ em') × (gm ≡ gm')) → (T (cel_held s) → t ≡ t') → ((c h : ℕ) → o ≡ unlinked l c h → o' ≡ o)
    → Ok l k c s e g em gm t o → Ok l k c s e' g' em' gm' t' o'
unfolding Ok stage_holds_own mov_held cel_held
frame l k c Idle E M C O w = tt
frame l k c TakeObject E M C O w = tt
frame l k c (LockCell p) E M C O w = rw (← (E tt).0, ← (E tt).1) w
frame l k c (LookLast p) E M C O w = rw (← (E tt).0, ← (E tt).1) w
frame l k c (CopyLast p m) E M C O w = rw (← (E tt).0, ← (E tt).1, ← (M tt).0, ← (M tt).1, ← (C tt)) w
frame l k c (LowerCount p m) E M C O w = rw (← (E tt).0, ← (E tt).1, ← (M tt).0, ← (M tt).1, ← (C tt)) w
frame l k c (ReturnBucket p m b) E M C O w = (rw (← (E tt).0, ← (E tt).1, ← (M tt).0, ← (M tt).1) w.0, (w.1.0, O p.cell w.1.0 w.1.1 ∙ w.1.1))
frame l k c (ErasePlace p m) E M C O w = rw (← (E tt).0, ← (E tt).1, ← (M tt).0, ← (M tt).1) w
frame l k c ChooseCell E M C O w = rw (← (E tt).0, ← (E tt).1) w
frame l k c MakeRoom E M C O w = rw (← (E tt).0, ← (E tt).1) w
frame l k c WriteTuple E M C O w = rw (← (E tt).0, ← (E tt).1, ← (C tt)) w
frame l k c (RaiseCount p) E M C O w = rw (← (E tt).0, ← (E tt).1, ← (C tt)) w
frame l k c (SwitchPlace p) E M C O w = rw (← (E tt).0, ← (E tt).1) w
frame l k c (DeleteOld p) E M C O w = rw (← (E tt).0, ← (E tt).1) w
frame l k c ReleaseObject E M C O w = rw (← (E tt).0, ← (E tt).1) w

pub record Ghost : Type 0 where
  pub own : ℕ → Owner
  pub height : ℕ → ℕ
  pub gh : ℕ → Pos

-- lane l, at the tables
abbrev pub OkAt : ℕ → Ghost → St → Type 0
OkAt l g d =
    let a = d.lanes l in
    Ok l a.oid (goal a) a.stage (d.ent a.oid) (g.gh a.oid) (d.ent (mv a.oid a.stage)) (g.gh (mv a.oid a.stage)) (top_of d.first d.count d.tup (cl (goal a) a.stage)) (g.own (bk a.stage))

pub record Lanes (known : ℕ → Bool) (lanes : ℕ → Updater) : Type 0 where
  pub fine : (l : ℕ) → l < 8 → (lanes l).stage ≢ Idle → T (known (lanes l).oid) × ((lanes l).x < 16384) × ((lanes l).y < 16384) × ((lanes l).tag ≤ 9)

pub record CellLocks (cell_lock : ℕ → ℕ) (lanes : ℕ → Updater) : Type 0 where
  pub mine : (l : ℕ) → l < 8 → T (cel_held (lanes l).stage) → cell_lock (cl (goal (lanes l)) (lanes l).stage) ≡ suc l
  pub his : (c l : ℕ) → cell_lock c ≡ suc l → (l < 8) × T (cel_held (lanes l).stage) × (cl (goal (lanes l)) (lanes l).stage ≡ c) × (c < 256)

pub record ObjLocks (lock : ℕ → ℕ) (lanes : ℕ → Updater) : Type 0 where
  pub own : (l : ℕ) → l < 8 → T (stage_holds_own (lanes l).stage) → lock (lanes l).oid ≡ suc l
  pub mov : (l : ℕ) → l < 8 → T (mov_held (lanes l).stage) → lock (mv (lanes l).oid (lanes l).stage) ≡ suc l
  pub his : (k l : ℕ) → lock k ≡ suc l → (l < 8) × ((T (stage_holds_own (lanes l).stage) × ((lanes l).oid ≡ k)) ⊎ (T (mov_held (lanes l).stage) × (mv (lanes l).oid (lanes l).stage ≡ k)))

unfoldable pub filling : Stage → Bool
filling s = (row s).fills

unfoldable pub draws : Stage → ℕ
draws s = (row s).draws

-- a bucket of a chain has a tuple, unless its cell's holder is about to write one
pub record Filled (own : ℕ → Owner) (count cell_lock : ℕ → ℕ) (lanes : ℕ → Updater) : Type 0 where
  pub filled : (b c h : ℕ) → own b ≡ in_chain c h → (0 < count b) ⊎ ((l : ℕ) × (l < 8) × T (filling (lanes l).stage) × (cl (goal (lanes l)) (lanes l).stage ≡ c))

pub record Back (own : ℕ → Owner) (lanes : ℕ → Updater) : Type 0 where
  pub lane : (b l c h : ℕ) → own b ≡ unlinked l c h → (b < 512) × (l < 8) × ((p : Place) × (m : ℕ) × ((lanes l).stage ≡ ReturnBucket p m b))

unfoldable pub stands_in_lem : Option ℕ → ℕ → Bool
stands_in_lem None b = false
stands_in_lem (Some b') b = eqb b' b

-- a query stands in a bucket of its cell, or in one just unlinked; the slots it has still to read have been written, in that cell
pub record Standing (own : ℕ → Owner) (tup : ℕ → ℕ → Tuple) (b c left : ℕ) : Type 0 where
  pub h : ℕ
  pub owned : (own b ≡ in_chain c h) ⊎ ((l : ℕ) × (own b ≡ unlinked l c h))
  pub few : left ≤ 4
  pub written : (i : ℕ) → i < left → 0 < nat_abs (tup b i).time
  pub here : (i : ℕ) → i < left → (cell_of (tup b i).x (tup b i).y ≡ c) × ((tup b i).x < 16384) × ((tup b i).y < 16384)

pub record Reading (own : ℕ → Owner) (tup : ℕ → ℕ → Tuple) (readers : ℕ → ℕ) (queries : ℕ → Scanner) : Type 0 where
  pub exact : (b : ℕ) → readers b ≡ sum_below 4 (λ q. bit (stands_in_lem (queries q).bucket b))
  pub standing : (q b : ℕ) → q < 4 → (queries q).bucket ≡ Some b → Standing own tup b (queries q).cell (queries q).left

-- Every slot, live or not: its time is one that a stamp may have, or 0; a flagged one was drawn, so it is not above the clock (a positive one may be: a repair keeps the stamps that it finds); its object is known.
pub record Young (tup : ℕ → ℕ → Tuple) (known : ℕ → Bool) (clock : ℕ) : Type 0 where
  pub range : (b i : ℕ) → nat_abs (tup b i).time ≤ 2147483647
  pub young : (b i : ℕ) → T (stood (tup b i).time) → nat_abs (tup b i).time ≤ clock
  pub heard : (b i : ℕ) → 0 < nat_abs (tup b i).time → T (known (tup b i).oid)

-- every live slot's tuple lies in its cell, has a time, is on the grid, and has a tag up to 9
pub record Placed (own : ℕ → Owner) (count : ℕ → ℕ) (tup : ℕ → ℕ → Tuple) : Type 0 where
  pub inside : (b c h i : ℕ) → own b ≡ in_chain c h → i < count b → (cell_of (tup b i).x (tup b i).y ≡ c) × (0 < nat_abs (tup b i).time) × ((tup b i).x < 16384) × ((tup b i).y < 16384) × ((tup b i).tag ≤ 9)

-- the numbers of the chains' tables are in their ranges, whether the bucket is in a chain or not
pub record Bounded (first next count : ℕ → ℕ) : Type 0 where
  pub firsts : (c : ℕ) → first c ≤ 512
  pub nexts : (b : ℕ) → next b ≤ 512
  pub counts : (b : ℕ) → count b ≤ 4

-- the tuple that stage 10 wrote, not yet counted, is at the reported place, with the tag reported
pub record Written (tup : ℕ → ℕ → Tuple) (lanes : ℕ → Updater) : Type 0 where
  pub filled : (l : ℕ) → l < 8 → (p : Place) → (lanes l).stage ≡ RaiseCount p → ((tup p.bucket p.slot).x ≡ (lanes l).x) × ((tup p.bucket p.slot).y ≡ (lanes l).y) × ((tup p.bucket p.slot).tag ≡ (lanes l).tag)

-- the clock has room for every draw to come
pub record Ticks (clock : ℕ) (lanes : ℕ → Updater) : Type 0 where
  pub left : clock + sum_below 8 (λ l. draws (lanes l).stage) ≤ 2147483647

-- the objects of a class, numbered below 256
pub record Numbered (C : ℕ → Type 0) : Type 0 where
  pub rank : ℕ → ℕ
  pub low : (k : ℕ) → C k → rank k < 256
  pub one : (j k : ℕ) → C j → C k → rank j ≡ rank k → j ≡ k

-- the known objects, numbered below their number
pub record Ranked (known : ℕ → Bool) (size : ℕ) : Type 0 where
  pub rank : ℕ → ℕ
  pub low : (k : ℕ) → T (known k) → rank k < size
  pub one : (j k : ℕ) → T (known j) → T (known k) → rank j ≡ rank k → j ≡ k
  pub most : size ≤ 256

pub numbered : {known : ℕ → Bool} {size : ℕ} → Ranked known size → Numbered (λ k. T (known k))
numbered R = record { rank = R.rank; low = λ k t. omega (arith, R.low k t, R.most); one = R.one }

pub record Inv {O : StoreOps} (S : Store O) (g : Ghost) (d : St) : Type 0 where
  pub links : Links g.own g.height d.first d.next
  pub full : Full g.own g.height d.count
  pub stored : Stored S g.own d.pool
  pub slots : Slots g.own d.count d.tup d.known g.gh
  pub fits : Fits d.tup g.gh
  pub free : Free d.lock d.ent g.gh
  pub ok : (l : ℕ) → l < 8 → OkAt l g d
  pub ranks : Ranked d.known d.size
  pub ticks : Ticks d.clock d.lanes
  pub young : Young d.tup d.known d.clock
  pub loose : Loose g.own d.next d.count
  pub bounded : Bounded d.first d.next d.count
  pub reading : Reading g.own d.tup d.readers d.queries
  pub placed : Placed g.own d.count d.tup
  pub written : Written d.tup d.lanes
  pub lanes : Lanes d.known d.lanes
  pub cells : CellLocks d.cell_lock d.lanes
  pub objs : ObjLocks d.lock d.lanes
  pub filled : Filled g.own d.count d.cell_lock d.lanes
  pub back : Back g.own d.lanes
