-- The fourteen stages of an update over tables that are functions; the index is an abstract map keyed by oid, the pool abstract (StoreOps).
use Rattle.std.specs.Prelude.{Bool, true, not, ◌&&◌, List, ℕ, zero, suc, ◌-◌, eqb, ltb, leb, ℤ, pos, negsuc, nat_abs}
use Rattle.std.specs.Prelude.{Option, None, Some}
use Rattle.std.specs.Int.Signed.{lt_z}
use Rattle.base.specs.Table.{upd}
use Rattle.base.specs.Outcome.{pick}
use Rattle.machine.specs.Ends.{need, and_then}
use Rattle.layout.specs.Place.{cell_of}
use Rattle.layout.specs.declared.place.Place.{Place}
use Rattle.slots.specs.Tuple.{Tuple}
use Rattle.stage.specs.declared.Stage.{Stage}
use Rattle.stage.specs.declared.Stage.TheVariants.{Idle, TakeObject, LockCell, LookLast, CopyLast, LowerCount, ReturnBucket, ErasePlace, ChooseCell, MakeRoom, WriteTuple, RaiseCount, SwitchPlace, DeleteOld, ReleaseObject}
use Rattle.stage.specs.declared.Updater.{Updater}
use Rattle.stage.specs.Turn.{is_idle}
use Rattle.machine.specs.Store.{StoreOps}

-- an index entry's places
pub record Entry : Type 0 where
  pub cur : Option Place
  pub prev : Option Place

-- a query: the cell it scans, the bucket it stands in, the slots left to read
pub record Scanner : Type 0 where
  pub cell : ℕ
  pub bucket : Option ℕ
  pub left : ℕ

pub record St : Type 0 where
  pub first : ℕ → ℕ
  pub next : ℕ → ℕ
  pub count : ℕ → ℕ
  pub readers : ℕ → ℕ
  pub cell_lock : ℕ → ℕ
  pub tup : ℕ → ℕ → Tuple
  pub known : ℕ → Bool
  pub size : ℕ
  pub lock : ℕ → ℕ
  pub ent : ℕ → Entry
  pub pool : List ℕ
  pub clock : ℕ
  pub lanes : ℕ → Updater
  pub queries : ℕ → Scanner

abbrev pub with_first : St → (ℕ → ℕ) → St
with_first d v = record { first = v; next = d.next; count = d.count; readers = d.readers; cell_lock = d.cell_lock; tup = d.tup; known = d.known; size = d.size; lock = d.lock; ent = d.ent; pool = d.pool; clock = d.clock; lanes = d.lanes; queries = d.queries }

abbrev pub with_next : St → (ℕ → ℕ) → St
with_next d v = record { first = d.first; next = v; count = d.count; readers = d.readers; cell_lock = d.cell_lock; tup = d.tup; known = d.known; size = d.size; lock = d.lock; ent = d.ent; pool = d.pool; clock = d.clock; lanes = d.lanes; queries = d.queries }

abbrev pub with_count : St → (ℕ → ℕ) → St
with_count d v = record { first = d.first; next = d.next; count = v; readers = d.readers; cell_lock = d.cell_lock; tup = d.tup; known = d.known; size = d.size; lock = d.lock; ent = d.ent; pool = d.pool; clock = d.clock; lanes = d.lanes; queries = d.queries }

abbrev pub with_readers : St → (ℕ → ℕ) → St
with_readers d v = record { first = d.first; next = d.next; count = d.count; readers = v; cell_lock = d.cell_lock; tup = d.tup; known = d.known; size = d.size; lock = d.lock; ent = d.ent; pool = d.pool; clock = d.clock; lanes = d.lanes; queries = d.queries }

abbrev pub with_cell_lock : St → (ℕ → ℕ) → St
with_cell_lock d v = record { first = d.first; next = d.next; count = d.count; readers = d.readers; cell_lock = v; tup = d.tup; known = d.known; size = d.size; lock = d.lock; ent = d.ent; pool = d.pool; clock = d.clock; lanes = d.lanes; queries = d.queries }

abbrev pub with_tup : St → (ℕ → ℕ → Tuple) → St
with_tup d v = record { first = d.first; next = d.next; count = d.count; readers = d.readers; cell_lock = d.cell_lock; tup = v; known = d.known; size = d.size; lock = d.lock; ent = d.ent; pool = d.pool; clock = d.clock; lanes = d.lanes; queries = d.queries }

abbrev pub with_known : St → (ℕ → Bool) → St
with_known d v = record { first = d.first; next = d.next; count = d.count; readers = d.readers; cell_lock = d.cell_lock; tup = d.tup; known = v; size = d.size; lock = d.lock; ent = d.ent; pool = d.pool; clock = d.clock; lanes = d.lanes; queries = d.queries }

abbrev pub with_size : St → (ℕ) → St
with_size d v = record { first = d.first; next = d.next; count = d.count; readers = d.readers; cell_lock = d.cell_lock; tup = d.tup; known = d.known; size = v; lock = d.lock; ent = d.ent; pool = d.pool; clock = d.clock; lanes = d.lanes; queries = d.queries }

abbrev pub with_lock : St → (ℕ → ℕ) → St
with_lock d v = record { first = d.first; next = d.next; count = d.count; readers = d.readers; cell_lock = d.cell_lock; tup = d.tup; known = d.known; size = d.size; lock = v; ent = d.ent; pool = d.pool; clock = d.clock; lanes = d.lanes; queries = d.queries }

abbrev pub with_ent : St → (ℕ → Entry) → St
with_ent d v = record { first = d.first; next = d.next; count = d.count; readers = d.readers; cell_lock = d.cell_lock; tup = d.tup; known = d.known; size = d.size; lock = d.lock; ent = v; pool = d.pool; clock = d.clock; lanes = d.lanes; queries = d.queries }

abbrev pub with_pool : St → (List ℕ) → St
with_pool d v = record { first = d.first; next = d.next; count = d.count; readers = d.readers; cell_lock = d.cell_lock; tup = d.tup; known = d.known; size = d.size; lock = d.lock; ent = d.ent; pool = v; clock = d.clock; lanes = d.lanes; queries = d.queries }

abbrev pub with_clock : St → (ℕ) → St
with_clock d v = record { first = d.first; next = d.next; count = d.count; readers = d.readers; cell_lock = d.cell_lock; tup = d.tup; known = d.known; size = d.size; lock = d.lock; ent = d.ent; pool = d.pool; clock = v; lanes = d.lanes; queries = d.queries }

abbrev pub with_lanes : St → (ℕ → Updater) → St
with_lanes d v = record { first = d.first; next = d.next; count = d.count; readers = d.readers; cell_lock = d.cell_lock; tup = d.tup; known = d.known; size = d.size; lock = d.lock; ent = d.ent; pool = d.pool; clock = d.clock; lanes = v; queries = d.queries }

abbrev pub with_queries : St → (ℕ → Scanner) → St
with_queries d v = record { first = d.first; next = d.next; count = d.count; readers = d.readers; cell_lock = d.cell_lock; tup = d.tup; known = d.known; size = d.size; lock = d.lock; ent = d.ent; pool = d.pool; clock = d.clock; lanes = d.lanes; queries = v }

abbrev pub Out : Type 0
Out = St × ℕ

-- one slot's tuple replaced
abbrev pub put : (ℕ → ℕ → Tuple) → ℕ → ℕ → Tuple → ℕ → ℕ → Tuple
put t b i v = upd t b (upd (t b) i v)

abbrev pub to : Updater → Stage → Updater
to a s = record { oid = a.oid; x = a.x; y = a.y; tag = a.tag; stage = s }

abbrev pub put_lane : ℕ → Updater → Stage → St → St
put_lane l a s d = with_lanes d (upd d.lanes l (to a s))

abbrev pub on : ℕ → Updater → Stage → St → Option Out
on l a s d = Some (put_lane l a s d, 0)

abbrev pub held_out : St → Option Out
held_out d = Some (d, 20)

-- go by a place or none
unfoldable pub fork : {B : Type 0} → Option Place → (Place → B) → B → B
fork None f b = b
fork (Some p) f b = f p

-- the place, if it is in the cell
unfoldable pub place_in_cell : Option Place → ℕ → Option Place
place_in_cell None c = None
place_in_cell (Some p) c = pick (eqb p.cell c) (Some p) None

unfoldable pub stage1 : ℕ → Updater → St → Option Out
stage1 l a d =
    let k = a.oid in
    need (d.known k)
    (pick (eqb (d.lock k) 0)
    (let d₁ = with_lock d (upd d.lock k (suc l)) in
    fork (d.ent k).prev (λ p. on l a (LockCell p) d₁) (on l a ChooseCell d₁))
    (held_out d))

unfoldable pub stage2 : ℕ → Updater → Place → St → Option Out
stage2 l a p d =
    need (ltb p.cell 256)
    (pick (eqb (d.cell_lock p.cell) 0)
    (on l a (LookLast p) (with_cell_lock d (upd d.cell_lock p.cell (suc l))))
    (held_out d))

unfoldable pub stage3 : ℕ → Updater → Place → St → Option Out
stage3 l a p d =
    let f = d.first p.cell in
    need (ltb f 512)
    (let n = d.count f in
    need (ltb 0 n && leb n 4)
    (let m = (d.tup f (n - 1)).oid in
    pick (eqb m a.oid)
    (on l a (CopyLast p a.oid) d)
    (need (d.known m)
    (pick (eqb (d.lock m) 0)
    (on l a (CopyLast p m) (with_lock d (upd d.lock m (suc l))))
    (Some (put_lane l a TakeObject (with_cell_lock (with_lock d (upd d.lock a.oid 0)) (upd d.cell_lock p.cell 0)), 21))))))

unfoldable pub stage4 : ℕ → Updater → Place → ℕ → St → Option Out
stage4 l a p m d =
    let f = d.first p.cell in
    need (ltb f 512)
    (let n = d.count f in
    need (ltb 0 n && leb n 4)
    (on l a (LowerCount p m) (with_tup d (put d.tup p.bucket p.slot (d.tup f (n - 1))))))

unfoldable pub stage5 : ℕ → Updater → Place → ℕ → St → Option Out
stage5 l a p m d =
    let f = d.first p.cell in
    need (ltb f 512)
    (let n = d.count f in
    need (ltb 0 n && leb n 4)
    (let d₁ = with_count d (upd d.count f (n - 1)) in
    pick (eqb n 1)
    (need (leb (d.next f) 512) (on l a (ReturnBucket p m f) (with_first d₁ (upd d.first p.cell (d.next f)))))
    (on l a (ErasePlace p m) d₁)))

unfoldable pub stage6 : StoreOps → ℕ → Updater → Place → ℕ → ℕ → St → Option Out
stage6 O l a p m b d =
    pick (eqb (d.readers b) 0)
    (on l a (ErasePlace p m) (with_pool d (O.give d.pool b)))
    (held_out d)

abbrev pub no_prev : Entry → Entry
no_prev e = record { cur = e.cur; prev = None }

-- the moved object's entry, current or previous by the time's sign
unfoldable pub corrected : Entry → ℤ → Place → Entry
corrected e z p = pick (lt_z z (pos 0)) (record { cur = e.cur; prev = Some p }) (record { cur = Some p; prev = e.prev })

unfoldable pub stage7 : ℕ → Updater → Place → ℕ → St → Option Out
stage7 l a p m d =
    let k = a.oid in
    need (d.known k)
    (let d₁ = with_cell_lock (with_ent d (upd d.ent k (no_prev (d.ent k)))) (upd d.cell_lock p.cell 0) in
    pick (eqb m k)
    (on l a ChooseCell d₁)
    (need (d.known m)
    (on l a ChooseCell (with_lock (with_ent d₁ (upd (upd d.ent k (no_prev (d.ent k))) m (corrected (d.ent m) (d.tup p.bucket p.slot).time p))) (upd d.lock m 0)))))

unfoldable pub stage8 : ℕ → Updater → St → Option Out
stage8 l a d =
    let k = a.oid in
    let c = cell_of a.x a.y in
    need (d.known k)
    (fork (place_in_cell (d.ent k).cur c)
    (λ p. need (ltb d.clock 2147483647) (on l a ReleaseObject (with_clock (with_tup d (put d.tup p.bucket p.slot (record { oid = (d.tup p.bucket p.slot).oid; x = a.x; y = a.y; tag = a.tag; time = pos (suc d.clock) }))) (suc d.clock))))
    (need (ltb c 256)
    (pick (eqb (d.cell_lock c) 0)
    (on l a MakeRoom (with_cell_lock d (upd d.cell_lock c (suc l))))
    (held_out d))))

unfoldable pub take_first : StoreOps → ℕ → Updater → ℕ → St → Option Out
take_first O l a c d =
    and_then (O.take_one d.pool) λ r.
    need (ltb r.0 512)
    (on l a WriteTuple (with_first (with_next (with_count (with_pool d r.1) (upd d.count r.0 0)) (upd d.next r.0 (d.first c))) (upd d.first c r.0)))

unfoldable pub stage9 : StoreOps → ℕ → Updater → St → Option Out
stage9 O l a d =
    let c = cell_of a.x a.y in
    let f = d.first c in
    pick (eqb f 512)
    (take_first O l a c d)
    (need (ltb f 512)
    (need (leb (d.count f) 4)
    (pick (eqb (d.count f) 4)
    (take_first O l a c d)
    (on l a WriteTuple d))))

abbrev pub new_tuple : Updater → ℕ → Tuple
new_tuple a t = record { oid = a.oid; x = a.x; y = a.y; tag = a.tag; time = pos (suc t) }

unfoldable pub stage10 : ℕ → Updater → St → Option Out
stage10 l a d =
    let c = cell_of a.x a.y in
    let f = d.first c in
    need (ltb f 512)
    (let n = d.count f in
    need (ltb n 4)
    (need (ltb d.clock 2147483647)
    (on l a (RaiseCount (record { cell = c; bucket = f; slot = n }))
    (with_clock (with_tup d (put d.tup f n (new_tuple a d.clock))) (suc d.clock)))))

unfoldable pub stage11 : ℕ → Updater → Place → St → Option Out
stage11 l a p d =
    need (ltb (d.count p.bucket) 4)
    (on l a (SwitchPlace p) (with_count d (upd d.count p.bucket (suc (d.count p.bucket)))))

unfoldable pub stage12 : ℕ → Updater → Place → St → Option Out
stage12 l a p d =
    let k = a.oid in
    need (d.known k)
    (let d₁ = with_cell_lock (with_ent d (upd d.ent k (record { cur = Some p; prev = (d.ent k).cur }))) (upd d.cell_lock p.cell 0) in
    fork (d.ent k).cur (λ q. on l a (DeleteOld q) d₁) (on l a ReleaseObject d₁))

abbrev pub flagged : Tuple → ℕ → Tuple
flagged t n = record { oid = t.oid; x = t.x; y = t.y; tag = t.tag; time = negsuc n }

unfoldable pub stage13 : ℕ → Updater → Place → St → Option Out
stage13 l a q d =
    need (ltb d.clock 2147483647) (on l a ReleaseObject (with_clock (with_tup d (put d.tup q.bucket q.slot (flagged (d.tup q.bucket q.slot) d.clock))) (suc d.clock)))

unfoldable pub stage14 : ℕ → Updater → St → Option Out
stage14 l a d =
    need (d.known a.oid)
    (Some (put_lane l a Idle (with_lock d (upd d.lock a.oid 0)), 22))

unfoldable pub do_stage : StoreOps → ℕ → Updater → St → Stage → Option Out
do_stage O l a d Idle = Some (d, 3)
do_stage O l a d TakeObject = stage1 l a d
do_stage O l a d (LockCell p) = stage2 l a p d
do_stage O l a d (LookLast p) = stage3 l a p d
do_stage O l a d (CopyLast p m) = stage4 l a p m d
do_stage O l a d (LowerCount p m) = stage5 l a p m d
do_stage O l a d (ReturnBucket p m b) = stage6 O l a p m b d
do_stage O l a d (ErasePlace p m) = stage7 l a p m d
do_stage O l a d ChooseCell = stage8 l a d
do_stage O l a d MakeRoom = stage9 O l a d
do_stage O l a d WriteTuple = stage10 l a d
do_stage O l a d (RaiseCount p) = stage11 l a p d
do_stage O l a d (SwitchPlace p) = stage12 l a p d
do_stage O l a d (DeleteOld q) = stage13 l a q d
do_stage O l a d ReleaseObject = stage14 l a d

-- ---- a query's steps (any unlocked cell may be entered: more than the walk does)
unfoldable pub enter_at : ℕ → ℕ → St → Option Out
enter_at q c d =
    let f = d.first c in
    pick (eqb (d.cell_lock c) 0)
    (pick (eqb f 512) (Some (d, 0))
    (need (ltb f 512) (need (ltb (d.readers f) 4) (need (leb (d.count f) 4)
    (Some (with_queries (with_readers d (upd d.readers f (suc (d.readers f)))) (upd d.queries q (record { cell = c; bucket = Some f; left = d.count f })), 0))))))
    (held_out d)

unfoldable pub leave_at : ℕ → ℕ → St → Option Out
leave_at q b d =
    let n = d.next b in
    let c = (d.queries q).cell in
    need (ltb 0 (d.readers b))
    (pick (eqb n 512)
    (Some (with_queries (with_readers d (upd d.readers b (d.readers b - 1))) (upd d.queries q (record { cell = c; bucket = None; left = 0 })), 0))
    (need (ltb n 512) (need (ltb (d.readers n) 4) (need (leb (d.count n) 4)
    (Some (with_queries (with_readers d (upd (upd d.readers n (suc (d.readers n))) b (d.readers b - 1))) (upd d.queries q (record { cell = c; bucket = Some n; left = d.count n })), 0))))))

unfoldable pub read_out_at : ℕ → ℕ → ℕ → St → Option Out
read_out_at q b zero d = leave_at q b d
read_out_at q b (suc r) d =
    need (ltb 0 (nat_abs (d.tup b r).time) && d.known (d.tup b r).oid)
    (Some (with_queries d (upd d.queries q (record { cell = (d.queries q).cell; bucket = Some b; left = r })), 0))

unfoldable pub query_step : ℕ → ℕ → Option ℕ → St → Option Out
query_step q c None d = enter_at q c d
query_step q c (Some b) d = read_out_at q b (d.queries q).left d

unfoldable pub begin : ℕ → ℕ → ℕ → ℕ → ℕ → St → Option Out
begin l k x y m d =
    pick (not (ltb l 8)) (Some (d, 1))
    (pick (not (is_idle (d.lanes l).stage)) (Some (d, 2))
    (pick (eqb k 0) (Some (d, 4))
    (pick (not (ltb x 16384 && ltb y 16384)) (Some (d, 5))
    (pick (not (leb m 9)) (Some (d, 31))
    (pick (not (d.known k) && leb 256 d.size) (Some (d, 7))
    (pick (leb 2147483600 d.clock) (Some (d, 8))
    (Some (with_lanes (with_size (with_known d (upd d.known k true)) (pick (d.known k) d.size (suc d.size))) (upd d.lanes l (record { oid = k; x = x; y = y; tag = m; stage = TakeObject })), 0))))))))
