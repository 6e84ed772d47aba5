-- Stages 7 and 12 of an update, which change places in the object index: what the grid does is what the machine does.
-- A store to the tables of places or of locks, at the entry at which an object is found, is a change of that entry; so the machine sees
-- a change at that object alone. This is shown once, over any index reached so from the one at the start (`Now`), and each stage is a row
-- of such stores and the release of a cell. That a place has a number, and that the moved tuple has a stamp with a sign, is the invariant's.
use mathlib.Core.Path.{◌≡◌, refl, sym, ap, ◌∙◌}
use mathlib.Core.Logic.{◌≢◌}
use mathlib.Core.Bool.{Bool, true, false}
use Rattle.std.specs.Prelude.{Option, None, Some}
use mathlib.Core.List.{List}
use Prim.Native.Nat.{ℕ, suc, ◌<◌, ◌≤◌}
use native.Mathlib.Omega.{arith}
use lib.Dec.{eqb}
use lib.IntN.{ℤ, pos, negsuc, nat_abs}
use lib.ListN.{length, get_or, set, length-set}
use lib.Seq.{set-get_or}
use lib.Signed.{lt_z}
use borrow.Author.Tests.{eqb-false, lt-ltb, le-ltb, ne_eqb}
use Rattle.base.specs.Outcome.{done, need, pick, and_then}
use Rattle.base.specs.Step.{lift}
use Rattle.base.specs.Table.{at, upd}
use Rattle.base.proofs.Table.{at_set, upd_other, by_test}
use Rattle.layout.specs.Place.{encode, nowhere}
use Rattle.layout.specs.declared.place.Place.{Place}
use Rattle.layout.proofs.Places.{decode_encode, decode_nowhere, encode_some}
use Rattle.locks.proofs.Laws.{release_some}
use Rattle.slots.specs.Stamp.{stamp_of}
use Rattle.slots.specs.Tuple.{Tuples, Tuple, need_slot, sign_of, sign}
use Rattle.index.specs.Search.{search as find}
use Rattle.index.specs.Places.{put_place, erase_place, shift}
use Rattle.index.specs.Index.{Index, index_of, Entry, entry_for}
use Rattle.index.specs.declared.search.Search.TheVariants.{Found}
use Rattle.index.proofs.Map.{Sound, change, sound_change, found_lookup}
use Rattle.index.proofs.Probe.{found_below}
use Rattle.stage.specs.declared.Stage.{Stage}
use Rattle.stage.specs.declared.Stage.TheVariants.{ErasePlace, ChooseCell, SwitchPlace, DeleteOld, ReleaseObject}
use Rattle.stage.specs.declared.Updater.{Updater}
use Rattle.stage.specs.Turn.{at_entry}
use Rattle.erase.specs.Erase.{erasing_of, free_cell, correct, correct_moved, stage7}
use Rattle.commit.specs.Commit.{stage12, after_switching}
use Rattle.tables.specs.Tables.{Tables, with_cells, with_index}
use Rattle.turns.specs.Stages.{stage_on}
use Rattle.updates.specs.Update.{idle_updater, put_stage}
use Rattle.grid.specs.Run.{Grid, grid_of}
use Rattle.machine.specs.Machine.{Entry as Places, St, Out, put_lane, on, fork, with_cell_lock, with_lock, with_ent, no_prev, corrected, do_stage, stage7 as stage7m, stage12 as stage12m}
use Rattle.tuples.proofs.Inv.{Pos, Kind, k_cur, k_prev, k_new, sel, moved_cur, moved_prev, Erasing, cel_held, mv, cl, Ok, Ghost, Inv}
use Rattle.tuples.proofs.Facts.{at_stage}
use Rattle.tuples.proofs.Main.{ranges, place_range}
use Rattle.runs.proofs.Bucket.{ops, store}
use Rattle.runs.proofs.Sim.{Sim, sim_moved, need_some_lem, some_one, lanes-set, lanes-length}
use Rattle.runs.proofs.Sizes.{lengths_cells, lengths_index}
use Rattle.runs.proofs.View.{view, Shape, Coded, coded_change, came, place_f, known_f, lock_f, places_f, tup_f, tup_at, map_change, upd_id}
use Rattle.runs.proofs.Objects.{known_found, decode_at}

-- ---- places as numbers

-- the machine sees a place's number as the place
place_seen : (p : Place) (n : ℕ) → encode p ≡ done n → place_f n ≡ Some p
unfolding came
place_seen p n e = rw (decode_encode p n e)

-- and 524,288 as none
nowhere_seen : place_f 524288 ≡ None
unfolding came
nowhere_seen = rw decode_nowhere

-- the old place is read and the new one written
shift_done : (current previous : List ℕ) (i : ℕ) (p : Place) (n : ℕ) → i < length current → i < length previous → at current i ≤ 524288 → encode p ≡ done n
    → shift current previous i p ≡ done (record { old = place_f (at current i); current = set current i n; previous = set previous i (at current i) })
unfolding shift need and_then came
shift_done current previous i p n c< p< h e = rw (lt-ltb i (length current) c<, lt-ltb i (length previous) p<, decode_at (at current i) h, e)

-- ---- what the machine sees of an index

abbrev knowns_of : Index → ℕ → Bool
knowns_of x = λ k. known_f (entry_for x k)

abbrev locks_of : Index → ℕ → ℕ
locks_of x = λ k. lock_f (entry_for x k)

abbrev places_of : Index → ℕ → Places
places_of x = λ k. places_f (entry_for x k)

-- ---- an index on its way from d: the same objects, found at the same entries, with locks L and places E

record Now (d x : Index) (L : ℕ → ℕ) (E : ℕ → Places) : Type 0 where
  oids : x.oid ≡ d.oid
  sound : Sound x
  coded : Coded x
  knows : knowns_of x ≡ knowns_of d
  locks : locks_of x ≡ L
  places : places_of x ≡ E

-- the one at the start
now_start : (d : Index) → Sound d → Coded d → Now d d (locks_of d) (places_of d)
now_start d S C = record { oids = refl; sound = S; coded = C; knows = refl; locks = refl; places = refl }

-- an object found at entry i, and the entry changed
module _ (d x : Index) (L : ℕ → ℕ) (E : ℕ → Places) (k i : ℕ) (q : find d.oid k ≡ Found i) (W : Now d x L E) where
  here : find x.oid k ≡ Found i
  here = rw W.oids q

  -- what the machine sees of the entry
  lock_here : L k ≡ at x.lock i
  unfolding lock_f
  lock_here = rw (← W.locks, found_lookup x k here)

  places_here : E k ≡ record { cur = place_f (at x.current i); prev = place_f (at x.previous i) }
  unfolding places_f
  places_here = rw (← W.places, found_lookup x k here)

  -- the whole entry
  now_change : (e : Entry) → e.current ≤ 524288 → e.previous ≤ 524288 → e.lock ≤ 8
      → Now d (change x i e) (upd L k e.lock) (upd E k (record { cur = place_f e.current; prev = place_f e.previous }))
  unfolding known_f lock_f places_f
  now_change e c< p< l< =
      record {
        oids = W.oids;
        sound = sound_change i e W.sound;
        coded = coded_change i e c< p< l< W.coded;
        knows = map_change known_f k e W.sound here ∙ upd_id _ k true (rw (found_lookup x k here)) ∙ W.knows;
        locks = map_change lock_f k e W.sound here ∙ rw W.locks;
        places = map_change places_f k e W.sound here ∙ rw W.places;
      }

  -- both places
  now_both : (c p : ℕ) → c ≤ 524288 → p ≤ 524288
      → Now d (index_of x.oid x.lock (set x.current i c) (set x.previous i p)) L (upd E k (record { cur = place_f c; prev = place_f p }))
  now_both c p c< p< =
      rw (set-get_or x.lock i 0, upd_id L k (at x.lock i) lock_here) at
      (now_change (record { lock = at x.lock i; current = c; previous = p }) c< p< (W.coded.lock i))

  -- the current place alone
  now_current : (c : ℕ) → c ≤ 524288 → Now d (index_of x.oid x.lock (set x.current i c) x.previous) L (upd E k (record { cur = place_f c; prev = (E k).prev }))
  now_current c c< = rw places_here (rw (set-get_or x.previous i 0) at (now_both c (at x.previous i) c< (W.coded.previous i)))

  -- the previous place alone
  now_previous : (p : ℕ) → p ≤ 524288 → Now d (index_of x.oid x.lock x.current (set x.previous i p)) L (upd E k (record { cur = (E k).cur; prev = place_f p }))
  now_previous p p< = rw places_here (rw (set-get_or x.current i 0) at (now_both (at x.current i) p (W.coded.current i) p<))

  -- the lock alone
  now_lock : (v : ℕ) → v ≤ 8 → Now d (index_of x.oid (set x.lock i v) x.current x.previous) (upd L k v) E
  now_lock v v≤ =
      rw (set-get_or x.current i 0, set-get_or x.previous i 0, upd_id E k _ places_here) at
      (now_change (record { lock = v; current = at x.current i; previous = at x.previous i }) (W.coded.current i) (W.coded.previous i) v≤)

  -- entry i is in range of the tables
  lock_in : i < length x.lock
  lock_in = omega (arith, W.sound.lock_length, found_below x.oid k here)

  current_in : i < length x.current
  current_in = omega (arith, W.sound.current-length, found_below x.oid k here)

  previous_in : i < length x.previous
  previous_in = omega (arith, W.sound.previous_length, found_below x.oid k here)

  -- the places shifted: the machine sees the old one, and the new one as current
  now_shift : (p : Place) (n : ℕ) → encode p ≡ done n → n < 524288
      → (shift x.current x.previous i p ≡ done (record { old = (E k).cur; current = set x.current i n; previous = set x.previous i (at x.current i) }))
      × Now d (index_of x.oid x.lock (set x.current i n) (set x.previous i (at x.current i))) L (upd E k (record { cur = Some p; prev = (E k).cur }))
  now_shift p n z n< = (
    rw places_here (shift_done x.current x.previous i p n current_in previous_in (W.coded.current i) z),
    rw (places_here, ← place_seen p n z) (now_both n (at x.current i) (omega arith) (W.coded.current i)),
  )

  -- the previous place erased
  now_erase : (erase_place x.previous i ≡ done (set x.previous i nowhere)) × Now d (index_of x.oid x.lock x.current (set x.previous i nowhere)) L (upd E k (no_prev (E k)))
  unfolding erase_place need
  now_erase = (rw (lt-ltb i (length x.previous) previous_in), rw (← nowhere_seen) (now_previous nowhere (omega arith)))

  -- the previous or the current place written
  now_correct : (b : Bool) (cells : List ℕ) (p : Place) (n : ℕ) → encode p ≡ done n → n < 524288
      → (c : List ℕ) × (v : List ℕ) × (correct (erasing_of x.lock x.current x.previous cells) i p b ≡ done (erasing_of x.lock c v cells))
      × Now d (index_of x.oid x.lock c v) L (upd E k (pick b (record { cur = (E k).cur; prev = Some p }) (record { cur = Some p; prev = (E k).prev })))
  unfolding correct put_place need and_then pick
  now_correct true cells p n z n< =
      (x.current, set x.previous i n, rw (lt-ltb i (length x.previous) previous_in, z), rw (← place_seen p n z) (now_previous n (omega arith)))
  now_correct false cells p n z n< =
      (set x.current i n, x.previous, rw (lt-ltb i (length x.current) current_in, z), rw (← place_seen p n z) (now_current n (omega arith)))

-- the entry of an object whose tuple moved, corrected by the stamp's sign, and its lock freed
now_moved : (d x : Index) (L : ℕ → ℕ) (E : ℕ → Places) (k i : ℕ) → find d.oid k ≡ Found i → Now d x L E
    → (times : List ℤ) (cells : List ℕ) (p : Place) (n : ℕ) (s : ℤ) → sign times p.bucket p.slot ≡ done (lt_z s (pos 0)) → encode p ≡ done n → n < 524288
    → (c : List ℕ) × (v : List ℕ) × (correct_moved x.oid times (erasing_of x.lock x.current x.previous cells) p k ≡ done (erasing_of (set x.lock i 0) c v cells))
    × Now d (index_of x.oid (set x.lock i 0) c v) (upd L k 0) (upd E k (corrected (E k) s p))
unfolding correct_moved corrected at_entry and_then
now_moved d x L E k i q W times cells p n s e z n< =
    let C = now_correct d x L E k i q W (lt_z s (pos 0)) cells p n z n< in (
      C.0,
      C.1,
      rw (here d x L E k i q W, e, C.2, release_some x.lock i (lock_in d x L E k i q W)),
      now_lock d (index_of x.oid x.lock C.0 C.1) L _ k i q C.3 0 (omega arith),
    )

-- ---- the stages' own steps

-- a stamp that is one has a sign
sign_stamp : (s : ℤ) → 0 < nat_abs s → nat_abs s ≤ 2147483647 → sign_of (stamp_of s) ≡ done (lt_z s (pos 0))
unfolding sign_of stamp_of pick
sign_stamp (pos n) a b = rw (ne_eqb n 0 (λ e. omega arith), le-ltb n 0 (omega arith))
sign_stamp (negsuc n) a b = rw (ne_eqb n 2147483647 (λ e. omega arith))

-- so has the tuple at a slot
sign_done : (d : Tuples) (b i : ℕ) → b < 512 → i < 4 → 0 < nat_abs (tup_f d b i).time → nat_abs (tup_f d b i).time ≤ 2147483647
    → sign d.time b i ≡ done (lt_z (tup_f d b i).time (pos 0))
unfolding sign need_slot need
sign_done d b i b< i< lo hi = rw (lt-ltb b 512 b<, lt-ltb i 4 i<, ← ap (λ (v : Tuple). v.time) (tup_at d b i i<)) (sign_stamp (tup_f d b i).time lo hi)

-- at stage 7 a tuple of another object is at one of its places
moved_kind : (k : ℕ) (p : Place) (m : ℕ) (e : Places) (g : Pos) (em : Places) (gm : Pos) → m ≢ k → Erasing k p m e g em gm → (κ : Kind) × (sel κ gm ≡ Some p)
unfolding sel
moved_kind k p m e g em gm n (Erasing.same w z) = absurd (n w)
moved_kind k p m e g em gm n (Erasing.other w z (moved_cur y)) = (k_cur, rw y)
moved_kind k p m e g em gm n (Erasing.other w z (moved_prev y)) = (k_prev, rw y)

-- with an old place the machine goes to 13 as the stage does, else to 14
fork_switching : (l : ℕ) (a : Updater) (o : Option Place) (d : St) → fork o (λ q. on l a (DeleteOld q) d) (on l a ReleaseObject d) ≡ on l a (after_switching o) d
unfolding fork
fork_switching l a None d = refl
fork_switching l a (Some q) d = refl

-- ---- the grid with such an index, and a cell released

module _ (g : Grid) (Z : Shape g) (gh : Ghost) (I : Inv store gh (view g)) (l : ℕ) (l< : l < 8) where
  abbrev u : Updater
  u = get_or g.updaters l idle_updater

  abbrev t : Tables
  t = g.tables

  module _ (x : Index) (L : ℕ → ℕ) (E : ℕ → Places) (W : Now t.index x L E) (c : ℕ) (s : Stage) where
    abbrev next : Grid
    next = grid_of (with_cells (with_index t x) (set t.cells c 0)) (put_stage g.updaters l s) g.queries

    next_shape : Shape next
    next_shape =
        record {
          lengths = lengths_cells (with_index t x)
              (lengths_index t Z.lengths x W.sound.oid_length W.sound.lock_length W.sound.current-length W.sound.previous_length)
              _ (length-set t.cells c 0 ∙ Z.lengths.cells);
          updaters = lanes-length g.updaters l s Z.updaters;
          queries = Z.queries;
          index = W.sound;
          coded = W.coded;
        }

    next_view : c < 256 → view next ≡ put_lane l u s (with_cell_lock (with_lock (with_ent (view g) E) L) (upd (at t.cells) c 0))
    unfolding view
    next_view c< = rw (W.knows, W.locks, W.places, W.oids, at_set t.cells c 0 0 (omega (arith, Z.lengths.cells)), lanes-set g.updaters l s Z.updaters l<)

  -- the index at the start
  abbrev at_start_lem : Now t.index t.index (locks_of t.index) (places_of t.index)
  at_start_lem = now_start t.index Z.index Z.coded

  -- ---- stage 12

  -- the new place is the reporter's, in range
  new_range : (p : Place) → u.stage ≡ SwitchPlace p → (p.cell < 256) × (p.bucket < 512) × (p.slot < 4)
  unfolding view Ok sel
  new_range p st = place_range I k_new u.oid p (rw (at_stage I l l< (SwitchPlace p) st).0)

  -- at the entry that the reporter is found at
  switched : (p : Place) (r : Out) (i n : ℕ) → find t.index.oid u.oid ≡ Found i → encode p ≡ done n → n < 524288 → p.cell < 256
      → do_stage ops l u (view g) (SwitchPlace p) ≡ Some r → Sim g l (stage_on t (suc l) u (SwitchPlace p)) r
  unfolding do_stage stage12m stage_on stage12 lift and_then at_entry view
  switched p r i n q z n< c< e =
      let y = now_shift t.index t.index _ _ u.oid i q at_start_lem p n z n< in
      sim_moved _ _
      (rw (q, y.0, release_some t.cells p.cell (omega (arith, Z.lengths.cells))))
      (some_one (sym (fork_switching l u _ _) ∙ (need_some_lem _ _ e).1))
      (next_shape _ _ _ y.1 p.cell _)
      (next_view _ _ _ y.1 p.cell _ c<)

  -- Stage 12: the new place becomes the current one.
  pub sim_12 : (p : Place) (r : Out) → u.stage ≡ SwitchPlace p → do_stage ops l u (view g) (SwitchPlace p) ≡ Some r → Sim g l (stage_on t (suc l) u (SwitchPlace p)) r
  unfolding do_stage stage12m view
  sim_12 p r st e =
      let f = known_found t.index u.oid (need_some_lem _ _ e).0 in
      let R = new_range p st in
      let N = encode_some p R.0 R.1 R.2 in
      switched p r f.0 N.0 f.1 N.1 N.2 R.0 e

  -- ---- stage 7

  -- the moved tuple is a live one of its object: its place is in range, and its stamp has a sign
  moved_tuple : (p : Place) (m : ℕ) → u.stage ≡ ErasePlace p m → m ≢ u.oid
      → (p.cell < 256) × (p.bucket < 512) × (p.slot < 4) × (sign t.tuples.time p.bucket p.slot ≡ done (lt_z (tup_f t.tuples p.bucket p.slot).time (pos 0)))
  unfolding view Ok mv
  moved_tuple p m st m≢ =
      let κ = moved_kind _ p m _ _ _ _ m≢ (at_stage I l l< (ErasePlace p m) st) in
      let R = place_range I κ.0 m p κ.1 in
      let B = (I.slots.back κ.0 m p κ.1).0 in
      let P = I.placed.inside p.bucket p.cell B.h p.slot B.owned B.low in
      let Y = I.young.range p.bucket p.slot in
      (R.0, R.1, R.2, sign_done t.tuples p.bucket p.slot R.1 R.2 P.1 (omega arith))

  -- the cell is one that the lane holds
  erased_cell : (p : Place) (m : ℕ) → u.stage ≡ ErasePlace p m → p.cell < 256
  unfolding view cl cel_held
  erased_cell p m st = let R = (ranges I).held l l< in rw st at R tt

  -- the last tuple was the reporter's own
  erased : (p : Place) (m : ℕ) (r : Out) (i : ℕ) → find t.index.oid u.oid ≡ Found i → eqb m u.oid ≡ true → p.cell < 256
      → do_stage ops l u (view g) (ErasePlace p m) ≡ Some r → Sim g l (stage_on t (suc l) u (ErasePlace p m)) r
  unfolding do_stage stage7m stage_on stage7 free_cell lift and_then at_entry pick view
  erased p m r i q z c< e =
      let y = now_erase t.index t.index _ _ u.oid i q at_start_lem in
      sim_moved _ _
      (rw (q, y.0, z, release_some t.cells p.cell (omega (arith, Z.lengths.cells))))
      (some_one (rw z at (need_some_lem _ _ e).1))
      (next_shape _ _ _ y.1 p.cell ChooseCell)
      (next_view _ _ _ y.1 p.cell ChooseCell c<)

  -- another object's tuple moved
  moved_other : (p : Place) (m : ℕ) (r : Out) (i j n : ℕ) → find t.index.oid u.oid ≡ Found i → find t.index.oid m ≡ Found j → eqb m u.oid ≡ false
      → sign t.tuples.time p.bucket p.slot ≡ done (lt_z (tup_f t.tuples p.bucket p.slot).time (pos 0)) → encode p ≡ done n → n < 524288 → p.cell < 256
      → do_stage ops l u (view g) (ErasePlace p m) ≡ Some r → Sim g l (stage_on t (suc l) u (ErasePlace p m)) r
  unfolding do_stage stage7m stage_on stage7 free_cell lift and_then at_entry pick view
  moved_other p m r i j n q qm z s e# n< c< e =
      let y = now_erase t.index t.index _ _ u.oid i q at_start_lem in
      let w = now_moved t.index _ _ _ m j qm y.1 t.tuples.time t.cells p n _ s e# n< in
      let o = upd_other (places_of t.index) u.oid (no_prev (places_of t.index u.oid)) m (eqb-false _ _ z) in
      sim_moved _ _
      (rw (q, y.0, z, w.2, release_some t.cells p.cell (omega (arith, Z.lengths.cells))))
      (some_one (need_some_lem _ _ (rw (z, ← o) at (need_some_lem _ _ e).1)).1)
      (next_shape _ _ _ w.3 p.cell ChooseCell)
      (next_view _ _ _ w.3 p.cell ChooseCell c<)

  -- Stage 7: the place is erased, and a moved tuple's entry corrected.
  pub sim_7 : (p : Place) (m : ℕ) (r : Out) → u.stage ≡ ErasePlace p m → do_stage ops l u (view g) (ErasePlace p m) ≡ Some r → Sim g l (stage_on t (suc l) u (ErasePlace p m)) r
  unfolding do_stage stage7m pick view
  sim_7 p m r st e =
      let a = need_some_lem _ _ e in
      let f = known_found t.index u.oid a.0 in
      by_test (eqb m u.oid)
      (λ z. erased p m r f.0 f.1 z (erased_cell p m st) e)
      (λ z.
      let R = moved_tuple p m st (eqb-false _ _ z) in
      let N = encode_some p R.0 R.1 R.2 in
      let h = known_found t.index m (need_some_lem _ _ (rw z at a.1)).0 in
      moved_other p m r f.0 h.0 N.0 f.1 h.1 z R.3 N.1 N.2 R.0 e)
