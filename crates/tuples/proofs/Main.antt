-- Every start and every stage together: the invariant is kept, and none is refused with 12 (`keeps_begin`, `by_stage`).
-- A start only enters a lane and, if need be, an object without places; there is room for it, as fewer than 256 are known (`ranked`).
-- A stage is the lemma named after it (`keeps1` to `keeps14`); at stage 9 the pool has a bucket, by Dry.antt. At the end: the
-- numbers that a step uses are in their ranges (`ranges`, `place_range`), which the invariant implies.
use mathlib.Core.Path.{◌≡◌, refl, sym, ap, ◌∙◌}
use mathlib.Core.Logic.{◌≢◌, inl, inr, ⊎_elim}
use mathlib.Core.Bool.{Bool, true, false, not, ◌&&◌}
use Rattle.std.specs.Prelude.{Option, None, Some}
use Prim.Native.Nat.{ℕ, zero, suc, ◌≤◌, ◌<◌}
use native.Mathlib.Omega.{arith}
use lib.Dec.{T, leb, ltb, ltb→lt, leb→le, nleb→lt}
use Rattle.base.specs.Table.{upd}
use Rattle.base.proofs.Table.{upd_same, upd_other, at_or, clash}
use Rattle.base.specs.Outcome.{pick}
use Rattle.machine.specs.Ends.{Ends, done, ends_pick, refused}
use Rattle.machine.specs.Store.{StoreOps, Store}
use Rattle.layout.specs.declared.place.Place.{Place}
use Rattle.stage.specs.declared.Stage.{Stage}
use Rattle.stage.specs.declared.Stage.TheVariants.{Idle, TakeObject, LockCell, LookLast, CopyLast, LowerCount, ReturnBucket, ErasePlace, ChooseCell, MakeRoom, WriteTuple, RaiseCount, SwitchPlace, DeleteOld, ReleaseObject}
use Rattle.stage.specs.declared.Updater.{Updater}
use Rattle.stage.specs.Turn.{is_idle}
use Rattle.machine.specs.Machine.{St, Out, with_lanes, with_known, with_size, begin, do_stage}
use Rattle.machine.proofs.StageFits.{stage_fits}
use Rattle.cells.proofs.Chains.{in_pool}
use Rattle.tuples.proofs.Inv.{Kind, k_cur, k_prev, k_new, k_dup, sel, mk, Ok, stage_holds_own, mov_held, cel_held, mv, cl, goal, bk, filling, Ghost, Ranked, draws, Inv, stands_in_lem}
use Rattle.tuples.proofs.Slots.{learn}
use Rattle.tuples.proofs.Local.{Local}
use Rattle.tuples.proofs.Locks.{still, cells_step, objs_step}
use Rattle.tuples.proofs.Common.{oks, writes}
use Rattle.tuples.proofs.Facts.{cell_his, obj_his}
use Rattle.base.specs.Sums.{sum_below, bit}
use Rattle.base.proofs.Sums.{bit_le, sum_le, sum_const}
use Rattle.tuples.proofs.Stage4.{keeps4}
use Rattle.tuples.proofs.Stage5.{keeps5}
use Rattle.tuples.proofs.Stage7.{keeps7}
use Rattle.tuples.proofs.Stage8.{keeps8, keeps13}
use Rattle.tuples.proofs.Stage9.{keeps9}
use Rattle.tuples.proofs.Stage10.{keeps10, keeps11}
use Rattle.tuples.proofs.Stage12.{keeps12}
use Rattle.tuples.proofs.Dry.{one_free}
use Rattle.tuples.proofs.Effect.{Effect, same_tables}
use Rattle.tuples.proofs.Rest.{keeps1, keeps2, keeps3, keeps6, keeps14}

pub is_idle_lem : (s : Stage) → T (is_idle s) → s ≡ Idle
unfolding is_idle
is_idle_lem Idle t = refl
is_idle_lem TakeObject t = absurd t
is_idle_lem (LockCell p) t = absurd t
is_idle_lem (LookLast p) t = absurd t
is_idle_lem (CopyLast p m) t = absurd t
is_idle_lem (LowerCount p m) t = absurd t
is_idle_lem (ReturnBucket p m b) t = absurd t
is_idle_lem (ErasePlace p m) t = absurd t
is_idle_lem ChooseCell t = absurd t
is_idle_lem MakeRoom t = absurd t
is_idle_lem WriteTuple t = absurd t
is_idle_lem (RaiseCount p) t = absurd t
is_idle_lem (SwitchPlace p) t = absurd t
is_idle_lem (DeleteOld p) t = absurd t
is_idle_lem ReleaseObject t = absurd t

pub T-and-split : (a b : Bool) → T (a && b) → T a × T b
T-and-split true true t = (tt, tt)
T-and-split true false t = absurd t
T-and-split false b t = absurd t

T-stable : (b : Bool) → T (not (not b)) → T b
T-stable true t = tt
T-stable false t = t

draws_2 : (s : Stage) → draws s ≤ 2
unfolding draws
draws_2 s = (stage_fits s).few

pub draws_16 : (lanes : ℕ → Updater) → sum_below 8 (λ l. draws (lanes l).stage) ≤ 16
draws_16 lanes = omega (arith, sum_le 8 (λ l. draws (lanes l).stage) (λ _. 2) (λ i _. draws_2 (lanes i).stage), sum_const 8 2)

-- one more known object, if it is new
ranked : (known : ℕ → Bool) (size : ℕ) → Ranked known size → (k : ℕ) → T (not (not (known k) && leb 256 size)) → Ranked (upd known k true) (pick (known k) size (suc size))
unfolding pick
ranked known size R k room = go (known k) refl
  where
    go : (b : Bool) → known k ≡ b → Ranked (upd known k true) (pick b size (suc size))
    go true e =
        let back : (j : ℕ) → T (upd known k true j) → T (known j) = λ j t. at_or j k (λ q. rw (q, e) tt) (λ q. rw (upd_other known k true j q) at t) in
        record { rank = R.rank; low = λ j t. R.low j (back j t); one = λ i j t u. R.one i j (back i t) (back j u); most = R.most }
    go false e =
        let lt : T (not (leb 256 size)) = rw e at room in
        let lt' = nleb→lt 256 size lt in
        let old : (j : ℕ) → j ≢ k → T (upd known k true j) → T (known j) = λ j n t. rw (upd_other known k true j n) at t in
        let r = upd R.rank k size in
        record {
          rank = r;
          low = λ j t. at_or j k (λ q. rw (q, upd_same R.rank k size) (omega arith)) (λ q. rw (upd_other R.rank k size j q) (omega (arith, R.low j (old j q t))));
          one = λ i j t u w. at_or i k
              (λ q. at_or j k (λ q'. q ∙ sym q')
              (λ q'. let z : size ≡ R.rank j = rw (q, upd_same R.rank k size, upd_other R.rank k size j q') at w in absurd (omega (arith, R.low j (old j q' u)))))
              (λ q. at_or j k
              (λ q'. let z : R.rank i ≡ size = rw (q', upd_same R.rank k size, upd_other R.rank k size i q) at w in absurd (omega (arith, R.low i (old i q t))))
              (λ q'. R.one i j (old i q t) (old j q' u) (rw (upd_other R.rank k size i q, upd_other R.rank k size j q') at w)));
          most = omega arith;
        }

-- ---- start
module _ {O : StoreOps} {S : Store O} {g : Ghost} {d : St} (I : Inv S g d) (l : ℕ) (l< : l < 8) (st : (d.lanes l).stage ≡ Idle) (k x y m : ℕ) (x< : x < 16384) (y< : y < 16384) (m≤ : m ≤ 9) (room : T (not (not (d.known k) && leb 256 d.size))) (early : d.clock < 2147483600) where
  abbrev a : Updater
  a = record { oid = k; x = x; y = y; tag = m; stage = TakeObject }

  abbrev started : St
  started = with_lanes (with_size (with_known d (upd d.known k true)) (pick (d.known k) d.size (suc d.size))) (upd d.lanes l a)

  begun : Inv S g started
  unfolding Ok mv cl bk cel_held stage_holds_own mov_held filling
  begun =
      let L : Local l g d g started =
      record { ents = λ j z. refl; ghs = λ j z. refl; tops = λ c l' ne z. refl; owns = λ b l' c h ne z. refl; lanes = λ l' ne. upd_other d.lanes l a l' ne } in
      let more : (j : ℕ) → T (d.known j) → T (upd d.known k true j) = λ j t. at_or j k (λ q. rw (q, upd_same d.known k true) tt) (λ q. rw (upd_other d.known k true j q) t) in
      record {
        links = I.links;
        full = I.full;
        stored = I.stored;
        slots = learn I.slots k;
        fits = I.fits;
        free = I.free;
        ok = oks a L refl I.cells I.objs I.ok tt;
        written = writes a L refl I.cells I.ok I.written (λ q z. clash (cc));
        ticks = record { left = omega (arith, draws_16 (upd d.lanes l a)) };
        young = record { range = I.young.range; young = I.young.young; heard = λ b i h. more _ (I.young.heard b i h) };
        placed = I.placed;
        loose = I.loose;
        bounded = I.bounded;
        reading = I.reading;
        ranks = ranked d.known d.size I.ranks k room;
        lanes = record {
          fine = λ j j<. at_or j l
              (λ q. rw (q, upd_same d.lanes l a) (λ _. (rw (upd_same d.known k true) tt, x<, y<, m≤)))
              (λ q. rw (upd_other d.lanes l a j q) (λ z. let t = I.lanes.fine j j< z in (more _ t.0, t.1, t.2, t.3)));
        };
        cells = cells_step a l< (still l _) (λ z. absurd z) (λ c z. absurd (cell_his I l l< Idle st c z).0) I.cells;
        objs = objs_step a l< (still l _) (λ z. absurd z) (λ z. absurd z)
            (λ j z. absurd (⊎_elim (λ (u : ⊥ × ((d.lanes l).oid ≡ j)). u.0) (λ (u : ⊥ × ((d.lanes l).oid ≡ j)). u.0) (obj_his I l l< Idle st j z))) I.objs;
        filled = record {
          filled = λ b c h o. ⊎_elim (λ lt. inl lt)
              (λ (u : (l : ℕ) × (l < 8) × T (filling (d.lanes l).stage) × (cl (goal (d.lanes l)) (d.lanes l).stage ≡ c)). at_or u.0 l
              (λ q. let z : T (filling Idle) = rw (q, st) at u.2 in absurd z)
              (λ q. inr (u.0, u.1, rw (upd_other d.lanes l a u.0 q) u.2, rw (upd_other d.lanes l a u.0 q) u.3))) (I.filled.filled b c h o);
        };
        back = record {
          lane = λ b l' c h o.
              let t = I.back.lane b l' c h o in
              let ne : l' ≢ l = λ z. let w : Idle ≡ ReturnBucket t.2.0 t.2.1 b = sym st ∙ ap (λ (z : ℕ). (d.lanes z).stage) (sym z) ∙ t.2.2 in clash (cc) in
              rw (upd_other d.lanes l a l' ne) t;
        };
      }

weaken : {P : Out → Type 0} {R R' : Type 0} (o : Option Out) → (R → R') → Ends P R o → Ends P R' o
weaken _ f (done x) = done x
weaken _ f (refused r) = refused (f r)

-- ---- every stage and every start: the invariant is kept, and none is refused with 12
module _ {O : StoreOps} (S : Store O) where
  -- kept, with what the step does to the places of objects
  abbrev pub Changed : ℕ → Ghost → St → Option Out → Type 0
  Changed l g d o = Ends (λ (r : Out). (g' : Ghost) × Inv S g' r.0 × Effect l g d g' r.0) ⊥ o

  module _ (g : Ghost) (d : St) (I : Inv S g d) where
    pub keeps_begin : (l k x y m : ℕ) → Ends (λ (r : Out). Inv S g r.0) ⊥ (begin l k x y m d)
    unfolding begin
    keeps_begin l k x y m = ends_pick _ _ _ (λ _. done I) (λ t₁. ends_pick _ _ _ (λ _. done I) (λ t₂. ends_pick _ _ _ (λ _. done I) (λ _. ends_pick _ _ _ (λ _. done I)
        (λ t₃. ends_pick _ _ _ (λ _. done I) (λ t₆. ends_pick _ _ _ (λ _. done I) (λ t₄. ends_pick _ _ _ (λ _. done I) (λ t₅. let u = T-and-split (ltb x 16384) (ltb y 16384) (T-stable (ltb x 16384 && ltb y 16384) t₃) in
        done (begun I l (ltb→lt _ _ (T-stable (ltb l 8) t₁)) (is_idle_lem _ (T-stable (is_idle (d.lanes l).stage) t₂)) k x y m (ltb→lt _ _ u.0) (ltb→lt _ _ u.1) (leb→le _ _ (T-stable (leb m 9) t₆)) t₄ (nleb→lt _ _ t₅)))))))))

    pub by_stage : (l : ℕ) → l < 8 → (s : Stage) → (d.lanes l).stage ≡ s → Changed l g d (do_stage O l (d.lanes l) d s)
    unfolding do_stage
    by_stage l l< Idle st = done (g, I, same_tables l g d d (λ _. refl) (λ _. refl) (λ _ _. refl))
    by_stage l l< TakeObject st = (keeps1 I l l< st)
    by_stage l l< (LockCell p) st = (keeps2 I l l< p st)
    by_stage l l< (LookLast p) st = (keeps3 I l l< p st)
    by_stage l l< (CopyLast p m) st = (keeps4 I l l< p m st)
    by_stage l l< (LowerCount p m) st = (keeps5 I l l< p m st)
    by_stage l l< (ReturnBucket p m b) st = (keeps6 I l l< p m b st)
    by_stage l l< (ErasePlace p m) st = (keeps7 I l l< p m st)
    by_stage l l< ChooseCell st = (keeps8 I l l< st)
    by_stage l l< MakeRoom st = weaken _ (λ r. let u = one_free I l l< st in S.take_some d.pool u.0 I.stored.fine (I.stored.held.all u.0 u.1 u.2) r) (keeps9 I l l< st)
    by_stage l l< WriteTuple st = (keeps10 I l l< st)
    by_stage l l< (RaiseCount p) st = (keeps11 I l l< p st)
    by_stage l l< (SwitchPlace p) st = (keeps12 I l l< p st)
    by_stage l l< (DeleteOld p) st = (keeps13 I l l< p st)
    by_stage l l< ReleaseObject st = (keeps14 I l l< st)

-- ---- nothing is under way

abbrev pub nothing : Ghost
nothing = record { own = λ _. in_pool; height = λ _. 0; gh = λ _. mk None None None None false }

pub sel_none : (κ : Kind) (p : Place) → sel κ (mk None None None None false) ≡ Some p → ⊥
unfolding sel
sel_none k_cur p e = clash (cc)
sel_none k_prev p e = clash (cc)
sel_none k_new p e = clash (cc)
sel_none k_dup p e = clash (cc)

-- ---- every number that a step uses is in its range
pub record Ranges (d : St) : Type 0 where
  pub cell_locks : (c : ℕ) → d.cell_lock c ≤ 8
  pub locks : (k : ℕ) → d.lock k ≤ 8
  pub held : (l : ℕ) → l < 8 → T (cel_held (d.lanes l).stage) → cl (goal (d.lanes l)) (d.lanes l).stage < 256
  pub readers : (b : ℕ) → d.readers b ≤ 4

module _ {O : StoreOps} {S : Store O} {g : Ghost} {d : St} (I : Inv S g d) where
  pub ranges : Ranges d
  ranges = record {
    cell_locks = λ c. cell (d.cell_lock c) c refl;
    locks = λ k. obj (d.lock k) k refl;
    held = λ l l< t. (I.cells.his _ l (I.cells.mine l l< t)).3;
    readers = λ b. omega (arith, I.reading.exact b, sum_le 4 (λ q. bit (stands_in_lem (d.queries q).bucket b)) (λ _. 1) (λ i _. bit_le (stands_in_lem (d.queries i).bucket b)), sum_const 4 1);
  }
    where
      cell : (x c : ℕ) → d.cell_lock c ≡ x → d.cell_lock c ≤ 8
      cell zero c e = omega arith
      cell (suc l) c e = omega (arith, (I.cells.his c l e).0)

      obj : (x k : ℕ) → d.lock k ≡ x → d.lock k ≤ 8
      obj zero k e = omega arith
      obj (suc l) k e = omega (arith, (I.objs.his k l e).0)

  -- a place of any kind, of any object
  pub place_range : (κ : Kind) (k : ℕ) (p : Place) → sel κ (g.gh k) ≡ Some p → (p.cell < 256) × (p.bucket < 512) × (p.slot < 4)
  place_range κ k p e = let t = I.slots.back κ k p e in let w = I.links.within _ _ _ t.0.owned in let m = I.full.most _ _ _ t.0.owned in let lo = t.0.low in (w.0, w.2, omega arith)
