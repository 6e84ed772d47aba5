-- In a good grid something that is under way moves. Of all lanes one of the highest rank is not held: whatever could
-- hold it up is a lock or a reader of a lane of a higher rank (Ranks.antt), and there is none. So no next step of it
-- can be held (Held.antt), and 12 never comes.
use mathlib.Core.Path.{◌≡◌, refl, sym, ◌∙◌}
use mathlib.Core.Logic.{◌≢◌, ⊎_elim}
use Prim.Native.Nat.{ℕ, zero, suc, ◌<◌, ◌≤◌}
use native.Mathlib.Omega.{arith}
use lib.Dec.{T, ltb}
use borrow.Author.Tests.{ltb-true, ltb-false}
use Rattle.base.specs.Table.{at}
use Rattle.base.proofs.Sums.{count_none}
use Rattle.base.proofs.Table.{by_test}
use Rattle.layout.specs.Place.{cell_of}
use Rattle.index.specs.Search.{search}
use Rattle.index.specs.Index.{Index, entry_for, position, entry_of as entryIn}
use Rattle.index.specs.declared.search.Search.{Search}
use Rattle.index.specs.declared.search.Search.TheVariants.{Found, Empty}
use Rattle.stage.specs.declared.Stage.{Stage}
use Rattle.stage.specs.declared.Stage.TheVariants.{Idle, TakeObject, LockCell, LookLast, CopyLast, LowerCount, ReturnBucket, ErasePlace, ChooseCell, MakeRoom, WriteTuple, RaiseCount, SwitchPlace, DeleteOld, ReleaseObject}
use Rattle.query.specs.declared.Scan.{Scan}
use Rattle.query.specs.declared.Scan.TheVariants.{Idle as IdleQuery, Enter, Read, Finished}
use Rattle.updates.specs.Causes.{entry_of}
use Rattle.updates.proofs.Refusals.{step_number}
use Rattle.queries.proofs.Refusals.{step_number as query-number}
use Rattle.grid.specs.Run.{Grid, step_update, step_query, call}
use Rattle.tuples.proofs.Dry.{mov_own}
use Rattle.tuples.proofs.Inv.{stage_holds_own, mov_held, mv, stands_in_lem}
use Rattle.runs.specs.Quiet.{updater}
use Rattle.runs.specs.Sweeps.{query}
use Rattle.runs.proofs.Every.{Good}
use Rattle.runs.proofs.Runs.{call_good}
use Rattle.runs.proofs.View.{view, known_f, lock_f, scanner_f}
use Rattle.progress.specs.Progress.{Task, updating, querying, UnderWay, Moves, NeverStill, OpenMoves}
use Rattle.progress.proofs.Held.{which, Free, FreeQuery, update_flows, query_flows}
use Rattle.progress.proofs.Ranks.{rank, rank_of, ranked, ranked_query, rank_busy, rank_unfinished, best}

-- the lock of a known object, as its entry has it
known_lock : (d : Index) (k : ℕ) → T (known_f (entry_for d k))
    → at d.lock (entry_of (search d.oid k)) ≡ lock_f (entry_for d k)
unfolding entry_for entryIn entry_of position known_f lock_f
known_lock d k t = go (search d.oid k) t
  where
    go : (s : Search) → T (known_f (entryIn d (position s))) → at d.lock (entry_of s) ≡ lock_f (entryIn d (position s))
    go (Found i) t = refl
    go (Empty i) t = absurd t

module _ (g : Grid) (G : Good g) where
  -- ---- a step whose way is free

  update_moves : (l : ℕ) → l < 8 → Free g.tables (updater g l) (updater g l).stage → Moves g (updating l)
  unfolding call
  update_moves l l< f =
      which _
      (rw (step_number g.tables g.updaters l) (update_flows g.tables g.updaters l l< f))
      (call_good (step_update l) g G).0

  query_moves : (q : ℕ) → q < 4 → FreeQuery g.tables (query g q).stage → Moves g (querying q)
  unfolding call
  query_moves q q< f =
      which _
      (rw (query-number g.tables g.queries q) (query_flows g.tables g.queries q q< f))
      (call_good (step_query q) g G).0

  -- A QUERY THAT HAS A BUCKET OPEN MOVES.
  pub open_moves : OpenMoves g
  unfolding FreeQuery
  open_moves q c w q< e = query_moves q q< (rw e tt)

  -- ---- where no lane has a rank above m

  abbrev f : ℕ → ℕ
  f l = rank (updater g l).stage

  abbrev h : ℕ → ℕ
  h q = rank_of (query g q).stage

  module _ (m : ℕ) (lanes : (l : ℕ) → l < 8 → f l ≤ m) (scans : (q : ℕ) → q < 4 → h q ≤ m) where
    -- below rank 3 no cell is locked,
    cells_free : m < 3 → (c : ℕ) → at g.tables.cells c ≡ 0
    unfolding view
    cells_free lt c = go (at g.tables.cells c) refl
      where
        go : (x : ℕ) → at g.tables.cells c ≡ x → at g.tables.cells c ≡ 0
        go zero e = e
        go (suc l) e =
            let w = G.inv.cells.his c l e in
            absurd (omega (arith, (ranked (updater g l).stage).cell w.1, lanes l w.0))

    -- below rank 2 no object,
    objects_free : m < 2 → (k : ℕ) → (view g).lock k ≡ 0
    unfolding view
    objects_free lt k = go ((view g).lock k) refl
      where
        go : (x : ℕ) → (view g).lock k ≡ x → (view g).lock k ≡ 0
        go zero e = e
        go (suc l) e =
            let w = G.inv.objs.his k l e in
            let u = updater g l in
            let own : T (stage_holds_own u.stage) = ⊎_elim
            (λ (o : T (stage_holds_own u.stage) × (u.oid ≡ k)). o.0)
            (λ (o : T (mov_held u.stage) × (mv u.oid u.stage ≡ k)). mov_own u.stage o.0)
            w.1 in
            absurd (omega (arith, (ranked u.stage).object own, lanes l w.0))

    -- and below rank 4 no query stands in a bucket
    stands_nowhere : m < 4 → (q : ℕ) → q < 4 → (b : ℕ) → T (stands_in_lem (scanner_f (query g q).stage).bucket b) → ⊥
    unfolding scanner_f stands_in_lem rank_of
    stands_nowhere lt q q< b t = go (query g q).stage refl t
      where
        go : (a : Scan) → (query g q).stage ≡ a → T (stands_in_lem (scanner_f a).bucket b) → ⊥
        go IdleQuery e t = t
        go (Enter c) e t = t
        go (Read c w) e t = let r = rw e at (scans q q<) in omega arith
        go Finished e t = t

    readers_none : m < 4 → (b : ℕ) → at g.tables.readers b ≡ 0
    unfolding view
    readers_none lt b =
        G.inv.reading.exact b
        ∙ count_none 4 (λ q. stands_in_lem (scanner_f (query g q).stage).bucket b) (λ q q< t. stands_nowhere lt q q< b t)

    -- so the way of an update of rank m is free,
    update_free : (l : ℕ) → l < 8 → (s : Stage) → (updater g l).stage ≡ s → rank s ≡ m → s ≢ Idle
        → Free g.tables (updater g l) s
    unfolding Free rank view
    update_free l l< Idle e r n = absurd (n refl)
    update_free l l< TakeObject e r n =
        let known = (G.inv.lanes.fine l l< (λ z. n (sym e ∙ z))).0 in
        known_lock g.tables.index (updater g l).oid known ∙ objects_free (omega arith) (updater g l).oid
    update_free l l< (LockCell p) e r n = cells_free (omega arith) p.cell
    update_free l l< (LookLast p) e r n = tt
    update_free l l< (CopyLast p k) e r n = tt
    update_free l l< (LowerCount p k) e r n = tt
    update_free l l< (ReturnBucket p k b) e r n = readers_none (omega arith) b
    update_free l l< (ErasePlace p k) e r n = tt
    update_free l l< ChooseCell e r n = cells_free (omega arith) (cell_of (updater g l).x (updater g l).y)
    update_free l l< MakeRoom e r n = tt
    update_free l l< WriteTuple e r n = tt
    update_free l l< (RaiseCount p) e r n = tt
    update_free l l< (SwitchPlace p) e r n = tt
    update_free l l< (DeleteOld p) e r n = tt
    update_free l l< ReleaseObject e r n = tt

    -- and that of a query of rank m
    query_free : (a : Scan) → rank_of a ≡ m → 0 < m → FreeQuery g.tables a
    unfolding FreeQuery rank_of
    query_free IdleQuery r lt = omega arith
    query_free (Enter c) r lt = cells_free (omega arith) c
    query_free (Read c w) r lt = tt
    query_free Finished r lt = omega arith

  -- ---- the highest

  -- a rank that is no lower than that of any lane is above 0 if anything is under way
  some_rank : (m : ℕ) → ((l : ℕ) → l < 8 → f l ≤ m) → ((q : ℕ) → q < 4 → h q ≤ m) → (t : Task) → UnderWay g t → 0 < m
  some_rank m x y (updating l) w = omega (arith, (ranked (updater g l).stage).busy w.1, x l w.0)
  some_rank m x y (querying q) w = omega (arith, ranked_query (query g q).stage w.1 w.2, y q w.0)

  -- WHERE SOMETHING IS UNDER WAY, SOMETHING UNDER WAY MOVES.
  pub never_still : NeverStill g
  never_still t w =
      let L = best f 8 (omega arith) in
      let Q = best h 4 (omega arith) in
      by_test (ltb (f L.0) (h Q.0))
      (λ e.
      let below : f L.0 < h Q.0 = ltb-true _ _ e in
      let lanes : (l : ℕ) → l < 8 → f l ≤ h Q.0 = λ l l<. omega (arith, L.2 l l<) in
      let busy = rank_unfinished (query g Q.0).stage (omega arith) in
      let free = query_free (h Q.0) lanes Q.2 _ refl (omega arith) in
      (querying Q.0, (Q.1, busy.0, busy.1), query_moves Q.0 Q.1 free))
      (λ e.
      let above : h Q.0 ≤ f L.0 = ltb-false _ _ e in
      let scans : (q : ℕ) → q < 4 → h q ≤ f L.0 = λ q q<. omega (arith, Q.2 q q<) in
      let busy = rank_busy _ (some_rank (f L.0) L.2 scans t w) in
      let free = update_free (f L.0) L.2 scans L.0 L.1 _ refl refl busy in
      (updating L.0, (L.1, busy), update_moves L.0 L.1 free))
