-- Every call goes alike on two grids of runs that differ in the stamps and the clock alone: the answers are equal,
-- and so the grids go on.
-- Neither is ever refused with 12, so the two steps meet; 8 is the one number that the clock decides.
use mathlib.Core.Path.{◌≡◌, refl, sym, ap, subst, ◌∙◌}
use mathlib.Core.Logic.{◌≢◌}
use mathlib.Core.Bool.{Bool, true, false, not}
use mathlib.Core.List.{List, []}
use Prim.Native.Nat.{ℕ, suc, ◌+◌, ◌*◌, ◌/◌, ◌%◌, ◌<◌, ◌≤◌}
use native.Mathlib.Omega.{arith}
use lib.Dec.{T, ltb, leb, eqb}
use lib.IntN.{nat_abs}
use lib.ListN.{get_or, set}
use lib.Seq.{get_or-set_same, get_or-set_other}
use borrow.Author.Tests.{ltb-true, lt-ltb}
use Rattle.base.specs.Outcome.{Outcome, corrupt, blocked, done}
use Rattle.base.specs.Step.{Step}
use Rattle.base.proofs.Table.{at_or, by_test, clash}
use Rattle.hits.specs.Hits.{Hits}
use Rattle.layout.specs.Place.{on_grid}
use Rattle.layout.specs.Question.{corners_on, ordered}
use Rattle.regions.specs.Region.{right_radius}
use Rattle.regions.specs.declared.region.Region.{Region}
use Rattle.index.specs.Search.{search}
use Rattle.index.specs.Index.{Index, enter}
use Rattle.slots.specs.Tuple.{tuple_in}
use Rattle.stage.specs.Turn.{Move, is_idle}
use Rattle.stage.specs.declared.Stage.{Stage}
use Rattle.stage.specs.declared.Stage.TheVariants.{TakeObject}
use Rattle.stage.specs.declared.Updater.{Updater}
use Rattle.query.specs.declared.Scan.{Scan}
use Rattle.query.specs.declared.Scan.TheVariants.{Idle}
use Rattle.query.specs.declared.Query.{Query}
use Rattle.tables.specs.Tables.{Tables, with_index, with_clock, right_lengths}
use Rattle.calls.specs.Call.{Result, refused, answered, After, after, unless, stepped}
use Rattle.turns.specs.Stages.{stage_on}
use Rattle.updates.specs.Update.{idle_updater, put_stage, update_step, search_has_room, started, update_start}
use Rattle.queries.specs.Scans.{scan_on}
use Rattle.queries.specs.Query.{idle_query, is_idle as isIdleQuery, is_finished, query_step, query_start, begun}
use Rattle.collect.specs.Collect.{Handed, handed_of, idled, read_query, clear_query, collect_query, entries_from}
use Rattle.collect.proofs.Both.{collect_as_before}
use Rattle.collect.proofs.Cases.{taken_out}
use Rattle.grid.specs.Run.{Grid, grid_of, Call, start_update, step_update, start_query, step_query, collect, read, clear, rewind}
use Rattle.grid.specs.Run.{Answer, call}
use Rattle.rest.specs.Rest.{is_at_rest}
use Rattle.rest.proofs.Facts.{facts_at_rest}
use Rattle.rewind.specs.Rewind.{wound_tables}
use Rattle.rewind.proofs.Winding.{above_wound, below_wound, map-length, map_at, clock_order}
use Rattle.runs.specs.Rest.{AtRest}
use Rattle.runs.specs.Sweeps.{query}
use Rattle.runs.proofs.Every.{Good, sized}
use Rattle.runs.proofs.Rewound.{wound_grid, Rewinding, moving, resting, rewinding}
use Rattle.runs.proofs.Runs.{call_good}
use Rattle.runs.proofs.View.{view, tup_f, tup_at}
use Rattle.calls.proofs.Meet.{Meet, both_blocked, both_done, left_refused, right_refused, Steps}
use Rattle.alike.specs.Alike.{stood, stamp_at, Alike, retimed, restamped, Pair, pair, Both}
use Rattle.alike.proofs.Like.{tells_new}
use Rattle.alike.proofs.Stages.{stage_alike}
use Rattle.alike.proofs.Scans.{scan_alike}

module _ {O : ℕ → ℕ → Type 0} {t t' : Tables} (A : Alike O t t') where
  A₁ : Alike O t (retimed t t'.tuples.time t'.clock)
  A₁ = subst (Alike O t) A.rest A

  stage_on_lem : (o : ℕ) (u : Updater) (s : Stage) → Meet (Steps (λ (x y : Stage). y ≡ x) (Alike O)) (stage_on t o u s)
      (stage_on t' o u s)
  stage_on_lem o u s = subst (λ (x : Tables). Meet (Steps (λ (x y : Stage). y ≡ x) (Alike O)) (stage_on t o u s)
      (stage_on x o u s)) (sym A.rest) (stage_alike O t t'.tuples.time t'.clock A₁ o u s)

  scan_on_lem : (l : ℕ) (q : Query) (s' : ℕ) (a : Scan) → O q.stamp s' → Meet
      (Steps (λ (x y : Query). (y ≡ restamped x s') × (x.stamp ≡ q.stamp)) (Alike O)) (scan_on t l q a)
      (scan_on t' l (restamped q s') a)
  scan_on_lem l q s' a p = subst (λ (x : Tables). Meet
      (Steps (λ (x y : Query). (y ≡ restamped x s') × (x.stamp ≡ q.stamp)) (Alike O)) (scan_on t l q a)
      (scan_on x l (restamped q s') a)) (sym A.rest) (scan_alike O t t'.tuples.time t'.clock A₁ l q s' p a)

-- ---- a step of an update

-- what two calls of updates come to
record Same (O : ℕ → ℕ → Type 0) (a a' : After (List Updater)) : Type 0 where
  pub number : a'.number ≡ a.number
  pub tables : Alike O a.tables a'.tables
  pub lanes : a'.lanes ≡ a.lanes

module _ (g g' : Grid) (G : Good g) (G' : Good g') (B : Both g g') (l : ℕ) where
  abbrev us : List Updater
  us = g.updaters

  abbrev O : ℕ → ℕ → Type 0
  O = Pair g g'

  -- refused with the same number
  turned_away : (n : ℕ) → Same O (after g.tables us (refused n)) (after g'.tables us (refused n))
  unfolding after
  turned_away n = record { number = refl; tables = B.tables; lanes = refl }

  by_step : (o o' : Outcome (Move Tables)) → Meet (Steps (λ (x y : Stage). y ≡ x) (Alike O)) o o'
      → (after g.tables us (stepped g.tables us (put_stage us l) o)).number ≢ 12 → (after g'.tables us
      (stepped g'.tables us (put_stage us l) o')).number ≢ 12
      → Same O (after g.tables us (stepped g.tables us (put_stage us l) o))
      (after g'.tables us (stepped g'.tables us (put_stage us l) o'))
  unfolding after stepped
  by_step _ _ both_blocked n n' = record { number = refl; tables = B.tables; lanes = refl }
  by_step _ _ (both_done s) n n' = record {
    number = s.number;
    tables = s.tables;
    lanes = ap (put_stage us l)
        s.next;
  }
  by_step _ _ left_refused n n' = absurd (n refl)
  by_step _ _ right_refused n n' = absurd (n' refl)

  update_same : (after g.tables us (update_step g.tables us l)).number ≢ 12 → (after g'.tables us
      (update_step g'.tables us l)).number ≢ 12
      → Same O (after g.tables us (update_step g.tables us l))
      (after g'.tables us (update_step g'.tables us l))
  unfolding update_step unless
  update_same =
      let z = sized g.tables G.shape.lengths in
      let z' = sized g'.tables G'.shape.lengths in
      let u = get_or us l idle_updater in
      by_test (ltb l 8)
      (λ h. by_test (is_idle u.stage)
      (λ i. rw (z, z', h, i) (λ n n'. turned_away 3))
      (λ i. rw (z, z', h, i) (by_step _ _ (stage_on_lem B.tables (suc l) u u.stage))))
      (λ h. rw (z, z', h) (λ n n'. turned_away 1))

  -- ---- the start of an update

  index_same : g'.tables.index ≡ g.tables.index
  index_same = ap (λ (x : Tables). x.index) B.tables.rest

  -- an object entered
  entered : (d : Index) → Alike O (with_index g.tables d) (with_index g'.tables d)
  entered d =
      let A = B.tables in
      record {
        rest = ap (λ (x : Tables). with_index x d)
            A.rest;
        long = A.long;
        times = A.times;
        bound = A.bound;
        clock = A.clock;
      }

  by_start : (u : Updater) (o : Outcome Index) → Same O (after g.tables us (started g.tables us l u o))
      (after g'.tables us (started g'.tables us l u o))
  unfolding started after
  by_start u corrupt = record { number = refl; tables = B.tables; lanes = refl }
  by_start u blocked = record { number = refl; tables = B.tables; lanes = refl }
  by_start u (done d) = record { number = refl; tables = entered d; lanes = refl }

  clock_passes : ltb g.tables.clock 2147483600 ≡ true → ltb g'.tables.clock 2147483600 ≡ true
  clock_passes e = lt-ltb g'.tables.clock 2147483600
      (omega (arith, ltb-true g.tables.clock 2147483600 e, B.tables.clock))

  start_same : (k x y m : ℕ) → (after g.tables us (update_start g.tables us l k x y m)).number ≢ 8
      → Same O (after g.tables us (update_start g.tables us l k x y m))
      (after g'.tables us (update_start g'.tables us l k x y m))
  unfolding update_start unless after
  start_same k x y m =
      let z = sized g.tables G.shape.lengths in
      let z' = sized g'.tables G'.shape.lengths in
      let d = g.tables.index.oid in
      let room : (b : Bool) → search_has_room (search d k) d ≡ b → search_has_room (search g'.tables.index.oid k)
      g'.tables.index.oid ≡ b = λ b h. ap (λ (x : Index). search_has_room (search x.oid k) x.oid) index_same
      ∙ h in
      let u : Updater = record { oid = k; x = x; y = y; tag = m; stage = TakeObject } in
      by_test (ltb l 8)
      (λ h₁. by_test (is_idle (get_or us l idle_updater).stage)
      (λ h₂. by_test (not (eqb k 0))
      (λ h₃. by_test (on_grid x y)
      (λ h₄. by_test (leb m 9)
      (λ h₇. by_test (search_has_room (search d k) d)
      (λ h₅. by_test (ltb g.tables.clock 2147483600)
      (λ h₆. rw (z, z', h₁, h₂, h₃, h₄, h₇, h₅, room true h₅, h₆, clock_passes h₆)
      (λ n. subst (λ (o : Outcome Index). Same O (after g.tables us
      (started g.tables us l u (enter g.tables.index k)))
      (after g'.tables us (started g'.tables us l u o))) (ap (λ (x : Index). enter x k) (sym index_same))
      (by_start u (enter g.tables.index k))))
      (λ h₆. rw (z, h₁, h₂, h₃, h₄, h₇, h₅, h₆) (λ n. absurd (n refl))))
      (λ h₅. rw (z, z', h₁, h₂, h₃, h₄, h₇, h₅, room false h₅) (λ n. turned_away 7)))
      (λ h₇. rw (z, z', h₁, h₂, h₃, h₄, h₇) (λ n. turned_away 31)))
      (λ h₄. rw (z, z', h₁, h₂, h₃, h₄) (λ n. turned_away 5)))
      (λ h₃. rw (z, z', h₁, h₂, h₃) (λ n. turned_away 4)))
      (λ h₂. rw (z, z', h₁, h₂) (λ n. turned_away 2)))
      (λ h₁. rw (z, z', h₁) (λ n. turned_away 1))

-- ---- queries

-- no stamp below zero is above the clock
young_at : (g : Grid) → Good g → (j : ℕ) → T (stood (stamp_at g.tables.tuples.time j))
    → nat_abs (stamp_at g.tables.tuples.time j) ≤ g.tables.clock
unfolding view
young_at g G j =
    let y = G.inv.young.young (j / 4) (j % 4) in
    let e : tup_f g.tables.tuples (j / 4) (j % 4) ≡ tuple_in g.tables.tuples (4 * (j / 4) + j % 4) =
    tup_at g.tables.tuples (j / 4) (j % 4) (omega arith) in
    let i : 4 * (j / 4) + j % 4 ≡ j = omega arith in
    let ts = g.tables.tuples.time in
    subst (λ (n : ℕ). T (stood (stamp_at ts n)) → nat_abs (stamp_at ts n) ≤ g.tables.clock) i (rw e at y)

-- fewer pairs
fewer : {O O₁ : ℕ → ℕ → Type 0} {t t' : Tables} → ((s s' : ℕ) → O₁ s s' → O s s') → Alike O t t' → Alike O₁ t t'
fewer f A = record {
  rest = A.rest;
  long = A.long;
  times = λ i. let L = A.times i in record {
    stands = L.stands;
    stood = L.stood;
    tells = λ s s' o. L.tells s s'
        (f s s' o);
  };
  bound = λ s s' o. A.bound s s' (f s s' o);
  clock = A.clock;
}

record SameQ (us us' : List Updater) (a a' : After (List Query)) : Type 0 where
  pub number : a'.number ≡ a.number
  pub both : Both (grid_of a.tables us a.lanes) (grid_of a'.tables us' a'.lanes)

module _ (g g' : Grid) (G : Good g) (G' : Good g') (B : Both g g') (l : ℕ) where
  abbrev qs : List Query
  qs = g.queries

  abbrev qs' : List Query
  qs' = g'.queries

  abbrev q₀ : Query
  q₀ = query g l

  abbrev s₁ : ℕ
  s₁ = (query g' l).stamp

  away : (n : ℕ) → SameQ g.updaters g'.updaters (after g.tables qs (refused n))
      (after g'.tables qs' (refused n))
  unfolding after
  away n = record { number = refl; both = B }

  -- one lane replaced by queries with the old stamps
  module _ (l< : l < 4) (busy : q₀.stage ≢ Idle) (x x' : Query) (e : x' ≡ restamped x s₁) (k : x.stamp ≡ q₀.stamp)
      (T T' : Tables) (A : Alike (Pair g g') T T') where
    abbrev h : Grid
    h = grid_of T g.updaters (set qs l x)

    abbrev h' : Grid
    h' = grid_of T' g'.updaters (set qs' l x')

    at_l : query h l ≡ x
    at_l = get_or-set_same qs l x idle_query (omega (arith, G.shape.queries))

    at_l' : query h' l ≡ x'
    at_l' = get_or-set_same qs' l x' idle_query (omega (arith, G'.shape.queries))

    elsewhere : (q : ℕ) → q ≢ l → query h q ≡ query g q
    elsewhere q n = get_or-set_other qs l q x idle_query n

    elsewhere' : (q : ℕ) → q ≢ l → query h' q ≡ query g' q
    elsewhere' q n = get_or-set_other qs' l q x' idle_query n

    old_pair : (s s' : ℕ) → Pair h h' s s' → Pair g g' s s'
    old_pair s s' (pair q q< n a b) = at_or q l
        (λ z. pair l l< busy (sym k ∙ ap (λ (y : Query). y.stamp) (sym at_l) ∙ ap (λ (i : ℕ). (query h i).stamp)
        (sym z) ∙ a) (ap (λ (y : Query). y.stamp) (sym (at_l' ∙ e)) ∙ ap (λ (i : ℕ). (query h' i).stamp) (sym z)
        ∙ b))
        (λ z. pair q q< (λ y. n (ap (λ (v : Query). v.stage) (elsewhere q z) ∙ y))
        (sym (ap (λ (v : Query). v.stamp) (elsewhere q z)) ∙ a)
        (sym (ap (λ (v : Query). v.stamp) (elsewhere' q z)) ∙ b))

    replaced : Both h h'
    replaced = record {
      tables = fewer old_pair A;
      updaters = B.updaters;
      queries = λ q. at_or q l
          (λ z. rw (z, at_l, at_l', e))
          (λ z. rw (elsewhere q z, elsewhere' q z) (B.queries q));
    }

  by_scan : l < 4 → q₀.stage ≢ Idle → (o o' : Outcome (Step Query Tables)) → Meet
      (Steps (λ (x y : Query). (y ≡ restamped x s₁) × (x.stamp ≡ q₀.stamp)) (Alike (Pair g g'))) o o'
      → (after g.tables qs (stepped g.tables qs (set qs l) o)).number ≢ 12 → (after g'.tables qs'
      (stepped g'.tables qs' (set qs' l) o')).number ≢ 12
      → SameQ g.updaters g'.updaters (after g.tables qs (stepped g.tables qs (set qs l) o))
      (after g'.tables qs' (stepped g'.tables qs' (set qs' l) o'))
  unfolding after stepped
  by_scan l< busy _ _ both_blocked n n' = record { number = refl; both = B }
  by_scan l< busy _ _ (both_done {a = m} {b = m'} s) n n' = record {
    number = s.number;
    both = replaced l< busy
        m.next m'.next s.next.0 s.next.1 m.tables m'.tables s.tables;
  }
  by_scan l< busy _ _ left_refused n n' = absurd (n refl)
  by_scan l< busy _ _ right_refused n n' = absurd (n' refl)

  not_idle : (a : Scan) → isIdleQuery a ≡ false → a ≢ Idle
  unfolding isIdleQuery
  not_idle a e z = let w = rw z at e in clash (cc)

  step_same : (after g.tables qs (query_step g.tables qs l)).number ≢ 12 → (after g'.tables qs'
      (query_step g'.tables qs' l)).number ≢ 12
      → SameQ g.updaters g'.updaters (after g.tables qs (query_step g.tables qs l))
      (after g'.tables qs' (query_step g'.tables qs' l))
  unfolding query_step unless
  step_same =
      let z = sized g.tables G.shape.lengths in
      let z' = sized g'.tables G'.shape.lengths in
      let e = B.queries l in
      by_test (ltb l 4)
      (λ h. by_test (isIdleQuery q₀.stage)
      (λ i. rw (z, z', h, e, i) (λ n n'. away 3))
      (λ i. by_test (is_finished q₀.stage)
      (λ f. rw (z, z', h, e, i, f) (λ n n'. away 9))
      (λ f. rw (z, z', h, e, i, f) (by_scan (ltb-true l 4 h) (not_idle q₀.stage i) _ _
      (scan_on_lem B.tables l q₀ s₁ q₀.stage (pair l (ltb-true l 4 h) (not_idle q₀.stage i) refl refl))))))
      (λ h. rw (z, z', h) (λ n n'. away 1))

  -- ---- the start of a query

  module _ (u : Region) (l< : l < 4) where
    abbrev τ : ℕ
    τ = g.tables.clock + 1

    abbrev τ' : ℕ
    τ' = g'.tables.clock + 1

    abbrev k : Grid
    k = grid_of (with_clock g.tables τ) g.updaters (set qs l (begun u τ))

    abbrev k' : Grid
    k' = grid_of (with_clock g'.tables τ') g'.updaters (set qs' l (begun u τ'))

    is_begun : query k l ≡ begun u τ
    is_begun = get_or-set_same qs l (begun u τ) idle_query (omega (arith, G.shape.queries))

    is_begun' : query k' l ≡ begun u τ'
    is_begun' = get_or-set_same qs' l (begun u τ') idle_query (omega (arith, G'.shape.queries))

    -- one of the old pairs, or the new one
    by_pair : {C : Type 0} (s s' : ℕ) → Pair k k' s s' → (Pair g g' s s' → C) → (s ≡ τ → s' ≡ τ' → C) → C
    by_pair s s' (pair q q< n a b) f f' = at_or q l
        (λ z. f' (sym a ∙ ap (λ (i : ℕ). (query k i).stamp) z ∙ ap (λ (y : Query). y.stamp) is_begun)
        (sym b ∙ ap (λ (i : ℕ). (query k' i).stamp) z ∙ ap (λ (y : Query). y.stamp) is_begun'))
        (λ z.
        let w = get_or-set_other qs l q (begun u τ) idle_query z in
        let w' = get_or-set_other qs' l q (begun u τ') idle_query z in
        f (pair q q< (λ y. n (ap (λ (v : Query). v.stage) w ∙ y)) (sym (ap (λ (v : Query). v.stamp) w) ∙ a)
        (sym (ap (λ (v : Query). v.stamp) w') ∙ b)))

    begun_both : Both k k'
    begun_both =
        let A = B.tables in
        record {
          tables = record {
            rest = ap (λ (x : Tables). with_clock x τ') A.rest;
            long = A.long;
            times = λ i.
                let L = A.times i in
                record {
                  stands = L.stands;
                  stood = L.stood;
                  tells = λ s s' o. by_pair s s' o (λ p. L.tells s s' p)
                      (λ e e'. rw (e, e') (tells_new τ' (stamp_at g'.tables.tuples.time i)
                      (λ b. omega (arith, young_at g' G' i b)) ∙ L.stands ∙ sym
                      (tells_new τ (stamp_at g.tables.tuples.time i)
                      (λ b. omega (arith, young_at g G i b)))));
                };
            bound = λ s s' o. by_pair s s' o (λ p. let b = A.bound s s' p in
                (omega (arith, b.0), omega (arith, b.1))) (λ e e'. (omega arith, omega arith));
            clock = omega (arith, A.clock);
          };
          updaters = B.updaters;
          queries = λ q. at_or q l
              (λ z. rw (z, is_begun, is_begun'))
              (λ z. rw (
                get_or-set_other qs l q (begun u τ) idle_query z,
                get_or-set_other qs' l q
                    (begun u τ') idle_query z,
              ) (B.queries q));
        }

  ask_same : (u : Region) → (after g.tables qs (query_start g.tables qs l u)).number ≢ 8
      → SameQ g.updaters g'.updaters (after g.tables qs (query_start g.tables qs l u))
      (after g'.tables qs' (query_start g'.tables qs' l u))
  unfolding query_start unless after
  ask_same u =
      let z = sized g.tables G.shape.lengths in
      let z' = sized g'.tables G'.shape.lengths in
      let e = ap (λ (y : Query). isIdleQuery y.stage) (B.queries l) in
      by_test (ltb l 4)
      (λ h₁. by_test (isIdleQuery q₀.stage)
      (λ h₂. by_test (corners_on u.area)
      (λ h₃. by_test (ordered u.area)
      (λ h₄. by_test (right_radius u)
      (λ hr. by_test (ltb g.tables.clock 2147483600)
      (λ h₅. rw (
        z,
        z',
        h₁,
        h₂,
        e ∙ h₂,
        h₃,
        h₄,
        hr,
        h₅,
        lt-ltb g'.tables.clock 2147483600
            (omega (arith, ltb-true g.tables.clock 2147483600 h₅, B.tables.clock)),
      )
      (λ n. record { number = refl; both = begun_both u (ltb-true l 4 h₁) }))
      (λ h₅. rw (z, h₁, h₂, h₃, h₄, hr, h₅) (λ n. absurd (n refl))))
      (λ hr. rw (z, z', h₁, h₂, e ∙ h₂, h₃, h₄, hr) (λ n. away 32)))
      (λ h₄. rw (z, z', h₁, h₂, e ∙ h₂, h₃, h₄) (λ n. away 6)))
      (λ h₃. rw (z, z', h₁, h₂, e ∙ h₂, h₃) (λ n. away 5)))
      (λ h₂. rw (z, z', h₁, h₂, e ∙ h₂) (λ n. away 2)))
      (λ h₁. rw (z, z', h₁) (λ n. away 1))

  -- ---- a reading, a collection, a clearing

  -- what two readings or collections come to
  record SameC (a a' : After Handed) : Type 0 where
    pub number : a'.number ≡ a.number
    pub steps : a'.lanes.steps ≡ a.lanes.steps
    pub part : a'.lanes.part ≡ a.lanes.part
    pub both : Both (grid_of a.tables g.updaters a.lanes.queries)
        (grid_of a'.tables g'.updaters a'.lanes.queries)

  abbrev GoesC : Result Handed → Result Handed → Type 0
  GoesC r r' = SameC (after g.tables (handed_of qs 0 []) r) (after g'.tables (handed_of qs' 0 []) r')

  refused_both : (n : ℕ) → GoesC (refused n) (refused n)
  unfolding after
  refused_both n = record { number = refl; steps = refl; part = refl; both = B }

  hits_same : g'.tables.hits ≡ g.tables.hits
  hits_same = ap (λ (x : Tables). x.hits) B.tables.rest

  -- the tests of a reading, and what is past them
  abbrev tested : Tables → Query → ℕ → Result Handed → Result Handed
  tested t q n k =
      unless (right_lengths t) 12
      (unless (ltb l 4) 1
      (unless (not (isIdleQuery q.stage)) 3
      (unless (is_finished q.stage) 10
      (unless (leb (4 * q.hits) n) 11
      (unless (leb q.hits 256) 12 k)))))

  tests_same : (n : ℕ) (k k' : Result Handed) → (l < 4 → q₀.stage ≢ Idle → GoesC k k')
      → GoesC (tested g.tables q₀ n k) (tested g'.tables (query g' l) n k')
  unfolding unless
  tests_same n k k' f =
      let z = sized g.tables G.shape.lengths in
      let z' = sized g'.tables G'.shape.lengths in
      let e = B.queries l in
      by_test (ltb l 4)
      (λ h₁. by_test (isIdleQuery q₀.stage)
      (λ h₂. rw (z, z', h₁, e, h₂) (refused_both 3))
      (λ h₂. by_test (is_finished q₀.stage)
      (λ h₃. by_test (leb (4 * q₀.hits) n)
      (λ h₄. by_test (leb q₀.hits 256)
      (λ h₅. rw (z, z', h₁, e, h₂, h₃, h₄, h₅) (f (ltb-true l 4 h₁) (not_idle q₀.stage h₂)))
      (λ h₅. rw (z, z', h₁, e, h₂, h₃, h₄, h₅) (refused_both 12)))
      (λ h₄. rw (z, z', h₁, e, h₂, h₃, h₄) (refused_both 11)))
      (λ h₃. rw (z, z', h₁, e, h₂, h₃) (refused_both 10))))
      (λ h₁. rw (z, z', h₁) (refused_both 1))

  read_same : (n : ℕ) → GoesC (read_query g.tables qs l n) (read_query g'.tables qs' l n)
  unfolding read_query after
  read_same n = tests_same n _ _ (λ l< busy. rw (B.queries l) (record {
    number = refl;
    steps = refl;
    part = ap (λ (x : Hits). entries_from x (256 * l) q₀.hits) hits_same;
    both = B;
  }))

  taken_same : (n : ℕ) → l < 4 → q₀.stage ≢ Idle → GoesC (answered 0 g.tables (taken_out g.tables qs l n))
      (answered 0 g'.tables (taken_out g'.tables qs' l n))
  unfolding after
  taken_same n l< busy = rw (B.queries l) (record {
    number = refl;
    steps = refl;
    part = ap (λ (x : Hits). entries_from x (256 * l) q₀.hits) hits_same;
    both = replaced l< busy (idled q₀) (restamped (idled q₀) s₁) refl refl g.tables g'.tables B.tables;
  })

  collect_same : (n : ℕ) → GoesC (collect_query g.tables qs l n) (collect_query g'.tables qs' l n)
  collect_same n = rw (collect_as_before g.tables qs l n, collect_as_before g'.tables qs' l n)
      (tests_same n _ _ (taken_same n))

  clear_same : SameQ g.updaters g'.updaters (after g.tables qs (clear_query g.tables qs l))
      (after g'.tables qs' (clear_query g'.tables qs' l))
  unfolding clear_query unless after
  clear_same =
      let z = sized g.tables G.shape.lengths in
      let z' = sized g'.tables G'.shape.lengths in
      let e = B.queries l in
      by_test (ltb l 4)
      (λ h. by_test (isIdleQuery q₀.stage)
      (λ i. rw (z, z', h, e, i) (away 3))
      (λ i. by_test (is_finished q₀.stage)
      (λ f. rw (z, z', h, e, i, f) (record {
        number = refl;
        both = replaced (ltb-true l 4 h) (not_idle q₀.stage i) (idled q₀) (restamped (idled q₀) s₁) refl refl
            g.tables g'.tables B.tables;
      }))
      (λ f. rw (z, z', h, e, i, f) (away 10))))
      (λ h. rw (z, z', h) (away 1))

-- ---- a rewind

module _ (g g' : Grid) (G : Good g) (G' : Good g') (B : Both g g') where
  -- the lanes stand at the same stages
  same_rest : AtRest g → AtRest g'
  same_rest R = record {
    updates = λ l l<. ap (λ (us : List Updater). (get_or us l idle_updater).stage) B.updaters ∙ R.updates l l<;
    queries = λ q q<. ap (λ (v : Query). v.stage) (B.queries q) ∙ R.queries q q<;
  }

  rest_same : AtRest g' → AtRest g
  rest_same R = record {
    updates = λ l l<. ap (λ (us : List Updater). (get_or us l idle_updater).stage) (sym B.updaters) ∙ R.updates l l<;
    queries = λ q q<. sym (ap (λ (v : Query). v.stage) (B.queries q)) ∙ R.queries q q<;
  }

  -- at rest there is no pair, and every stamp keeps its sign
  wound_both : AtRest g → Both (wound_grid g) (wound_grid g')
  unfolding wound_tables
  wound_both R =
      let A = B.tables in
      let ts = g.tables.tuples.time in
      let ts' = g'.tables.tuples.time in
      let none : (s s' : ℕ) → Pair (wound_grid g) (wound_grid g') s s' → ⊥ = λ s s' p. unpaired s s' p in
      record {
        tables = record {
          rest = ap wound_tables A.rest;
          long = (map-length ts ∙ A.long.0, map-length ts' ∙ A.long.1);
          times = λ i. let L = A.times i in rw (map_at ts i, map_at ts' i) (record {
            stands = above_wound (stamp_at ts' i) ∙ L.stands ∙ sym (above_wound (stamp_at ts i));
            stood = below_wound (stamp_at ts' i) ∙ L.stood ∙ sym (below_wound (stamp_at ts i));
            tells = λ s s' o. absurd (none s s' o);
          });
          bound = λ s s' o. absurd (none s s' o);
          clock = clock_order g'.tables.clock g.tables.clock A.clock;
        };
        updaters = B.updaters;
        queries = B.queries;
      }
    where
      unpaired : (s s' : ℕ) → Pair (wound_grid g) (wound_grid g') s s' → ⊥
      unpaired s s' (pair q q< n e e') = n (R.queries q q<)

  abbrev Goes : Answer × Grid → Answer × Grid → Type 0
  Goes r r' = (r'.0 ≡ r.0) × Both r.1 r'.1

  -- at rest or not
  not_both : is_at_rest g.updaters g.queries ≡ false → AtRest g' → ⊥
  not_both m R = let w = facts_at_rest g.updaters g.queries (rest_same R) in clash (cc)

  not_either : is_at_rest g'.updaters g'.queries ≡ false → AtRest g → ⊥
  not_either m R = let w = facts_at_rest g'.updaters g'.queries (same_rest R) in clash (cc)

  by_rewound : (r r' : Answer × Grid) → Rewinding g r → Rewinding g' r' → Goes r r'
  by_rewound r r' (moving m) (moving m') = (refl, B)
  by_rewound r r' (moving m) (resting R') = absurd (not_both m R')
  by_rewound r r' (resting R) (moving m') = absurd (not_either m' R)
  by_rewound r r' (resting R) (resting R') = (refl, wound_both R)

  rewind_same : Goes (call rewind g) (call rewind g')
  rewind_same = by_rewound (call rewind g) (call rewind g') (rewinding g G) (rewinding g' G')

-- ---- every call

answer_same : {a b : Answer} → b.number ≡ a.number → b.steps ≡ a.steps → b.part ≡ a.part → b ≡ a
answer_same e f h = λ i. record { number = e i; steps = f i; part = h i }

module _ (g g' : Grid) (G : Good g) (G' : Good g') (B : Both g g') where
  -- the grids after a call of updates
  after_update : (a a' : After (List Updater)) → Same (Pair g g') a a' → Both
      (grid_of a.tables a.lanes g.queries) (grid_of a'.tables a'.lanes g'.queries)
  after_update a a' S = record {
    tables = fewer (λ s s' p. kept s s' p)
        S.tables;
    updaters = S.lanes;
    queries = B.queries;
  }
    where
      kept : (s s' : ℕ) → Pair (grid_of a.tables a.lanes g.queries)
          (grid_of a'.tables a'.lanes g'.queries) s s' → Pair g g' s s'
      kept s s' (pair q q< n e e') = pair q q< n e e'

  pub lock_step : (c : Call) → (call c g).0.number ≢ 8 → ((call c g').0 ≡ (call c g).0) × Both (call c g).1
      (call c g').1
  unfolding call
  lock_step (start_update l k x y m) n =
      let S = subst (λ (w : List Updater). Same (Pair g g')
      (after g.tables g.updaters (update_start g.tables g.updaters l k x y m))
      (after g'.tables w (update_start g'.tables w l k x y m))) (sym B.updaters)
      (start_same g g' G G' B l k x y m n) in
      (answer_same S.number refl refl, after_update _ _ S)
  lock_step (step_update l) n =
      let m = subst (λ (w : List Updater). (after g'.tables w (update_step g'.tables w l)).number ≢ 12)
      B.updaters (call_good (step_update l) g' G').0 in
      let S = subst (λ (w : List Updater). Same (Pair g g')
      (after g.tables g.updaters (update_step g.tables g.updaters l))
      (after g'.tables w (update_step g'.tables w l))) (sym B.updaters)
      (update_same g g' G G' B l (call_good (step_update l) g G).0 m) in
      (answer_same S.number refl refl, after_update _ _ S)
  lock_step (start_query l u) n = let S = ask_same g g' G G' B l u n in (answer_same S.number refl refl, S.both)
  lock_step (step_query l) n = let S = step_same g g' G G' B l (call_good (step_query l) g G).0
      (call_good (step_query l) g' G').0 in (answer_same S.number refl refl, S.both)
  lock_step (collect l m) n = let S = collect_same g g' G G' B l m in
      (answer_same S.number S.steps S.part, S.both)
  lock_step (read l m) n = let S = read_same g g' G G' B l m in
      (answer_same S.number S.steps S.part, S.both)
  lock_step (clear l) n = let S = clear_same g g' G G' B l in (answer_same S.number refl refl, S.both)
  lock_step rewind n = rewind_same g g' G G' B
