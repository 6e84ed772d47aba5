-- DEMANDS 2 AND 3 SPEAK OF ONE HISTORY (specs/SameHistory.antt), for every list of calls from the empty grid.
-- By induction on the list. A call is one of four kinds for both histories: an update begins, one ends, a query is
-- asked, or nothing of these happens; each kind keeps what ties the two (`Tie`). That an update begins in a free lane of
-- the eight and ends in a busy one (`Valid`) makes the counts agree: one that begins is one more, one that ends goes
-- from the lanes to those ended.
use mathlib.Core.Path.{◌≡◌, refl, sym, ap, ◌∙◌}
use mathlib.Core.Logic.{◌≢◌, ◌⊎◌, ◌↔◌, inl, inr, ⊎_elim}
use mathlib.Core.Bool.{Bool, true, false}
use Rattle.std.specs.Prelude.{Option, None, Some}
use mathlib.Core.List.{List, [], ◌∷◌, ◌++◌, map}
use Prim.Native.Nat.{ℕ, zero, suc, ◌+◌, ◌<◌}
use native.Mathlib.Omega.{arith}
use lib.Dec.{ltb, eqb}
use lib.ListN.{length}
use borrow.Author.Tests.{eq-eqb, ne_eqb, eqb-true, ltb-true}
use Rattle.base.specs.Lists.{In, in-or, in-none}
use Rattle.base.specs.Outcome.{pick}
use Rattle.base.proofs.Table.{upd_same, upd_other, at_or, by_test, clash}
use Rattle.regions.specs.declared.region.Region.{Region}
use Rattle.calls.specs.Call.{after, unless, accepted_number}
use Rattle.queries.specs.Query.{is_idle as isIdleQuery, is_finished, query_step}
use Rattle.grid.specs.Run.{Grid, Call, start_update, step_update, start_query, step_query, collect, read, clear, rewind, call, run, answers, empty_grid}
use Rattle.base.specs.Spot.{Hit, hit, Mem, on_top, deeper}
use Rattle.base.specs.Sums.{sum_below, bit}
use Rattle.tuples.proofs.Common.{sum_one}
use Rattle.runs.specs.Sweeps.{query}
use Rattle.runs.proofs.Every.{Good, sized}
use Rattle.cost.specs.Account.{Event as Entry, event_of as entry_of, history, deed, deed_of, accepted, only_if, under_way as underWayBy, known, among, Sweep, follow, opened, sweeps, latest}
use Rattle.cost.proofs.Rel.{followed, follow_over, follow_on, follow_lane, latest-map, Rel}
use Rattle.cost.proofs.Start.{empty_rel}
use Rattle.cost.proofs.Theorem.{rel_run}
use Rattle.cost.proofs.Updates.{in_old, in_new}
use Rattle.cost.proofs.Verdict.{deed_refused, deed_accepted}
use Rattle.freshness.specs.History.{refused, Event, begins, ends, asks, event_of, recall, events, past, under_way, question, ended, updates}
use Rattle.freshness.specs.Fresh.{Finishes}
use Rattle.freshness.specs.SameHistory.{account, object_of, Begun, SameQuery, SameHistory}
use Rattle.freshness.proofs.Every.{call_fine, empty_fine}
use Rattle.freshness.proofs.Fine.{Fine}
use Rattle.freshness.proofs.Later.{under_begun, begun_other, under_ended, ended_other, of_object, updates_count, later_asks, ended_asked, by_object}
use Rattle.freshness.proofs.Past.{Valid, mem_none}

-- what ties the two histories
record Tie (ds : List Entry) (es : List Event) : Type 0 where
  pub under : (l : ℕ) → underWayBy ds l ≡ object_of (under_way l es)
  pub knows : (k : ℕ) → In k (known ds) ↔ Begun k es
  pub going : (q : ℕ) (s : Sweep) → latest q (sweeps ds) ≡ Some s → s.over ≡ false → SameQuery q s es

-- ---- counts

-- a lane counts for an object in both histories
lane_counts : (k : ℕ) (o : Option Hit) → only_if (object_of o) (λ i. eqb i k) false ≡ of_object k o
unfolding only_if object_of of_object
lane_counts k None = refl
lane_counts k (Some h) = refl

sum_same : (n : ℕ) (f g : ℕ → ℕ) → ((i : ℕ) → f i ≡ g i) → sum_below n f ≡ sum_below n g
unfolding sum_below
sum_same zero f g h = refl
sum_same (suc n) f g h = omega (arith, sum_same n f g h, h n)

-- an update that begins is one more
module _ (q l : ℕ) (h : Hit) (es : List Event) (l< : l < 8) (free : under_way l es ≡ None) where
  begun_count : (k : ℕ) → length (updates q k (begins l h ∷ es)) ≡ length (updates q k es) + bit (eqb h.oid k)
  unfolding ended of_object bit
  begun_count k =
      let f : ℕ → ℕ = λ i. bit (of_object k (under_way i es)) in
      let f' : ℕ → ℕ = λ i. bit (of_object k (under_way i (begins l h ∷ es))) in
      let w = sum_one 8 l l< f f' (λ i n. rw (begun_other l es h i n)) in
      let x : f l ≡ 0 = rw free in
      let y : f' l ≡ bit (eqb h.oid k) = rw (under_begun l es h) in
      omega (arith, updates_count q k es, updates_count q k (begins l h ∷ es))

-- one that ends goes from the lanes to those that have ended
module _ (q l : ℕ) (h : Hit) (es : List Event) (l< : l < 8) (busy : under_way l es ≡ Some h) where
  over_count : (k : ℕ) → length (updates q k (ends l ∷ es)) ≡ length (updates q k es)
  unfolding of_object bit
  over_count k =
      let f : ℕ → ℕ = λ i. bit (of_object k (under_way i es)) in
      let f' : ℕ → ℕ = λ i. bit (of_object k (under_way i (ends l ∷ es))) in
      let w = sum_one 8 l l< f f' (λ i n. rw (ended_other l es i n)) in
      let y : f' l ≡ 0 = rw (under_ended l es) in
      by_object q l h es l< busy k
      (λ o _ en.
      let x : f l ≡ 1 = rw (busy, eq-eqb h.oid k o) in
      let z : length (ended q k (ends l ∷ es)) ≡ suc (length (ended q k es)) = ap length en in
      omega (arith, updates_count q k es, updates_count q k (ends l ∷ es)))
      (λ o _ en.
      let x : f l ≡ 0 = rw (busy, ne_eqb h.oid k o) in
      let z : length (ended q k (ends l ∷ es)) ≡ length (ended q k es) = ap length en in
      omega (arith, updates_count q k es, updates_count q k (ends l ∷ es)))

-- ---- the last query of a lane, one event later

some_one : {A : Type 0} {x y : A} → Some x ≡ Some y → x ≡ y
some_one e = cc

-- the one that is followed
latest_back : (f : Sweep → Sweep) → ((s : Sweep) → (f s).lane ≡ s.lane) → (q : ℕ) (ss : List Sweep) (s' : Sweep)
    → latest q (map f ss) ≡ Some s' → (s : Sweep) × (latest q ss ≡ Some s) × (f s ≡ s')
unfolding latest pick
latest_back f h q [] s' e = clash (cc)
latest_back f h q (x ∷ ss) s' e =
    go (eqb x.lane q) (ap (λ (n : ℕ). pick (eqb n q) (Some (f x)) (latest q (map f ss))) (sym (h x)) ∙ e)
    (λ z. latest_back f h q ss s' z)
  where
    go : (b : Bool) → pick b (Some (f x)) (latest q (map f ss)) ≡ Some s'
        → (latest q (map f ss) ≡ Some s' → (s : Sweep) × (latest q ss ≡ Some s) × (f s ≡ s'))
        → (s : Sweep) × (pick b (Some x) (latest q ss) ≡ Some s) × (f s ≡ s')
    go true z k = (x, refl, some_one z)
    go false z k = k z

-- one that is under way was so before
unfinished : (e : Entry) (ds : List Entry) (q : ℕ) (s' : Sweep)
    → latest q (map (follow e ds) (sweeps ds)) ≡ Some s' → s'.over ≡ false
    → (s : Sweep) × (latest q (sweeps ds) ≡ Some s) × (s.over ≡ false) × (followed e ds s ≡ s')
unfinished e ds q s' l f =
    let w = latest_back (follow e ds) (follow_lane e ds) q (sweeps ds) s' l in
    let s = w.0 in
    by_test s.over
    (λ z. let y : s ≡ s' = sym (follow_over e ds s z) ∙ w.2 in let x : s'.over ≡ true = rw (← y) z in clash (cc))
    (λ z. (s, w.1, z, sym (follow_on e ds s z) ∙ w.2))

-- ---- objects that are known

-- one more, if it was not there
in_back : (k j : ℕ) (ks : List ℕ) (b : Bool) → In j (pick b ks (k ∷ ks)) → (j ≡ k) ⊎ In j ks
unfolding pick
in_back k j ks true i = inr i
in_back k j ks false i = in-or i

begun_back : (l : ℕ) (h : Hit) (es : List Event) (k j : ℕ) (i : Hit) → Mem (begins j i) (begins l h ∷ es)
    → i.oid ≡ k → (h.oid ≡ k) ⊎ Begun k es
begun_back l h es k j i on_top o = inl o
begun_back l h es k j i (deeper m) o = inr (record { lane = j; hit = i; there = m; object = o })

-- an event that begins no update leaves them ds they were
module _ (k : ℕ) (es : List Event) where
  not_ended : (l : ℕ) → Begun k (ends l ∷ es) → Begun k es
  not_ended l B = go B.lane B.hit B.there B.object
    where
      go : (j : ℕ) (i : Hit) → Mem (begins j i) (ends l ∷ es) → i.oid ≡ k → Begun k es
      go j i (deeper m) o = record { lane = j; hit = i; there = m; object = o }

  not_asked : (q : ℕ) (u : Region) → Begun k (asks q u ∷ es) → Begun k es
  not_asked q u B = go B.lane B.hit B.there B.object
    where
      go : (j : ℕ) (i : Hit) → Mem (begins j i) (asks q u ∷ es) → i.oid ≡ k → Begun k es
      go j i (deeper m) o = record { lane = j; hit = i; there = m; object = o }

  and_later : (e : Event) → Begun k es → Begun k (e ∷ es)
  and_later e B = record { lane = B.lane; hit = B.hit; there = deeper B.there; object = B.object }

-- ---- the four kinds

module _ (e : Entry) (ds : List Entry) (es : List Event) (T : Tie ds es) where
  -- a query that is followed: the same question, and one update more where one begins
  going_on : (es' : List Event) → ((q : ℕ) → question q es' ≡ question q es)
      → ((q k : ℕ) → length (updates q k es') ≡ length (updates q k es) + bit
      (only_if (deed e).begins (λ b. eqb b.1 k) false))
      → (q : ℕ) (s' : Sweep) → latest q
      (map (follow e ds) (sweeps ds)) ≡ Some s' → s'.over ≡ false → SameQuery q s' es'
  going_on es' same more q s' l f =
      let w = unfinished e ds q s' l f in
      let K = T.going q w.0 w.1 w.2 in
      rw (← w.3) (record {
        asked = same q ∙ K.asked;
        during = λ k. omega (arith, K.during k, more q k);
      })

  -- nothing of these
  quiet : (deed e).settles ≡ None → (deed e).begins ≡ None → (deed e).ends ≡ None → (deed e).asks ≡ None → Tie (e ∷ ds) es
  unfolding underWayBy known sweeps only_if bit
  quiet n b d a = record {
    under = λ l. rw (n, b, d) (T.under l);
    knows = λ k. rw (n, b) (T.knows k);
    going = λ q s l f. going_on es (λ q. refl) (λ q k. rw b (omega arith)) q s (rw (n, a) at l) f;
  }

  -- an update begins
  module _ (l : ℕ) (h : Hit) (l< : l < 8) (free : under_way l es ≡ None)
      (is : deed e ≡ deed_of (Some (l, h.oid)) None None None None) where
    begun_under : (j : ℕ) → underWayBy (e ∷ ds) j ≡ object_of (under_way j (begins l h ∷ es))
    unfolding underWayBy only_if object_of
    begun_under j = at_or j l
        (λ z. rw (is, z, under_begun l es h) (upd_same (underWayBy ds) l (Some h.oid)))
        (λ n. rw (is, begun_other l es h j n) (upd_other (underWayBy ds) l (Some h.oid) j n ∙ T.under j))

    begun_knows : (k : ℕ) → In k (known (e ∷ ds)) ↔ Begun k (begins l h ∷ es)
    unfolding known only_if
    begun_knows k = rw is (
      λ i. ⊎_elim
          (λ (z : k ≡ h.oid). record { lane = l; hit = h; there = on_top; object = sym z })
          (λ (z : In k (known ds)). and_later k es (begins l h) ((T.knows k).0 z))
          (in_back h.oid k (known ds) (among h.oid (known ds)) i),
      λ B. ⊎_elim
          (λ (z : h.oid ≡ k). rw (← z) (in_new h.oid (known ds) (among h.oid (known ds)) refl))
          (λ (z : Begun k es). in_old h.oid k (known ds) (among h.oid (known ds)) ((T.knows k).1 z))
          (begun_back l h es k B.lane B.hit B.there B.object),
    )

    begun : Tie (e ∷ ds) (begins l h ∷ es)
    unfolding sweeps only_if question
    begun = record {
      under = begun_under;
      knows = begun_knows;
      going = λ q s w f. going_on (begins l h ∷ es) (λ q. refl)
          (λ q k. rw is (begun_count q l h es l< free k)) q s (rw is at w) f;
    }

  -- an update ends
  module _ (l : ℕ) (h : Hit) (l< : l < 8) (busy : under_way l es ≡ Some h)
      (is : deed e ≡ deed_of None (Some l) None None None) where
    over_under : (j : ℕ) → underWayBy (e ∷ ds) j ≡ object_of (under_way j (ends l ∷ es))
    unfolding underWayBy only_if object_of
    over_under j = at_or j l
        (λ z. rw (is, z, under_ended l es) (upd_same (underWayBy ds) l None))
        (λ n. rw (is, ended_other l es j n) (upd_other (underWayBy ds) l None j n ∙ T.under j))

    over : Tie (e ∷ ds) (ends l ∷ es)
    unfolding known sweeps only_if question bit
    over = record {
      under = over_under;
      knows = λ k. rw is (λ i. and_later k es (ends l) ((T.knows k).0 i), λ B. (T.knows k).1 (not_ended k es l B));
      going = λ q s w f. going_on (ends l ∷ es) (λ q. refl) (λ q k. rw is
          (omega (arith, over_count q l h es l< busy k))) q s (rw is at w) f;
    }

  -- a query is asked
  module _ (j : ℕ) (u : Region) (is : deed e ≡ deed_of None None (Some (j, u)) None None) where
    -- the new one: no update has ended since, and those under way count
    asked_now : SameQuery j (opened j u ds) (asks j u ∷ es)
    unfolding question pick ended under_way
    asked_now = record {
      asked = rw (eq-eqb j j refl);
      during = λ k.
          let w = sum_same 8 (λ i. bit (only_if (underWayBy ds i) (λ m. eqb m k) false))
          (λ i. bit (of_object k (under_way i es)))
          (λ i. ap bit (ap (λ (o : Option ℕ). only_if o (λ m. eqb m k) false) (T.under i) ∙ lane_counts k
          (under_way i es))) in
          let z : length (ended j k (asks j u ∷ es)) ≡ 0 = rw (eq-eqb j j refl) in
          omega (arith, updates_count j k (asks j u ∷ es));
    }

    -- one of another lane
    asked_other : (q : ℕ) → j ≢ q → (s : Sweep) → latest q (map (follow e ds) (sweeps ds)) ≡ Some s
        → s.over ≡ false → SameQuery q s (asks j u ∷ es)
    unfolding only_if bit under_way
    asked_other q n s w f =
        let v = unfinished e ds q s w f in
        let K = T.going q v.0 v.1 v.2 in
        let L = later_asks q j u es n in
        rw (← v.3) (record {
          asked = L.asked ∙ K.asked;
          during = λ k.
              let z : length (ended q k (asks j u ∷ es)) ≡ length (ended q k es) = ap length
              (ended_asked q j u es n k) in
              rw is (omega (arith, K.during k, updates_count q k es, updates_count q k (asks j u ∷ es)));
        })

    asked_going : (q : ℕ) (s : Sweep)
        → pick (eqb j q) (Some (opened j u ds)) (latest q (map (follow e ds) (sweeps ds))) ≡ Some s
        → s.over ≡ false → SameQuery q s (asks j u ∷ es)
    unfolding pick
    asked_going q s w f = at_or j q
        (λ z. let y : Some (opened j u ds) ≡ Some s = rw (eq-eqb j q z) at w in rw (← z, ← some_one y) asked_now)
        (λ n. asked_other q n s (rw (ne_eqb j q n) at w) f)

    asked : Tie (e ∷ ds) (asks j u ∷ es)
    unfolding underWayBy under_way known sweeps latest only_if
    asked = record {
      under = λ l. rw is (T.under l);
      knows = λ k. rw is (λ i. and_later k es (asks j u) ((T.knows k).0 i), λ B. (T.knows k).1 (not_asked k es j u B));
      going = λ q s w f. asked_going q s (rw is at w) f;
    }

-- ---- one call

begun_valid : {l : ℕ} {h : Hit} {es : List Event} → Valid (begins l h ∷ es) → (l < 8) × (under_way l es ≡ None)
begun_valid (Valid.begun l< free v) = (l<, free)

over_valid : {l : ℕ} {es : List Event} → Valid (ends l ∷ es) → (h : Hit) × (l < 8) × (under_way l es ≡ Some h)
over_valid (Valid.over h l< busy v) = (h, l<, busy)

module _ (g : Grid) (ds : List Entry) (es : List Event) (T : Tie ds es) where
  -- a refused call comes to nothing
  refused_call : (c : Call) → accepted_number (call c g).0.number ≡ false → Tie (entry_of c g ∷ ds) es
  refused_call c n = let d = deed_refused (entry_of c g) refl n in quiet (entry_of c g) ds es T (rw d) (rw d) (rw d)
      (rw d)

  -- nor does one that begins, ends and asks nothing
  idle_call : (c : Call)
      → ((n : ℕ) → ((accepted c n).settles ≡ None) × ((accepted c n).begins ≡ None) × ((accepted c n).ends ≡ None) ×
      ((accepted c n).asks ≡ None))
      → Tie (entry_of c g ∷ ds) es
  idle_call c a = by_test (accepted_number (call c g).0.number)
      (λ y.
      let n = (call c g).0.number in
      let d = deed_accepted (entry_of c g) n refl refl y in
      quiet (entry_of c g) ds es T (rw d (a n).0) (rw d (a n).1) (rw d (a n).2) (rw d (a n).3))
      (refused_call c)

  tie_call : (c : Call) → Valid (recall (event_of c (call c g).0.number) es)
      → Tie (entry_of c g ∷ ds) (recall (event_of c (call c g).0.number) es)
  unfolding event_of recall pick refused
  tie_call (start_update l k x y m) v =
      let c = start_update l k x y m in
      let h = hit k (record { x = x; y = y; tag = m }) in
      by_test (accepted_number (call c g).0.number)
      (λ z.
      let w : Valid (begins l h ∷ es) = rw z at v in
      let b = begun_valid w in
      rw z (begun (entry_of c g) ds es T l h b.0 b.1 (deed_accepted (entry_of c g) _ refl refl z)))
      (λ z. rw z (refused_call c z))
  tie_call (step_update l) v =
      let c = step_update l in
      let n = (call c g).0.number in
      by_test (eqb n 22)
      (λ z.
      let w : Valid (ends l ∷ es) = rw z at v in
      let b = over_valid w in
      rw z (over (entry_of c g) ds es T l b.0 b.1 b.2
      (deed_accepted (entry_of c g) 22 refl (eqb-true n 22 z) refl)))
      (λ z. rw z (by_test (accepted_number n)
      (λ y. let d = deed_accepted (entry_of c g) n refl refl y in quiet (entry_of c g) ds es T (rw d) (rw d)
      (rw (d, z)) (rw d))
      (refused_call c)))
  tie_call (start_query q u) v =
      let c = start_query q u in
      by_test (accepted_number (call c g).0.number)
      (λ z. rw z (asked (entry_of c g) ds es T q u (deed_accepted (entry_of c g) _ refl refl z)))
      (λ z. rw z (refused_call c z))
  tie_call (step_query q) v = idle_call (step_query q) (λ n. (refl, refl, refl, refl))
  tie_call (collect q n) v = idle_call (collect q n) (λ n. (refl, refl, refl, refl))
  tie_call (read q n) v = idle_call (read q n) (λ n. (refl, refl, refl, refl))
  tie_call (clear q) v = idle_call (clear q) (λ n. (refl, refl, refl, refl))
  tie_call rewind v = idle_call rewind (λ n. (refl, refl, refl, refl))

-- ---- every list of calls

tie_run : (cs : List Call) (g : Grid) (ds : List Entry) (es : List Event) → Tie ds es → Fine es g
    → Tie (history cs g ds) (events cs (answers cs g) es)
unfolding history answers events
tie_run [] g ds es T F = T
tie_run (c ∷ cs) g ds es T F =
    let F' = call_fine c g es F in
    tie_run cs (call c g).1 (entry_of c g ∷ ds) (recall (event_of c (call c g).0.number) es)
    (tie_call g ds es T c F'.fresh.now.valid) F'

tie_empty : Tie [] []
unfolding underWayBy under_way object_of known sweeps latest
tie_empty = record {
  under = λ l. refl;
  knows = λ k. (λ i. absurd (in-none i), λ B. absurd (mem_none _ B.there refl));
  going = λ q s w f. clash (cc);
}

tied : (cs : List Call) → Tie (account cs) (past cs)
unfolding past
tied cs = tie_run cs empty_grid [] [] tie_empty empty_fine

-- the last call of a list
history_last : (cs : List Call) (c : Call) (g : Grid) (ds : List Entry)
    → history (cs ++ c ∷ []) g ds ≡ entry_of c (run cs g) ∷ history cs g ds
unfolding history run
history_last [] c g ds = refl
history_last (x ∷ cs) c g ds = history_last cs c (call x g).1 (entry_of x g ∷ ds)

-- an event that asks nothing
sweeps_quiet : (e : Entry) (ds : List Entry) → (deed e).settles ≡ None → (deed e).asks ≡ None → sweeps
    (e ∷ ds) ≡ map (follow e ds) (sweeps ds)
unfolding sweeps only_if
sweeps_quiet e ds n a = rw (n, a)

-- a step that finishes a query found it under way
passed : (g : Grid) → Good g → (q : ℕ) → (call (step_query q) g).0.number ≡ 22
    → (q < 4) × (isIdleQuery (query g q).stage ≡ false) × (is_finished (query g q).stage ≡ false)
unfolding call query_step unless after
passed g G q =
    let z = sized g.tables G.shape.lengths in
    let s = query g q in
    by_test (ltb q 4)
    (λ h. by_test (isIdleQuery s.stage)
    (λ i. rw (z, h, i) (λ e. absurd (omega arith)))
    (λ i. by_test (is_finished s.stage)
    (λ f. rw (z, h, i, f) (λ e. absurd (omega arith)))
    (λ f. rw (i, f) (λ e. (ltb-true q 4 h, refl, refl)))))
    (λ h. rw (z, h) (λ e. absurd (omega arith)))

module _ (cs : List Call) (q : ℕ) (e : Finishes cs q) where
  abbrev g : Grid
  g = run cs empty_grid

  abbrev last : Entry
  last = entry_of (step_query q) g

  finishing : (s : Sweep) × (latest q (sweeps (account (cs ++ step_query q ∷ []))) ≡ Some s) × (s.finished ≡ true)
      × SameQuery q s (past cs)
  unfolding only_if bit
  finishing =
      let R : Rel (account cs) g = rel_run cs [] empty_grid empty_rel in
      let p = passed g R.good q e in
      let L = R.lasts q p.0 p.1 in
      let s = L.sweep in
      let f : s.over ≡ false = sym L.finished ∙ p.2 in
      let is : deed last ≡ deed_of None None None (Some (q, 22)) None = deed_accepted last 22 refl e refl in
      let ds = account cs in
      let to = latest-map (follow last ds) (follow_lane last ds) q (sweeps ds) s L.last in
      let K = (tied cs).going q s L.last f in (
        followed last (account cs) s,
        ap (λ (ds : List Entry). latest q (sweeps ds)) (history_last cs (step_query q) empty_grid [])
            ∙ ap (latest q) (sweeps_quiet last (account cs) (rw is) (rw is)) ∙ to ∙ ap Some
            (follow_on last (account cs) s f),
        rw (is, L.lane, eq-eqb q q refl),
        record { asked = K.asked; during = λ k. rw is (omega (arith, K.during k)) },
      )

-- DEMANDS 2 AND 3 SPEAK OF ONE HISTORY.
pub same_history : (cs : List Call) → SameHistory cs
same_history cs =
    let T = tied cs in
    record { under = T.under; knows = T.knows; going = T.going; finishing = finishing cs }
