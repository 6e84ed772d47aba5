-- THE RESULTS OF QUERIES, for every list of calls from any grid that its past fits (`Fine`): the finishing step and
-- what later readings and collections hand out. The empty grid and any good grid at rest are instances (Theorems.antt).
use mathlib.Core.Path.{◌≡◌, refl, ap, sym, ◌∙◌}
use mathlib.Core.Bool.{true}
use Rattle.std.specs.Prelude.{Some}
use mathlib.Core.List.{List}
use Prim.Native.Nat.{ℕ}
use Rattle.base.proofs.Table.{clash}
use Rattle.regions.specs.declared.region.Region.{Region}
use Rattle.grid.specs.Run.{Grid, Call, step_query, collect, read, Answer, call, run, answers}
use Rattle.runs.specs.Sweeps.{query}
use Rattle.freshness.specs.History.{Event, event_of, recall, events, question, uncleared}
use Rattle.freshness.specs.Fresh.{list_of, numbers_of, FinishesFrom, finished_from, Freshness}
use Rattle.freshness.specs.Moments.{Literal}
use Rattle.freshness.specs.Paper.{PaperFreshness}
use Rattle.freshness.proofs.Agree.{literal}
use Rattle.freshness.proofs.Every.{call_fine, run_fine}
use Rattle.freshness.proofs.Fine.{Fine}
use Rattle.freshness.proofs.Finish.{finishes, asked, promised}
use Rattle.freshness.proofs.Handed.{Held, held_run, handed, collect_answer, read_over}
use Rattle.freshness.proofs.Paper.{paper}
use Rattle.freshness.proofs.Walked.{few_hits}

module _ (g₀ : Grid) (es₀ : List Event) (F₀ : Fine es₀ g₀) (cs : List Call) where
  -- what is past after the calls
  abbrev es : List Event
  es = events cs (answers cs g₀) es₀

  pub fine_of : Fine es (run cs g₀)
  fine_of = run_fine cs g₀ es₀ F₀

  pub history_of : (q k : ℕ) → Literal es q k
  history_of q k = literal es fine_of.fresh.now.valid q k

  module _ (q : ℕ) (e : FinishesFrom g₀ cs q) where
    fine : Fine es (finished_from g₀ cs q)
    unfolding event_of recall
    fine = call_fine (step_query q) (run cs g₀) es fine_of

    pub freshness_of : (u : Region) × (question q es ≡ Some u) × Freshness es q u (list_of (finished_from g₀ cs q) q)
    freshness_of =
        let w = finishes (run cs g₀) fine_of.good q e in
        let g = finished_from g₀ cs q in
        ((query g q).question, asked es g fine q w.0 w.1, promised es g fine q w.0 w.1)

    pub definition_of : (u : Region) × (question q es ≡ Some u) × PaperFreshness es q u
        (list_of (finished_from g₀ cs q) q)
    definition_of = let w = freshness_of in (w.0, w.1, paper es q w.0 (list_of (finished_from g₀ cs q) q) w.2)

    -- every later reading hands the list out, with the steps
    pub handed_of_lem : (ds : List Call) (n : ℕ) → uncleared q ds (answers ds (finished_from g₀ cs q)) ≡ true
        → (call (read q n) (run ds (finished_from g₀ cs q))).0.number ≡ 0
        → (call (read q n) (run ds (finished_from g₀ cs q))).0.part ≡ numbers_of (list_of (finished_from g₀ cs q) q)
    unfolding list_of
    handed_of_lem ds n o a =
        let w = finishes (run cs g₀) fine_of.good q e in
        let g = finished_from g₀ cs q in
        let v = query g q in
        let r = held_run q w.0 v w.1 g.tables.hits ds g fine.good
        (record { lane = refl; same = λ i i<. record { oid = refl; x = refl; y = refl; tag = refl } }) o in
        let few = few_hits _ _ _ q v v.stage (λ z. clash (cc w.1)) (fine.good.asks q w.0) in
        (handed q w.0 v w.1 g.tables.hits (run ds g) r.1 few n a).0

    -- and so does a collection
    pub collected_of : (ds : List Call) (n : ℕ) → uncleared q ds (answers ds (finished_from g₀ cs q)) ≡ true
        → (call (collect q n) (run ds (finished_from g₀ cs q))).0.number ≡ 0
        → (call (collect q n) (run ds (finished_from g₀ cs q))).0.part ≡ numbers_of (list_of (finished_from g₀ cs q) q)
    collected_of ds n o a =
        let same = collect_answer q n (run ds (finished_from g₀ cs q)) in
        ap (λ (x : Answer). x.part) same ∙ handed_of_lem ds n o (sym (ap (λ (x : Answer). x.number) same) ∙ a)

  -- ACCEPTED READINGS OF ONE QUERY ARE EQUAL, whatever calls come between, if none of them clears its lane.
  pub again_of : (ds : List Call) (q n m : ℕ) → (call (read q n) (run cs g₀)).0.number ≡ 0 → uncleared q ds (answers ds (run cs g₀)) ≡ true
      → (call (read q m) (run ds (run cs g₀))).0.number ≡ 0
      → ((call (read q m) (run ds (run cs g₀))).0.part ≡ (call (read q n) (run cs g₀)).0.part)
      × ((call (read q m) (run ds (run cs g₀))).0.steps ≡ (call (read q n) (run cs g₀)).0.steps)
  again_of ds q n m a o b =
      let g = run cs g₀ in
      let v = query g q in
      let O = read_over q n g a in
      let H : Held q v g.tables.hits g = record { lane = refl; same = λ i i<. record { oid = refl; x = refl; y = refl; tag = refl } } in
      let r = held_run q O.lane v O.finished g.tables.hits ds g fine_of.good H o in
      let few = few_hits _ _ _ q v v.stage (λ z. clash (cc O.finished)) (fine_of.good.asks q O.lane) in
      let first = handed q O.lane v O.finished g.tables.hits g H few n a in
      let later = handed q O.lane v O.finished g.tables.hits (run ds g) r.1 few m b in
      (later.0 ∙ sym first.0, later.1 ∙ sym first.1)
