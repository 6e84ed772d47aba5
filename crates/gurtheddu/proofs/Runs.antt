-- A CODED RUN IS SO MANY CALLS. In the lane itself a run is its calls already (`update_run_calls`, `query_run_calls`).
-- That its lane is stored and all are decoded is one lane replaced among the decoded ones, since coding and decoding are
-- inverse; and where nothing is stored no step was carried out, so that the lane is as it was.
use mathlib.Core.Path.{◌≡◌, refl, sym, ap, ◌∙◌}
use mathlib.Core.Logic.{◌≢◌}
use mathlib.Core.Bool.{Bool, true, false}
use mathlib.Core.List.{List, ◌∷◌}
use Prim.Native.Nat.{ℕ, zero, suc, ◌+◌, ◌<◌, ◌≤◌}
use native.Mathlib.Omega.{arith}
use lib.Dec.{eqb, ltb}
use lib.ListN.{length, get_or, set}
use lib.Seq.{set-get_or}
use borrow.Author.Tests.{eqb-true, ltb-true, ltb-false, lt-ltb, ne_eqb}
use Rattle.base.specs.Outcome.{Outcome, pick}
use Rattle.base.specs.Step.{Step}
use Rattle.base.proofs.Table.{by_test, clash}
use Rattle.stage.specs.Turn.{Move}
use Rattle.stage.specs.declared.Updater.{Updater}
use Rattle.query.specs.Scan.{scan_number}
use Rattle.query.specs.declared.Scan.{Scan}
use Rattle.query.specs.declared.Scan.TheVariants.{Idle, Enter, Read, Finished}
use Rattle.query.specs.declared.Query.{Query}
use Rattle.tables.specs.Tables.{Tables}
use Rattle.calls.specs.Call.{Result, after, Same, stepped}
use Rattle.calls.specs.Run.{Ran, ran_of, carried_out, later, run_steps}
use Rattle.calls.proofs.Moves.{Moves, move_of}
use Rattle.calls.proofs.Tests.{same_unless, same_stepped}
use Rattle.calls.proofs.Runs.{placed_run}
use Rattle.updates.specs.Update.{idle_updater, with_stage}
use Rattle.updates.specs.One.{step_one}
use Rattle.updates.proofs.Moves.{Moved, not_moved, stage_moves}
use Rattle.queries.specs.Query.{idle_query}
use Rattle.queries.specs.One.{step_one as queryOne}
use Rattle.queries.proofs.Refusals.{Moved as Gone, scan_moves}
use Rattle.update_run.specs.Run.{run_one, lane_run}
use Rattle.update_run.proofs.Lanes.{update_run_calls}
use Rattle.query_run.specs.Run.{run_one as runQuery, lane_run as runQueries}
use Rattle.query_run.proofs.Lanes.{query_run_calls}
use Rattle.codes.specs.Updaters.{updater_in, with_updater}
use Rattle.codes.specs.Queries.{query_in, with_query}
use Rattle.codes.proofs.Updaters.{updater_same, updater_below, updater_above}
use Rattle.codes.proofs.Queries.{query_same, query_below, query_above}
use Rattle.gurtheddu.specs.Coded.{coded_run, run_update, run_sweep}
use Rattle.gurtheddu.specs.Runs.{lanes_from, updaters_in, queries_in, decoded_run, UpdateRunIsCalls, SweepRunIsCalls}

-- ---- lanes one behind the other

module _ {L : Type 0} where
  from_long : (f : ℕ → L) (n k : ℕ) → length (lanes_from f k n) ≡ n
  unfolding lanes_from
  from_long f zero k = refl
  from_long f (suc n) k = ap suc (from_long f n (suc k))

  from_at : (f : ℕ → L) (d : L) (n k l : ℕ) → l < n → get_or (lanes_from f k n) l d ≡ f (k + l)
  unfolding lanes_from
  from_at f d zero k l h = absurd (omega arith)
  from_at f d (suc n) k zero h = ap f (omega arith)
  from_at f d (suc n) k (suc l) h = from_at f d n (suc k) l (omega arith) ∙ ap f (omega arith)

  from_here : (f : ℕ → L) (d : L) (n l : ℕ) → l < n → get_or (lanes_from f 0 n) l d ≡ f l
  from_here f d n l h = from_at f d n 0 l h ∙ ap f (omega arith)

  from_same : (f g : ℕ → L) (n k : ℕ) → ((m : ℕ) → k ≤ m → g m ≡ f m) → lanes_from g k n ≡ lanes_from f k n
  unfolding lanes_from
  from_same f g zero k s = refl
  from_same f g (suc n) k s =
      let h : g k ≡ f k = s k (omega arith) in
      let r : lanes_from g (suc k) n ≡ lanes_from f (suc k) n = from_same f g n (suc k) (λ m i. s m (omega arith)) in
      λ j. h j ∷ r j

  -- one of them replaced
  from_set : (f g : ℕ → L) (v : L) (n k l : ℕ) → l < n → g (k + l) ≡ v → ((m : ℕ) → m ≢ k + l → g m ≡ f m) → lanes_from g k n ≡ set (lanes_from f k n) l v
  unfolding lanes_from
  from_set f g v zero k l h e s = absurd (omega arith)
  from_set f g v (suc n) k zero h e s =
      let k# : k ≡ k + 0 = omega arith in
      let y : g k ≡ v = ap g k# ∙ e in
      let r : lanes_from g (suc k) n ≡ lanes_from f (suc k) n = from_same f g n (suc k) (λ m i. s m (λ z. omega arith)) in
      λ j. y j ∷ r j
  from_set f g v (suc n) k (suc l) h e s =
      let k# : suc k + l ≡ k + suc l = omega arith in
      let y : g k ≡ f k = s k (λ z. omega arith) in
      let r : lanes_from g (suc k) n ≡ set (lanes_from f (suc k) n) l v = from_set f g v n (suc k) l (omega arith) (ap g k# ∙ e) (λ m i. s m (λ z. i (z ∙ sym k#))) in
      λ j. y j ∷ r j

-- ---- a run that carries out no step leaves its lane as it was

not_carried : (k : ℕ) → carried_out k ≡ 0 → (k ≢ 0) × (k ≢ 21) × (k ≢ 22)
unfolding carried_out pick
not_carried k z = (λ e. clash (sym z ∙ ap carried_out e), λ e. clash (sym z ∙ ap carried_out e), λ e. clash (sym z ∙ ap carried_out e))

module _ {L : Type 0} where
  ended : (b : Bool) (r : Ran L) (k : ℕ) (t : Tables) (v u : L) → (carried_out k ≡ 0 → v ≡ u)
      → (pick b (later 1 r) (ran_of k (carried_out k) t v)).made ≡ 0 → (pick b (later 1 r) (ran_of k (carried_out k) t v)).lanes ≡ u
  unfolding pick
  ended true r k t v u h z = absurd (omega arith)
  ended false r k t v u h z = h z

  module _ (step : Tables → L → Result L) (still : (t : Tables) (u : L) → carried_out (after t u (step t u)).number ≡ 0 → (after t u (step t u)).lanes ≡ u) where
    pub run_still : (n : ℕ) (t : Tables) (u : L) → (run_steps step n t u).made ≡ 0 → (run_steps step n t u).lanes ≡ u
    unfolding run_steps
    run_still zero t u z = refl
    run_still (suc n) t u z =
        let a = after t u (step t u) in
        ended (eqb a.number 0) (run_steps step n a.tables a.lanes) a.number a.tables a.lanes u (still t u) z

-- ---- the lanes after a run, decoded

module _ {L : Type 0} (d : L) (decode : List ℕ → ℕ → L) (store : L → List ℕ) (ns : List ℕ) (w l : ℕ) (l< : l < w)
    (here : (v : L) → decode (store v) l ≡ v) (there : (v : L) (m : ℕ) → m ≢ l → decode (store v) m ≡ decode ns m) (r : Ran L)
    (still : r.made ≡ 0 → r.lanes ≡ decode ns l) where
  abbrev all : List ℕ → List L
  all ms = lanes_from (decode ms) 0 w

  left : (b : Bool) → eqb r.made 0 ≡ b → all (pick b ns (store r.lanes)) ≡ set (all ns) l r.lanes
  unfolding pick
  left true e =
      sym (set-get_or (all ns) l d)
      ∙ ap (set (all ns) l) (from_here (decode ns) d w l l< ∙ sym (still (eqb-true r.made 0 e)))
  left false e =
      let z# : 0 + l ≡ l = omega arith in
      from_set (decode ns) (decode (store r.lanes)) r.lanes w 0 l l<
      (ap (decode (store r.lanes)) z# ∙ here r.lanes) (λ m i. there r.lanes m (λ z. i (z ∙ sym z#)))

  pub decoded_run_lem : decoded_run all (coded_run ns store r) ≡ placed_run (all ns) l r
  decoded_run_lem = ap (ran_of r.number r.made r.tables) (left (eqb r.made 0) refl)

beyond : (m l : ℕ) → m ≢ l → l ≤ m → l < m
beyond m l i h = omega arith

-- ---- updates

-- a step that is not carried out changes nothing: a stage that moves gives 0, 21 or 22
abbrev Still : ℕ → Type 0
Still n = (n ≢ 0) × (n ≢ 21) × (n ≢ 22)

module _ (t : Tables) (l : ℕ) (u : Updater) where
  same_stage : (o : Outcome (Move Tables)) → Moves Moved o → Still (after t u (stepped t u (with_stage u) o)).number → Same t u (after t u (stepped t u (with_stage u) o))
  same_stage o m h = same_stepped t u (with_stage u) o (λ n e q. let k = rw q at h in not_moved (move_of (rw e at m)) k.0 k.1 k.2)

  pub update_still : carried_out (after t u (step_one t l u)).number ≡ 0 → (after t u (step_one t l u)).lanes ≡ u
  unfolding step_one
  update_still z =
      let past = same_unless t u Still in
      (past _ _ _ (past _ _ _ (past _ _ _ (same_stage _ (stage_moves t (suc l) u u.stage)))) (not_carried _ z)).lanes

module _ (l : ℕ) (t : Tables) (ns : List ℕ) (ns# : length ns ≡ 80) (l< : l < 8) where
  elsewhere : (v : Updater) (m : ℕ) → m ≢ l → updater_in (with_updater ns l v) m ≡ updater_in ns m
  elsewhere v m i =
      by_test (ltb m l) (λ e. updater_below ns l ns# l< v m (ltb-true m l e)) (λ e. updater_above ns l ns# l< v m (beyond m l i (ltb-false m l e)))

  ran : (n : ℕ) → decoded_run updaters_in (coded_run ns (with_updater ns l) (run_one n l t (updater_in ns l))) ≡ lane_run n l t (updaters_in ns)
  unfolding run_one
  ran n =
      decoded_run_lem idle_updater updater_in (with_updater ns l) ns 8 l l< (updater_same ns l ns# l<) elsewhere (run_one n l t (updater_in ns l))
      (run_still (λ t u. step_one t l u) (λ t u. update_still t l u) n t (updater_in ns l))
      ∙ ap (λ (u : Updater). placed_run (updaters_in ns) l (run_one n l t u)) (sym (from_here (updater_in ns) idle_updater 8 l l<))
      ∙ sym (update_run_calls n l t (updaters_in ns) (rw (from_long (updater_in ns) 8 0) l<))

-- A RUN OF AN UPDATE in a coded lane is so many calls of report step.
pub update_run_coded : UpdateRunIsCalls
unfolding run_update lane_run run_steps pick
update_run_coded zero l t ns ns# l< g = refl
update_run_coded (suc n) l t ns ns# l< g = rw (ne_eqb (suc n) 0 (λ z. omega arith), lt-ltb l 8 l<, g) (ran l t ns ns# l< (suc n))

-- ---- queries

-- a step that is not carried out changes nothing: one that moves gives 0 or 22
idle_number : (s : Scan) → Still (scan_number s) → ⊥
idle_number Idle h = h.0 refl
idle_number (Enter c) h = h.0 refl
idle_number (Read c w) h = h.0 refl
idle_number Finished h = h.2 refl

module _ (t : Tables) (l : ℕ) (q : Query) where
  same_scan : (o : Outcome (Step Query Tables)) → Moves Gone o → Still (after t q (stepped t q (λ (p : Query). p) o)).number → Same t q (after t q (stepped t q (λ (p : Query). p) o))
  same_scan o m h = same_stepped t q (λ (p : Query). p) o (λ n e w. let k = rw w at h in let g = move_of (rw e at m) in idle_number n.next.stage (rw g at k))

  pub query_still : carried_out (after t q (queryOne t l q)).number ≡ 0 → (after t q (queryOne t l q)).lanes ≡ q
  unfolding queryOne
  query_still z =
      let past = same_unless t q Still in
      (past _ _ _ (past _ _ _ (past _ _ _ (past _ _ _ (same_scan _ (scan_moves t l q q.stage))))) (not_carried _ z)).lanes

module _ (l : ℕ) (t : Tables) (ns : List ℕ) (ns# : length ns ≡ 52) (l< : l < 4) where
  apart : (v : Query) (m : ℕ) → m ≢ l → query_in (with_query ns l v) m ≡ query_in ns m
  apart v m i =
      by_test (ltb m l) (λ e. query_below ns l ns# l< v m (ltb-true m l e)) (λ e. query_above ns l ns# l< v m (beyond m l i (ltb-false m l e)))

  swept : (n : ℕ) → decoded_run queries_in (coded_run ns (with_query ns l) (runQuery n l t (query_in ns l))) ≡ runQueries n l t (queries_in ns)
  unfolding runQuery
  swept n =
      decoded_run_lem idle_query query_in (with_query ns l) ns 4 l l< (query_same ns l ns# l<) apart (runQuery n l t (query_in ns l))
      (run_still (λ t q. queryOne t l q) (λ t q. query_still t l q) n t (query_in ns l))
      ∙ ap (λ (q : Query). placed_run (queries_in ns) l (runQuery n l t q)) (sym (from_here (query_in ns) idle_query 4 l l<))
      ∙ sym (query_run_calls n l t (queries_in ns) (rw (from_long (query_in ns) 4 0) l<))

-- A RUN OF A QUERY in a coded lane is so many calls of sweep step.
pub query_run_coded : SweepRunIsCalls
unfolding run_sweep runQueries run_steps pick
query_run_coded zero l t ns ns# l< g = refl
query_run_coded (suc n) l t ns ns# l< g = rw (ne_eqb (suc n) 0 (λ z. omega arith), lt-ltb l 4 l<, g) (swept l t ns ns# l< (suc n))
