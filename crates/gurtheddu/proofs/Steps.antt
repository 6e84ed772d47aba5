-- A CODED RUN IS SO MANY CODED STEPS: a run of n steps is n runs of one step, up to the first number that is not 0.
-- By induction over the steps: after a step that gives 0 the lane is stored and read back as it was left, storing twice
-- is storing once, and a run that carries out no step leaves the lane as it was.
-- A lane that is none and a number that names no stage end both at once.
use mathlib.Core.Path.{◌≡◌, refl, sym, ap, ◌∙◌}
use mathlib.Core.Bool.{Bool, true, false}
use mathlib.Core.List.{List, ◌++◌, append_assoc}
use Prim.Native.Nat.{ℕ, zero, suc, ◌+◌, ◌*◌, ◌-◌, ◌<◌, ◌≤◌}
use native.Mathlib.Omega.{arith}
use lib.Dec.{eqb, ltb, leb}
use lib.ListN.{length, take, drop, length-append}
use lib.Seq.{sets, sets-eq, length-sets, take_at, drop_at, length-take-le, get_or-append-add}
use borrow.Author.Tests.{eqb-true, eqb-false, ltb-true, ne_eqb}
use Rattle.base.specs.Outcome.{pick}
use Rattle.base.specs.Table.{at}
use Rattle.base.proofs.Table.{by_test}
use Rattle.stage.specs.declared.Updater.{Updater}
use Rattle.query.specs.declared.Query.{Query}
use Rattle.tables.specs.Tables.{Tables}
use Rattle.calls.specs.Call.{Result, after}
use Rattle.calls.specs.Run.{Ran, ran_of, carried_out, later, run_steps}
use Rattle.calls.proofs.Runs.{run_none, run_ends, run_goes}
use Rattle.updates.specs.One.{step_one}
use Rattle.queries.specs.One.{step_one as queryOne}
use Rattle.update_run.specs.Run.{run_one}
use Rattle.query_run.specs.Run.{run_one as runQuery}
use Rattle.codes.specs.Updaters.{code_updater, names_stage, updater_in, with_updater}
use Rattle.codes.specs.Queries.{code_query, scan_in, kind_in, names_kind, names_query, query_in, with_query}
use Rattle.codes.proofs.Updaters.{updater_same, stage_named}
use Rattle.codes.proofs.Queries.{query_same, scan_named, kind_named}
use Rattle.gurtheddu.specs.Coded.{coded_run, run_update, run_sweep}
use Rattle.gurtheddu.specs.Runs.{calls_of, UpdateRunIsSteps, SweepRunIsSteps}
use Rattle.gurtheddu.proofs.Runs.{run_still, update_still, query_still}

-- ---- numbers stored one behind the other

module _ (l vs : List ℕ) (i : ℕ) (fits : i + length vs ≤ length l) where
  front : length (take i l) ≡ i
  front = length-take-le i l (omega arith)

  -- what stands there
  stored_at : (k : ℕ) → at (sets l i vs) (i + k) ≡ at (vs ++ drop (i + length vs) l) k
  stored_at k =
      ap (λ (m : List ℕ). at m (i + k)) (sets-eq vs l i fits ∙ append_assoc (take i l) vs (drop (i + length vs) l))
      ∙ ap (λ (j : ℕ). at (take i l ++ (vs ++ drop (i + length vs) l)) (j + k)) (sym front)
      ∙ get_or-append-add (take i l) (vs ++ drop (i + length vs) l) k 0

  -- as many others stored over them
  stored_over : (ws : List ℕ) → length ws ≡ length vs → sets (sets l i vs) i ws ≡ sets l i ws
  stored_over ws e =
      let ms = sets l i vs in
      let rest = drop (i + length vs) l in
      let ms# : length ms ≡ length l = length-sets l i vs in
      let is : ms ≡ (take i l ++ vs) ++ rest = sets-eq vs l i fits in
      let before : take i ms ≡ take i l = ap (take i) (is ∙ append_assoc (take i l) vs rest) ∙ take_at (take i l) (vs ++ rest) i front in
      let whole : length (take i l ++ vs) ≡ i + length ws = length-append (take i l) vs ∙ (λ j. front j + sym e j) in
      let behind : drop (i + length ws) ms ≡ drop (i + length ws) l =
      ap (drop (i + length ws)) is
      ∙ drop_at (take i l ++ vs) rest (i + length ws) whole
      ∙ ap (λ (k : ℕ). drop (i + k) l) (sym e) in
      sets-eq ws ms i (omega arith) ∙ (λ j. before j ++ ws ++ behind j) ∙ sym (sets-eq ws l i (omega arith))

-- ---- one call more

module _ (one : Tables → List ℕ → Ran (List ℕ)) (t : Tables) (ns : List ℕ) (n : ℕ) where
  calls_goes : (m : ℕ) (t' : Tables) (ms : List ℕ) → one t ns ≡ ran_of 0 m t' ms → calls_of one (suc n) t ns ≡ later m (calls_of one n t' ms)
  unfolding calls_of pick
  calls_goes m t' ms e = ap (λ (a : Ran (List ℕ)). pick (eqb a.number 0) (later a.made (calls_of one n a.tables a.lanes)) a) e

  calls_ends : (a : Ran (List ℕ)) → one t ns ≡ a → eqb a.number 0 ≡ false → calls_of one (suc n) t ns ≡ a
  unfolding calls_of pick
  calls_ends a e z = ap (λ (a : Ran (List ℕ)). pick (eqb a.number 0) (later a.made (calls_of one n a.tables a.lanes)) a) e ∙ rw z

-- ---- a run in a lane that is one, with a number that names a stage

module _ {L : Type 0} (step : Tables → L → Result L) (still : (t : Tables) (u : L) → carried_out (after t u (step t u)).number ≡ 0 → (after t u (step t u)).lanes ≡ u)
    (size : ℕ) (names : List ℕ → Bool) (decode : List ℕ → L) (store : List ℕ → L → List ℕ)
    (long : (ns : List ℕ) (v : L) → length ns ≡ size → length (store ns v) ≡ size)
    (named : (ns : List ℕ) (v : L) → length ns ≡ size → names (store ns v) ≡ true)
    (back : (ns : List ℕ) (v : L) → length ns ≡ size → decode (store ns v) ≡ v)
    (twice : (ns : List ℕ) (v w : L) → length ns ≡ size → store (store ns v) w ≡ store ns w)
    (one : Tables → List ℕ → Ran (List ℕ))
    (one-is : (t : Tables) (ns : List ℕ) → names ns ≡ true → one t ns ≡ coded_run ns (store ns) (run_steps step 1 t (decode ns))) where
  -- the lanes after a first step and r, where r began with the lane v
  both_stored : (ns : List ℕ) (ns# : length ns ≡ size) (v : L) (r : Ran L) → (r.made ≡ 0 → r.lanes ≡ v) → (b : Bool) → eqb r.made 0 ≡ b
      → store ns r.lanes ≡ pick b (store ns v) (store (store ns v) r.lanes)
  unfolding pick
  both_stored ns ns# v r s true e = ap (store ns) (s (eqb-true r.made 0 e))
  both_stored ns ns# v r s false e = sym (twice ns v r.lanes ns#)

  after_first : (ns : List ℕ) (ns# : length ns ≡ size) (v : L) (r : Ran L) → (r.made ≡ 0 → r.lanes ≡ v)
      → coded_run ns (store ns) (later 1 r) ≡ later 1 (coded_run (store ns v) (store (store ns v)) r)
  unfolding pick
  after_first ns ns# v r s =
      rw (ne_eqb (1 + r.made) 0 (λ z. omega arith)) (ap (ran_of r.number (1 + r.made) r.tables) (both_stored ns ns# v r s (eqb r.made 0) refl))

  coded_calls : (n : ℕ) (t : Tables) (ns : List ℕ) → length ns ≡ size → names ns ≡ true → coded_run ns (store ns) (run_steps step n t (decode ns)) ≡ calls_of one n t ns
  unfolding calls_of run_steps pick
  coded_calls zero t ns ns# g = refl
  coded_calls (suc n) t ns ns# g =
      let u = decode ns in
      let a = after t u (step t u) in
      let v = a.lanes in
      let ms = store ns v in
      by_test (eqb a.number 0)
      (λ e.
      let z : a.number ≡ 0 = eqb-true a.number 0 e in
      let first : run_steps step 1 t u ≡ later 1 (ran_of 0 0 a.tables v) =
      run_goes step t u a.number a.tables v refl 1 (omega arith) z ∙ ap (later 1) (run_none step (1 - 1) a.tables v (omega arith)) in
      let n# : suc n - 1 ≡ n = omega arith in
      let r = run_steps step n a.tables v in
      let all : run_steps step (suc n) t u ≡ later 1 r =
      run_goes step t u a.number a.tables v refl (suc n) (omega arith) z ∙ ap (λ (m : ℕ). later 1 (run_steps step m a.tables v)) n# in
      let o : one t ns ≡ ran_of 0 1 a.tables ms = one-is t ns g ∙ ap (coded_run ns (store ns)) first in
      ap (coded_run ns (store ns)) all
      ∙ after_first ns ns# v r (run_still step still n a.tables v)
      ∙ ap (λ (w : L). later 1 (coded_run ms (store ms) (run_steps step n a.tables w))) (sym (back ns v ns#))
      ∙ ap (later 1) (coded_calls n a.tables ms (long ns v ns#) (named ns v ns#))
      ∙ sym (calls_goes one t ns n 1 a.tables ms o))
      (λ e.
      let z : a.number ≡ 0 → ⊥ = eqb-false a.number 0 e in
      let end : Ran L = ran_of a.number (carried_out a.number) a.tables v in
      let o : one t ns ≡ coded_run ns (store ns) end = one-is t ns g ∙ ap (coded_run ns (store ns)) (run_ends step t u a.number a.tables v refl 1 (omega arith) z) in
      ap (coded_run ns (store ns)) (run_ends step t u a.number a.tables v refl (suc n) (omega arith) z)
      ∙ sym (calls_ends one t ns n (coded_run ns (store ns) end) o e))

-- ---- updates

ten_long : (u : Updater) → length (code_updater u) ≡ 10
unfolding code_updater
ten_long u = refl

module _ (l : ℕ) where
  module _ (l< : l < 8) (ns : List ℕ) (v : Updater) (ns# : length ns ≡ 80) where
    updater_fits : 10 * l + length (code_updater v) ≤ length ns
    updater_fits = omega (arith, ten_long v)

    updaters_long : length (with_updater ns l v) ≡ 80
    updaters_long = length-sets ns (10 * l) (code_updater v) ∙ ns#

    updater_named : names_stage (with_updater ns l v) l ≡ true
    unfolding code_updater
    updater_named = ap (λ (k : ℕ). leb k 14) (stored_at ns (code_updater v) (10 * l) updater_fits 4) ∙ stage_named v.stage

    updater_over : (w : Updater) → with_updater (with_updater ns l v) l w ≡ with_updater ns l w
    updater_over w = stored_over ns (code_updater v) (10 * l) updater_fits (code_updater w) (ten_long w ∙ sym (ten_long v))

  -- a run of some steps: in a lane that is one, with a number that names a stage; with one that names none; in a lane that is none
  module _ (n : ℕ) (t : Tables) (ns : List ℕ) where
    updater_runs : ltb l 8 ≡ true → names_stage ns l ≡ true → run_update (suc n) l t ns ≡ coded_run ns (with_updater ns l) (run_steps (λ t u. step_one t l u) (suc n) t (updater_in ns l))
    unfolding run_update run_one pick
    updater_runs e g = rw (ne_eqb (suc n) 0 (λ z. omega arith), e, g)

    updater_nameless : ltb l 8 ≡ true → names_stage ns l ≡ false → run_update (suc n) l t ns ≡ ran_of 12 0 t ns
    unfolding run_update pick
    updater_nameless e g = rw (ne_eqb (suc n) 0 (λ z. omega arith), e, g)

    updater_laneless : ltb l 8 ≡ false → run_update (suc n) l t ns ≡ ran_of 1 0 t ns
    unfolding run_update pick
    updater_laneless e = rw (ne_eqb (suc n) 0 (λ z. omega arith), e)

  updater_steps : ltb l 8 ≡ true → (n : ℕ) (t : Tables) (ns : List ℕ) → length ns ≡ 80 → names_stage ns l ≡ true
      → coded_run ns (with_updater ns l) (run_steps (λ t u. step_one t l u) n t (updater_in ns l)) ≡ calls_of (run_update 1 l) n t ns
  updater_steps e =
      let l< = ltb-true l 8 e in
      coded_calls (λ t u. step_one t l u) (λ t u. update_still t l u) 80 (λ ns. names_stage ns l) (λ ns. updater_in ns l) (λ ns. with_updater ns l)
      (updaters_long l<) (updater_named l<) (λ ns v ns#. updater_same ns l ns# l< v) (λ ns v w ns#. updater_over l< ns v ns# w)
      (run_update 1 l) (λ t ns g. updater_runs 0 t ns e g)

-- A RUN OF AN UPDATE in a coded lane is so many runs of one step.
pub update_run_steps : UpdateRunIsSteps
unfolding run_update calls_of pick
update_run_steps zero l t ns ns# = refl
update_run_steps (suc n) l t ns ns# =
    by_test (ltb l 8)
    (λ e. by_test (names_stage ns l)
    (λ g. updater_runs l n t ns e g ∙ updater_steps l e (suc n) t ns ns# g)
    (λ g. updater_nameless l n t ns e g ∙ sym (calls_ends (run_update 1 l) t ns n (ran_of 12 0 t ns) (updater_nameless l 0 t ns e g) refl)))
    (λ e. updater_laneless l n t ns e ∙ sym (calls_ends (run_update 1 l) t ns n (ran_of 1 0 t ns) (updater_laneless l 0 t ns e) refl))

-- ---- queries

thirteen_long : (q : Query) → length (code_query q) ≡ 13
unfolding code_query
thirteen_long q = refl

module _ (l : ℕ) where
  module _ (l< : l < 4) (ns : List ℕ) (v : Query) (ns# : length ns ≡ 52) where
    query_fits : 13 * l + length (code_query v) ≤ length ns
    query_fits = omega (arith, thirteen_long v)

    queries_long : length (with_query ns l v) ≡ 52
    queries_long = length-sets ns (13 * l) (code_query v) ∙ ns#

    query_named : names_query (with_query ns l v) l ≡ true
    unfolding code_query
    query_named =
        let first : 13 * l ≡ 13 * l + 0 = omega arith in
        let scan : leb (scan_in (with_query ns l v) l) 3 ≡ true =
        ap (λ (k : ℕ). leb k 3) (stored_at ns (code_query v) (13 * l) query_fits 9) ∙ scan_named v.stage in
        let kind : names_kind (kind_in (with_query ns l v) l) ≡ true =
        ap (λ (j : ℕ). leb (at (with_query ns l v) j) 2) first
        ∙ ap (λ (k : ℕ). leb k 2) (stored_at ns (code_query v) (13 * l) query_fits 0) ∙ kind_named v.question.kind in
        rw (scan, kind)

    query_over : (w : Query) → with_query (with_query ns l v) l w ≡ with_query ns l w
    query_over w = stored_over ns (code_query v) (13 * l) query_fits (code_query w) (thirteen_long w ∙ sym (thirteen_long v))

  -- a run of some steps: in a lane that is one, with a number that names a stage; with one that names none; in a lane that is none
  module _ (n : ℕ) (t : Tables) (ns : List ℕ) where
    query_runs : ltb l 4 ≡ true → names_query ns l ≡ true → run_sweep (suc n) l t ns ≡ coded_run ns (with_query ns l) (run_steps (λ t q. queryOne t l q) (suc n) t (query_in ns l))
    unfolding run_sweep runQuery pick
    query_runs e g = rw (ne_eqb (suc n) 0 (λ z. omega arith), e, g)

    query_nameless : ltb l 4 ≡ true → names_query ns l ≡ false → run_sweep (suc n) l t ns ≡ ran_of 12 0 t ns
    unfolding run_sweep pick
    query_nameless e g = rw (ne_eqb (suc n) 0 (λ z. omega arith), e, g)

    query_laneless : ltb l 4 ≡ false → run_sweep (suc n) l t ns ≡ ran_of 1 0 t ns
    unfolding run_sweep pick
    query_laneless e = rw (ne_eqb (suc n) 0 (λ z. omega arith), e)

  query_steps : ltb l 4 ≡ true → (n : ℕ) (t : Tables) (ns : List ℕ) → length ns ≡ 52 → names_query ns l ≡ true
      → coded_run ns (with_query ns l) (run_steps (λ t q. queryOne t l q) n t (query_in ns l)) ≡ calls_of (run_sweep 1 l) n t ns
  query_steps e =
      let l< = ltb-true l 4 e in
      coded_calls (λ t q. queryOne t l q) (λ t q. query_still t l q) 52 (λ ns. names_query ns l) (λ ns. query_in ns l) (λ ns. with_query ns l)
      (queries_long l<) (query_named l<) (λ ns v ns#. query_same ns l ns# l< v) (λ ns v w ns#. query_over l< ns v ns# w)
      (run_sweep 1 l) (λ t ns g. query_runs 0 t ns e g)

-- A RUN OF A QUERY in a coded lane is so many runs of one step.
pub query_run_steps : SweepRunIsSteps
unfolding run_sweep calls_of pick
query_run_steps zero l t ns ns# = refl
query_run_steps (suc n) l t ns ns# =
    by_test (ltb l 4)
    (λ e. by_test (names_query ns l)
    (λ g. query_runs l n t ns e g ∙ query_steps l e (suc n) t ns ns# g)
    (λ g. query_nameless l n t ns e g ∙ sym (calls_ends (run_sweep 1 l) t ns n (ran_of 12 0 t ns) (query_nameless l 0 t ns e g) refl)))
    (λ e. query_laneless l n t ns e ∙ sym (calls_ends (run_sweep 1 l) t ns n (ran_of 1 0 t ns) (query_laneless l 0 t ns e) refl))
