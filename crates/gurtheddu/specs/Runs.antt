-- A CODED RUN IS SO MANY CALLS: what a run of up to n steps in one of the coded lanes comes to, with its lanes decoded,
-- is what n calls of report step, or of sweep step, in that lane come to on the decoded lanes, one after the other, up to
-- the first number that is not 0; and it is n runs of one step. That both hold is proofs/Runs.antt and proofs/Steps.antt.
-- A lane that is none gives 1, and a number that names no stage gives 12: on decoded lanes there is no call to compare
-- that with.
use Rattle.std.specs.Prelude.{◌≡◌, true, List, [], ◌∷◌, ℕ, zero, suc, ◌<◌, eqb, length}
use Rattle.base.specs.Numbers.{DONE}
use Rattle.base.specs.Outcome.{pick}
use Rattle.stage.specs.declared.Updater.{Updater}
use Rattle.query.specs.declared.Query.{Query}
use Rattle.tables.specs.Tables.{Tables}
use Rattle.calls.specs.Run.{Ran, ran_of, later}
use Rattle.update_run.specs.Run.{lane_run}
use Rattle.query_run.specs.Run.{lane_run as runQueries}
use Rattle.codes.specs.Updaters.{names_stage, updater_in}
use Rattle.codes.specs.Queries.{names_query, query_in}
use Rattle.gurtheddu.specs.Coded.{run_update, run_sweep}

-- what is in the lanes k, k + 1, .., n of them
unfoldable pub lanes_from : {L : Type 0} → (ℕ → L) → ℕ → ℕ → List L
lanes_from f k zero = []
lanes_from f k (suc n) = f k ∷ lanes_from f (suc k) n

-- the updates, and the queries, of the lanes' numbers
abbrev pub updaters_in : List ℕ → List Updater
updaters_in ns = lanes_from (updater_in ns) 0 8

abbrev pub queries_in : List ℕ → List Query
queries_in ns = lanes_from (query_in ns) 0 4

-- a run with its lanes decoded
abbrev pub decoded_run : {L : Type 0} → (List ℕ → L) → Ran (List ℕ) → Ran L
decoded_run decode r = ran_of r.number r.made r.tables (decode r.lanes)

abbrev pub UpdateRunIsCalls : Type 0
UpdateRunIsCalls =
    (n l : ℕ) (t : Tables) (ns : List ℕ) → length ns ≡ 80 → l < 8 → names_stage ns l ≡ true
    → decoded_run updaters_in (run_update n l t ns) ≡ lane_run n l t (updaters_in ns)

abbrev pub SweepRunIsCalls : Type 0
SweepRunIsCalls =
    (n l : ℕ) (t : Tables) (ns : List ℕ) → length ns ≡ 52 → l < 4 → names_query ns l ≡ true
    → decoded_run queries_in (run_sweep n l t ns) ≡ runQueries n l t (queries_in ns)

-- ---- the same in C's own terms: a run of n steps is n runs of one step, which is what a step is there

-- so many calls of an operation on coded lanes, one after the other, ended by the first number that is not 0
unfoldable pub calls_of : (Tables → List ℕ → Ran (List ℕ)) → ℕ → Tables → List ℕ → Ran (List ℕ)
calls_of one zero t ns = ran_of DONE 0 t ns
calls_of one (suc n) t ns =
    let a = one t ns in
    pick (eqb a.number DONE) (later a.made (calls_of one n a.tables a.lanes)) a

abbrev pub UpdateRunIsSteps : Type 0
UpdateRunIsSteps = (n l : ℕ) (t : Tables) (ns : List ℕ) → length ns ≡ 80 → run_update n l t ns ≡ calls_of (run_update 1 l) n t ns

abbrev pub SweepRunIsSteps : Type 0
SweepRunIsSteps = (n l : ℕ) (t : Tables) (ns : List ℕ) → length ns ≡ 52 → run_sweep n l t ns ≡ calls_of (run_sweep 1 l) n t ns
