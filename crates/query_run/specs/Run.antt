-- A run of a query (document 01: sweep steps, one after the other), in one lane and over all lanes.
use Rattle.std.specs.Prelude.{List, ℕ}
use Rattle.query.specs.declared.Query.{Query}
use Rattle.tables.specs.Tables.{Tables}
use Rattle.calls.specs.Run.{Ran, run_steps}
use Rattle.queries.specs.Query.{query_step}
use Rattle.queries.specs.One.{step_one}

-- up to n steps of the query q of lane l, ended by the first number that is not 0
unfoldable pub run_one : ℕ → ℕ → Tables → Query → Ran Query
run_one n l t q = run_steps (λ t q. step_one t l q) n t q

-- the same by so many calls of sweep step in lane l
unfoldable pub lane_run : ℕ → ℕ → Tables → List Query → Ran (List Query)
lane_run n l t qs = run_steps (λ t qs. query_step t qs l) n t qs
