-- A RUN IS ITS CALLS: a run of a lane by itself, put among the others, is what so many calls of sweep step come to, one after the other, up to the first
-- number that is not 0.
use mathlib.Core.Path.{◌≡◌}
use mathlib.Core.List.{List}
use Prim.Native.Nat.{ℕ, ◌<◌}
use lib.ListN.{length, get_or}
use Rattle.query.specs.declared.Query.{Query}
use Rattle.tables.specs.Tables.{Tables}
use Rattle.calls.proofs.Runs.{placed_run, run_calls}
use Rattle.queries.specs.Query.{idle_query, query_step}
use Rattle.queries.specs.One.{step_one}
use Rattle.queries.proofs.Lane.{step_in}
use Rattle.query_run.specs.Run.{run_one, lane_run}

pub query_run_calls : (n l : ℕ) (t : Tables) (qs : List Query) → l < length qs → lane_run n l t qs ≡ placed_run qs l (run_one n l t (get_or qs l idle_query))
unfolding lane_run run_one
query_run_calls n l t qs h = run_calls idle_query (λ t q. step_one t l q) (λ t qs. query_step t qs l) l (λ t qs. step_in t qs l) n t qs h
