-- WHAT AN ACCEPTED START OF A QUERY LEAVES.
use Rattle.std.specs.Prelude.{◌≡◌, ◌≢◌, List, ℕ, ◌+◌, get_or}
use Rattle.regions.specs.declared.region.Region.{Region}
use Rattle.query.specs.declared.Query.{Query}
use Rattle.tables.specs.Tables.{Tables, with_clock}
use Rattle.calls.specs.Call.{After}
use Rattle.queries.specs.Query.{idle_query, begun}

-- Lane l has the query, every other lane is as it was, one stamp is drawn, and nothing else has changed.
pub record Started (t : Tables) (qs : List Query) (l : ℕ) (u : Region) (a : After (List Query)) : Type 0 where
  pub lane : get_or a.lanes l idle_query ≡ begun u (t.clock + 1)
  pub others : (j : ℕ) → j ≢ l → get_or a.lanes j idle_query ≡ get_or qs j idle_query
  pub tables : a.tables ≡ with_clock t (t.clock + 1)
