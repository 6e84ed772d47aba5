-- WHAT A READING, A CLEARING AND A COLLECTION LEAVE, refused or accepted.
use Rattle.std.specs.Prelude.{◌≡◌, ◌≢◌, List, [], ℕ, ◌*◌, length, take, drop}
use Rattle.query.specs.declared.Query.{Query}
use Rattle.tables.specs.Tables.{Tables}
use Rattle.collect.specs.Causes.{lane_of}
use Rattle.collect.specs.Collect.{idled, entries_from}
use Rattle.collect.specs.Filling.{Filling}

-- A refused reading or collection: every table, lane and number of the lent list as it was, an empty part, no steps.
pub record Unchanged (t : Tables) (qs : List Query) (out : List ℕ) (f : Filling) : Type 0 where
  pub tables : f.tables ≡ t
  pub queries : f.queries ≡ qs
  pub steps : f.steps ≡ 0
  pub filled : f.filled ≡ 0
  pub part : take f.filled f.list ≡ []
  pub list : f.list ≡ out

-- An accepted reading: the steps and the entries of its lane, later numbers of the list and the tables as they were.
pub record Told (t : Tables) (qs : List Query) (l : ℕ) (out : List ℕ) (f : Filling) : Type 0 where
  pub steps : f.steps ≡ (lane_of qs l).steps
  pub filled : f.filled ≡ 4 * (lane_of qs l).hits
  pub part : take f.filled f.list ≡ entries_from t.hits (256 * l) (lane_of qs l).hits
  pub rest : drop f.filled f.list ≡ drop f.filled out
  pub same : length f.list ≡ length out
  pub tables : f.tables ≡ t

-- An accepted clearing: the lane idled, every other lane as it was.
pub record Idled (qs : List Query) (l : ℕ) (qs' : List Query) : Type 0 where
  pub lane : lane_of qs' l ≡ idled (lane_of qs l)
  pub others : (j : ℕ) → j ≢ l → lane_of qs' j ≡ lane_of qs j

-- An accepted collection: both.
pub record Taken (t : Tables) (qs : List Query) (l : ℕ) (out : List ℕ) (f : Filling) : Type 0 where
  pub told : Told t qs l out f
  pub idles : Idled qs l f.queries
