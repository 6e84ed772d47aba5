-- WHAT A RUN OF A QUERY PROMISES, of the tables t as it finds them and t' as it leaves them.
use Rattle.std.specs.Prelude.{◌≡◌, ℕ}
use Rattle.query.specs.declared.Query.{Query}
use Rattle.tables.specs.Tables.{Tables}
use Rattle.calls.specs.Run.{ran_of}
use Rattle.calls.specs.Refusals.{end_number}
use Rattle.calls.specs.declared.run.Ran.{Ran}
use Rattle.query_run.specs.Run.{run_one}

-- A RUN of up to n steps of the query q of lane l.
abbrev pub Runs : Query → ℕ → ℕ → Ran Query → Tables → Tables → Type 0
Runs q l n r t t' = run_one n l t q ≡ ran_of (end_number r.end) r.made t' r.lanes
