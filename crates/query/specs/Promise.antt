-- What the functions of a query's steps promise: a step tells its number and the query afterwards as its definition f says, and leaves what f leaves.
use Rattle.std.specs.Prelude.{◌≡◌, Result}
use Rattle.base.specs.Outcome.{Outcome}
use Rattle.base.specs.Step.{Step, turned}
use Rattle.tables.specs.Tables.{Tables}
use Rattle.query.specs.Scan.{progress_says}
use Rattle.base.specs.declared.Stop.{Stop}
use Rattle.query.specs.declared.Query.{Query}

abbrev pub Progresses : (Tables → Outcome (Step Query Tables)) → Result Query Stop → Tables → Tables → Type 0
Progresses f r t t' = turned t (f t) ≡ (progress_says r, t')
