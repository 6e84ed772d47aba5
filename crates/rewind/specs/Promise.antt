-- WHAT A REWIND PROMISES, of the tables t as it finds them and t' as it leaves them: number and tables are those of the
-- definition, for every content of the tables and of the lanes.
use Rattle.std.specs.Prelude.{◌≡◌, Result, ⊤, List}
use Rattle.tables.specs.Tables.{Tables}
use Rattle.stage.specs.declared.Updater.{Updater}
use Rattle.query.specs.declared.Query.{Query}
use Rattle.calls.specs.Call.{after}
use Rattle.calls.specs.Refusals.{told_call}
use Rattle.calls.specs.declared.refusal.Refusal.{Refusal}
use Rattle.rewind.specs.Rewind.{rewind_tables}

-- A REWIND, which works on no lane.
abbrev pub Rewinds : List Updater → List Query → Result ⊤ Refusal → Tables → Tables → Type 0
Rewinds us qs r t t' = after t tt (rewind_tables t us qs) ≡ told_call tt r t'
