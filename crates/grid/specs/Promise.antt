-- WHAT A RESET PROMISES, of the tables t as it finds them and t' as it leaves them.
use Rattle.std.specs.Prelude.{◌≡◌, Result}
use Rattle.tables.specs.Tables.{Tables, empty_tables}
use Rattle.calls.specs.Call.{after}
use Rattle.calls.specs.Refusals.{told_call}
use Rattle.calls.specs.declared.refusal.Refusal.{Refusal}
use Rattle.updates.specs.Update.{idle_updaters}
use Rattle.queries.specs.Query.{idle_queries}
use Rattle.grid.specs.Grid.{Lanes, reset_grid}

-- A RESET makes the empty grid, whatever the lanes ls were.
abbrev pub Resets : Result Lanes Refusal → Tables → Tables → Type 0
Resets r t t' = (ls : Lanes) → after t ls (reset_grid t) ≡ told_call ls r t'

-- The tables are EMPTIED, and every lane is idle.
abbrev pub Empties : Lanes → Tables → Tables → Type 0
Empties f t t' = (t' ≡ empty_tables) × (f.updaters ≡ idle_updaters) × (f.queries ≡ idle_queries)
