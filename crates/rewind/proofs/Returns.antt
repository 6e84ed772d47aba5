-- What a rewind comes to, and what the two stores leave of the tables that were lent.
use mathlib.Core.Path.{◌≡◌}
use mathlib.Core.List.{List, map}
use Prim.Native.Nat.{ℕ}
use lib.IntN.{ℤ}
use lib.ListN.{length, set}
use Rattle.base.specs.Table.{at}
use Rattle.words.specs.Map.{CLOCK, WORDS}
use Rattle.stage.specs.declared.Updater.{Updater}
use Rattle.query.specs.declared.Query.{Query}
use Rattle.tables.specs.Tables.{Tables}
use Rattle.tables.specs.Grid.{grid}
use Rattle.tables.proofs.Grid.{set_clock}
use Rattle.calls.specs.Call.{After, after}
use Rattle.rewind.specs.Rewind.{wound_stamp, wound_clock, wound_tables, rewind_tables}

-- what a rewind comes to
abbrev pub wound : Tables → List Updater → List Query → After (Unit {0})
wound t us qs = after t tt (rewind_tables t us qs)

-- the stamps are wound back, and then the clock
pub wound_grid_lem : (w : List ℕ) (ts ts' : List ℤ) (v : ℕ) → length w ≡ WORDS → ts' ≡ map wound_stamp ts
    → v ≡ wound_clock (at w CLOCK) → wound_tables (grid w ts) ≡ grid (set w CLOCK v) ts'
unfolding grid wound_tables
wound_grid_lem w ts ts' v w# e k = rw (set_clock w ts' w# v, e, k)
