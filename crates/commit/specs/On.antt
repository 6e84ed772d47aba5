-- Stages 11 to 13, each on all tables.
use Rattle.std.specs.Prelude.{ℕ, set, Option, Result}
use Rattle.base.specs.Outcome.{Outcome}
use Rattle.base.specs.Promise.{Gives}
use Rattle.base.specs.declared.Corrupt.{Corrupt}
use Rattle.base.specs.Step.{lift}
use Rattle.layout.specs.declared.place.Place.{Place}
use Rattle.index.specs.Places.{Shifted, shift_in}
use Rattle.tables.specs.Tables.{Tables, with_cells, with_count, with_times, with_clock, with_entries}
use Rattle.stage.specs.Turn.{Move}
use Rattle.commit.specs.Commit.{stage11, Switching, switching_of, stage12, Deleting, deleting_of, stage13}

abbrev pub stage11_on : Tables → Place → Outcome (Move Tables)
stage11_on t p = lift (with_count t) (stage11 t.count p)

-- the places of the index shifted
abbrev pub put_places : Tables → Shifted → Tables
put_places t s = with_entries t t.index.lock s.current s.previous

-- a cell that is free again
abbrev pub freed : Tables → ℕ → Tables
freed t c = with_cells t (set t.cells c 0)

-- the tables that stage 12 changes, and all tables with them changed
abbrev pub switching_in : Tables → Switching
switching_in t = switching_of t.index.current t.index.previous t.cells

abbrev pub put_switching : Tables → Switching → Tables
put_switching t d = with_cells (with_entries t t.index.lock d.current d.previous) d.cells

unfoldable pub stage12_on : Tables → Place → ℕ → Outcome (Move Tables)
stage12_on t p k = lift (put_switching t) (stage12 t.index.oid (switching_in t) p k)

-- the tables that stage 13 changes, and all tables with them changed
abbrev pub deleting_in : Tables → Deleting
deleting_in t = deleting_of t.tuples.time t.clock

abbrev pub put_deleting : Tables → Deleting → Tables
put_deleting t d = with_clock (with_times t d.times) d.clock

unfoldable pub stage13_on : Tables → Place → Outcome (Move Tables)
stage13_on t p = lift (put_deleting t) (stage13 (deleting_in t) p)

-- the promise of a shift of the places of an entry: r is the old current place
abbrev pub ShiftsAt : ℕ → Place → Result (Option Place) Corrupt → Tables → Tables → Type 0
ShiftsAt i p r t t' = Gives (λ (s : Shifted). s.old) (put_places t) t (shift_in t.index i p) r t'
