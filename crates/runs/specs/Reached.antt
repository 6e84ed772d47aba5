-- THE OBJECT INDEX (document 01: the directory) is what its search finds, and a tuple lies in the cell of its
-- coordinates. Read off the tables, at any time.
use Rattle.std.specs.Prelude.{◌≡◌, ◌≢◌, true, List, ℕ, ◌<◌, ◌≤◌}
use Rattle.std.specs.Prelude.{Option, Some}
use Rattle.base.specs.Lists.{In}
use Rattle.base.specs.Outcome.{done}
use Rattle.base.specs.Table.{at}
use Rattle.cells.specs.Walk.{chain_of}
use Rattle.layout.specs.Place.{on_grid, cell_of, decode}
use Rattle.layout.specs.declared.place.Place.{Place}
use Rattle.index.specs.Search.{search}
use Rattle.index.specs.Index.{entry_at, entry_for}
use Rattle.index.specs.declared.search.Search.TheVariants.{Found}
use Rattle.tables.specs.Tables.{Tables}
use Rattle.runs.specs.Quiet.{tuple_of}

-- entry i of the index is not empty
abbrev pub Entered : Tables → ℕ → Type 0
Entered t i = (i < 512) × (at t.index.oid i ≢ 0)

-- EVERY ENTRY THAT IS NOT EMPTY is the one that the search finds for its object, so what is said of all that is looked
-- up is said of all entries; and its two numbers are read as places or as none.
pub record Reached (t : Tables) : Type 0 where
  pub found : (i : ℕ) → Entered t i → search t.index.oid (at t.index.oid i) ≡ Found i
  pub entry : (i : ℕ) → Entered t i → entry_for t.index (at t.index.oid i) ≡ Some (entry_at t.index i)
  pub current : (i : ℕ) → Entered t i → (p : Option Place) × (decode (at t.index.current i) ≡ done p)
  pub previous : (i : ℕ) → Entered t i → (p : Option Place) × (decode (at t.index.previous i) ≡ done p)

-- A TUPLE IS ON THE GRID, LIES IN THE CELL OF ITS COORDINATES AND HAS A TAG UP TO 9: in every slot below the count of
-- a bucket that walking a cell finds.
abbrev pub InTheirCells : Tables → Type 0
InTheirCells t =
    (p : Place) (chain : List ℕ) → p.cell < 256 → chain_of t.first t.next p.cell ≡ Some chain
    → In p.bucket chain → p.slot < at t.count p.bucket
    → (cell_of (tuple_of t p).x (tuple_of t p).y ≡ p.cell) × (on_grid (tuple_of t p).x (tuple_of t p).y ≡ true)
    × ((tuple_of t p).tag ≤ 9)
