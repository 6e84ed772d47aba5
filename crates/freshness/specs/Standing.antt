-- WHERE THE TABLES SAY THAT AN OBJECT STANDS (document 01: at a stamp above zero). With no update under way that is
-- where it stands by the history.
use Rattle.std.specs.Prelude.{◌≡◌, ◌↔◌, List, ℕ}
use Rattle.std.specs.Prelude.{Some}
use Rattle.base.specs.Outcome.{done}
use Rattle.layout.specs.Place.{cell_of, decode}
use Rattle.layout.specs.declared.place.Place.{Place}
use Rattle.index.specs.Index.{Entry, entry_for}
use Rattle.tables.specs.Tables.{Tables}
use Rattle.base.specs.Spot.{Spot}
use Rattle.slots.specs.Spot.{spot_of}
use Rattle.runs.specs.Quiet.{tuple_of, positive, HasTuple}
use Rattle.freshness.specs.History.{Event, standing}

-- Object k stands at s by the tables: the index knows it and names a current place for it, which lies in the cell of
-- s; the tuple there is one of k, with a positive time, at s.
pub record StandsAt (t : Tables) (k : ℕ) (s : Spot) : Type 0 where
  pub entry : Entry
  pub known : entry_for t.index k ≡ Some entry
  pub place : Place
  pub current : decode entry.current ≡ done (Some place)
  pub cell : place.cell ≡ cell_of s.x s.y
  pub has : HasTuple t k place
  pub stamped : positive (tuple_of t place).time
  pub spot : spot_of (tuple_of t place) ≡ s

-- THE CURRENT TUPLE IS WHERE THE OBJECT STANDS: by the history, which is its last ended update, exactly if by the
-- tables.
abbrev pub WhereItStands : List Event → Tables → Type 0
WhereItStands es t = (k : ℕ) (s : Spot) → (standing k es ≡ Some s) ↔ StandsAt t k s
