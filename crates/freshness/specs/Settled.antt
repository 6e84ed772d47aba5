-- WHERE THE OBJECTS OF A GRID AT REST STAND, by the tuples at their current places, and the history of a list of
-- calls that is made on such a grid, whatever made it: first everything is settled as the grid has it, then comes
-- what the calls and answers tell.
use Rattle.std.specs.Prelude.{Option, None, Some}
use Rattle.std.specs.Prelude.{List, [], ◌∷◌, ℕ}
use Rattle.base.specs.Outcome.{Outcome, corrupt, blocked, done}
use Rattle.layout.specs.Place.{decode}
use Rattle.layout.specs.declared.place.Place.{Place}
use Rattle.index.specs.Index.{Entry, entry_for}
use Rattle.tables.specs.Tables.{Tables}
use Rattle.grid.specs.Run.{Grid, Call, answers}
use Rattle.base.specs.Spot.{Spot}
use Rattle.slots.specs.Spot.{spot_of}
use Rattle.runs.specs.Quiet.{tuple_of}
use Rattle.freshness.specs.History.{Event, settles, events}

-- the spot of the tuple at a place, if there is one
unfoldable pub spot_at : Tables → Outcome (Option Place) → Option Spot
spot_at t corrupt = None
spot_at t blocked = None
spot_at t (done None) = None
spot_at t (done (Some p)) = Some (spot_of (tuple_of t p))

-- where the object of an entry stands
unfoldable pub entry_spot : Tables → Option Entry → Option Spot
entry_spot t None = None
entry_spot t (Some e) = spot_at t (decode e.current)

-- where an object stands
unfoldable pub stands_in : Tables → ℕ → Option Spot
stands_in t k = entry_spot t (entry_for t.index k)

-- THE PAST of a list of calls that is made on a grid at rest
unfoldable pub past_from : Grid → List Call → List Event
past_from g cs = events cs (answers cs g) (settles (stands_in g.tables) ∷ [])
