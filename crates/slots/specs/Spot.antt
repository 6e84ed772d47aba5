-- The place of a tuple, with its tag.
use Rattle.base.specs.Spot.{Spot}
use Rattle.slots.specs.Tuple.{Tuple}

abbrev pub spot_of : Tuple → Spot
spot_of t = record { x = t.x; y = t.y; tag = t.tag }
