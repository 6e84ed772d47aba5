-- The lane that find_lane gives names something, since its test said so.
use Rattle.std.proofs.Common.{rules}
use Rattle.gurtheddu.proofs.Named.{named}
use Rattle.gurtheddu.proofs.lane.find_lane.Goals as goal

pub returns : goal.returns
returns g c = named c.in-Some.found _ (search rules) (search rules) c.names.ensures (search rules)
