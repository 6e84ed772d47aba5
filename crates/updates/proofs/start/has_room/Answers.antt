-- has_room computes `search_has_room`: by where the search ended.
use Rattle.std.proofs.Common.{rules}
use Rattle.updates.proofs.Seeks.{room_known, room_new}
use Rattle.updates.proofs.start.has_room.Goals as goal

pub returns-in_default : goal.returns-in_default
returns-in_default c ts = room_known _ _ c.in_default.is

pub returns : goal.returns
returns c ts = room_new c.args.words.now ts (search rules) _ c.in-Empty.is c.count_known.ensures
