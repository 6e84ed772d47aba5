-- overwrite_slot does what overwrite_tuple does, seen on all tables.
use Rattle.std.proofs.Common.{rules}
use Rattle.base.specs.Outcome.{nothing}
use Rattle.slots.specs.Tuple.{overwrite, tuples_at}
use Rattle.tables.specs.Tables.{with_tuples}
use Rattle.tables.specs.Grid.{grid}
use Rattle.tables.proofs.Grid.{put_tuples}
use Rattle.base.proofs.Ends.{within}
use Rattle.cells.proofs.Stored.{tuples#}
use Rattle.cells.proofs.overwrite_slot.Goals as goal

pub returns : goal.returns
unfolding grid
returns c =
    within nothing (with_tuples (grid c.args.words.now c.args.times.now))
    (grid c.args.words.now c.args.times.now).tuples (overwrite _ _ _ _ _ _ _ _) _
    (tuples_at c.overwrite_tuple.new.tuples
    c.overwrite_tuple.new.times) _ c.overwrite_tuple.ensures
    (put_tuples c.args.words.now c.args.times.now (search rules)
    c.overwrite_tuple.new.tuples c.overwrite_tuple.new.times
    (tuples# c.args.words.now (search rules) c.overwrite_tuple.new.tuples
    c.overwrite_tuple.auto.tuples))
