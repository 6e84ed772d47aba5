-- take_in does what take_object does, seen on all tables.
use mathlib.Core.Path.{◌∙◌}
use native.Mathlib.Omega.{arith}
use Rattle.std.proofs.Common.{rules}
use Rattle.words.specs.Map.{INDEX, INDEX-SIZE}
use Rattle.words.proofs.Parts.{part_length}
use Rattle.tables.specs.Grid.{grid}
use Rattle.turns.specs.Stages.{stage_on}
use Rattle.turns.proofs.Landing.{index_on}
use Rattle.turns.proofs.locking.take_in.Goals as goal

pub returns : goal.returns
unfolding stage_on grid
returns c ts =
    index_on c.args.words.now ts (search rules) _ _ c.take_object.new.index
    (c.take_object.auto.index ∙ part_length c.args.words.now INDEX INDEX-SIZE (omega arith)) c.take_object.ensures
