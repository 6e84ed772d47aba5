-- release_in does what release_object does, seen on all tables.
use mathlib.Core.Path.{◌∙◌}
use native.Mathlib.Omega.{arith}
use Rattle.std.proofs.Common.{rules}
use Rattle.words.specs.Map.{INDEX, INDEX-SIZE}
use Rattle.words.proofs.Parts.{part_length}
use Rattle.tables.specs.Grid.{grid}
use Rattle.turns.specs.Stages.{stage_on}
use Rattle.turns.proofs.Landing.{index_on}
use Rattle.turns.proofs.locking.release_in.Goals as goal

pub returns : goal.returns
unfolding stage_on grid
returns c ts =
    index_on c.args.words.now ts (search rules) _ _ c.release_object.new.index
    (c.release_object.auto.index ∙ part_length c.args.words.now INDEX INDEX-SIZE (omega arith)) c.release_object.ensures
