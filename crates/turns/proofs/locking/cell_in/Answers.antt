-- cell_in does what lock_cell does, seen on all tables.
use mathlib.Core.Path.{◌∙◌}
use native.Mathlib.Omega.{arith}
use Rattle.std.proofs.Common.{rules}
use Rattle.words.specs.Map.{CELLS}
use Rattle.words.proofs.Parts.{part_length}
use Rattle.tables.specs.Grid.{grid}
use Rattle.turns.specs.Stages.{stage_on}
use Rattle.turns.proofs.Landing.{cells_on}
use Rattle.turns.proofs.locking.cell_in.Goals as goal

pub returns : goal.returns
unfolding stage_on grid
returns c ts =
    cells_on c.args.words.now ts (search rules) _ _ c.lock_cell.new.cells
    (c.lock_cell.auto.cells ∙ part_length c.args.words.now CELLS 256 (omega arith)) c.lock_cell.ensures
