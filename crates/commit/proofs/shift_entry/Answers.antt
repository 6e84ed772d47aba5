-- shift_entry does what shift_place does, seen on all tables.
use mathlib.Core.Path.{◌∙◌}
use native.Mathlib.Omega.{arith}
use Rattle.std.proofs.Common.{rules}
use Rattle.words.specs.Map.{INDEX, INDEX-SIZE}
use Rattle.words.proofs.Parts.{part_length}
use Rattle.tables.specs.Grid.{grid}
use Rattle.commit.proofs.Switching.{shifted_on}
use Rattle.commit.proofs.shift_entry.Goals as goal

pub returns : goal.returns
unfolding grid
returns c ts =
    shifted_on c.args.words.now ts (search rules) _ _ c.shift_place.new.index
    (c.shift_place.auto.index ∙ part_length c.args.words.now INDEX INDEX-SIZE (omega arith)) c.shift_place.ensures
