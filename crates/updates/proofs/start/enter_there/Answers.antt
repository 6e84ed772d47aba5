-- enter_there does what enter_at does, seen on all tables.
use mathlib.Core.Path.{◌∙◌}
use native.Mathlib.Omega.{arith}
use Rattle.std.proofs.Common.{rules}
use Rattle.words.specs.Map.{INDEX, INDEX-SIZE}
use Rattle.words.proofs.Parts.{part_length}
use Rattle.updates.proofs.Seeks.{enters, there}
use Rattle.updates.proofs.start.enter_there.Goals as goal

pub enter_at-requires : goal.enter_at-requires
enter_at-requires c = (part_length c.args.words.now INDEX INDEX-SIZE (omega arith), there c.args.words.now _ _ c.requires)

pub returns : goal.returns
returns c ts =
    enters c.args.words.now ts (search rules) _ _ c.enter_at.new.index
    (c.enter_at.auto.index ∙ part_length c.args.words.now INDEX INDEX-SIZE (omega arith)) c.enter_at.ensures
