-- lock_other does what lock_object does, seen on all tables.
use mathlib.Core.Path.{◌∙◌}
use native.Mathlib.Omega.{arith}
use Rattle.std.proofs.Common.{rules}
use Rattle.words.specs.Map.{INDEX, INDEX-SIZE}
use Rattle.words.proofs.Parts.{part_length}
use Rattle.tables.specs.Grid.{grid}
use Rattle.acquire.proofs.Steps.{other_on}
use Rattle.acquire.proofs.lock_other.Goals as goal

pub returns : goal.returns
unfolding grid
returns c ts =
    let w = c.args.words.now in
    other_on w ts (search rules) _ _ c.lock_object.new.index
    (c.lock_object.auto.index ∙ (part_length w INDEX INDEX-SIZE (omega arith))) c.lock_object.ensures
