-- lock_new does what hold_lock does, seen on all tables.
use mathlib.Core.Path.{◌∙◌}
use native.Mathlib.Omega.{arith}
use Rattle.std.proofs.Common.{rules}
use Rattle.words.specs.Map.{CELLS}
use Rattle.words.proofs.Parts.{part_length}
use Rattle.choose.proofs.Choosing.{locks_new}
use Rattle.choose.proofs.lock_new.Goals as goal

pub returns : goal.returns
returns c ts =
    locks_new c.args.words.now ts (search rules) c.args.cell c.args.owner _ c.hold_lock.new.locks
    (c.hold_lock.auto.locks ∙ part_length c.args.words.now CELLS 256 (omega arith)) c.hold_lock.ensures
