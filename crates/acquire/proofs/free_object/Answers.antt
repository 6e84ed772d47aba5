-- free_object does what `free_object` says: as the search ends, then as release_lock does.
use mathlib.Core.Path.{◌∙◌}
use native.Mathlib.Omega.{arith}
use Rattle.base.specs.Outcome.{tells, leaves}
use Rattle.words.specs.Map.{COUNT}
use Rattle.words.proofs.Parts.{part_length}
use Rattle.stage.proofs.Entry.{entry_none, entry_at}
use Rattle.acquire.specs.On.{free_object}
use Rattle.acquire.proofs.Landing.{locks_on}
use Rattle.acquire.proofs.free_object.Goals as goal

pub returns-in_default : goal.returns-in_default
unfolding free_object tells leaves
returns-in_default c = rw (entry_none _ _ _ c.find_object.ensures c.in_default.is)

pub returns : goal.returns
unfolding free_object
returns c =
    rw (entry_at _ _ _ c.find_object.ensures c.in-Found.is)
    (locks_on c.args.index.now c.requires _ _ c.release_lock.new.locks
    (c.release_lock.auto.locks ∙ (part_length c.args.index.now COUNT 512
    (omega (arith, c.requires)))) c.release_lock.ensures)
