-- lock_cell does what `stage2` says: what hold_lock ensures.
use Rattle.acquire.specs.Acquire.{stage2}
use Rattle.acquire.proofs.lock_cell.Goals as goal

pub returns : goal.returns
unfolding stage2
returns c = c.hold_lock.ensures
