-- refill_pool makes the fresh pool. The loop's invariant: the first i entries are 0 to i - 1.
use mathlib.Core.Path.{◌≡◌}
use lib.ListN.{length, take}
use Rattle.base.specs.Lists.{numbers_from}
use Rattle.pool.proofs.refill_pool.Given as goal

abbrev pub invariant-loop-i : goal.invariant-loop-i
invariant-loop-i l = (length l.pool ≡ 513) × (take l.i l.pool ≡ numbers_from 0 l.i)
