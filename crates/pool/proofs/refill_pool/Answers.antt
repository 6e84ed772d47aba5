-- refill_pool makes the fresh pool. The loop's invariant: the first i entries are 0 to i - 1.
use borrow.Author.Rules.{rules}
use borrow.Author.Tests.{eq-eqb}
use native.Mathlib.Omega.{arith}
use lib.ListN.{length-set}
use Rattle.base.specs.Lists.{numbers_from}
use Rattle.base.specs.Outcome.{need, tells, leaves}
use Rattle.pool.specs.Pool.{refill}
use Rattle.pool.proofs.Refill.{filled, whole}
use Rattle.pool.proofs.refill_pool.Goals as goal

pub loop-i-init : goal.loop-i-init
unfolding numbers_from
loop-i-init c = search rules

pub loop-i-preserved : goal.loop-i-preserved
loop-i-preserved c = (rw length-set (search rules), filled _ _ (omega arith) c.loop-i.invariant.1)

pub returns : goal.returns
unfolding refill need tells leaves
returns c =
    let v = c.loop-i.invariant in
    rw (eq-eqb _ _ c.if-pool-ne-ENTRIES.false, whole _ _ v.0 (omega arith) v.1)
