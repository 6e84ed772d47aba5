-- write_entries writes one entry after the other behind those that stand there, by the law of Written.antt.
use Rattle.std.proofs.Common.{arith, refl}
use Rattle.collect.specs.Collect.{entries_from}
use Rattle.collect.proofs.Written.{over_next}
use Rattle.collect.proofs.entries.write_entries.Goals as goal

pub loop-i-init : goal.loop-i-init
unfolding entries_from
loop-i-init c = refl

pub loop-i-preserved : goal.loop-i-preserved
loop-i-preserved c =
    rw c.copy_from_slice.ensures.after
    (over_next c.args.hits.now c.args.out.now c.loop-i.out c.args.from c.args.size c.loop-i.i
    c.requires.1 c.requires.2 (omega arith) c.loop-i.invariant _ (omega arith))
