-- wind_stamps winds one entry after the other: the library's sign is the stamp wound back.
use Rattle.std.proofs.Common.{rules, arith}
use Rattle.rewind.proofs.Winding.{wound_more}
use Rattle.rewind.proofs.stamps.wind_stamps.Goals as goal

pub loop-t-preserved : goal.loop-t-preserved
loop-t-preserved c =
    wound_more c.args.times.now c.loop-t.times c.loop-t.t-index _
    (omega arith) c.loop-t.invariant (search rules)
