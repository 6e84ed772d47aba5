-- write_entries writes `entries_from` over the front. The loop's invariant: the first i entries stand there, and the
-- rest is as it was.
use Rattle.std.proofs.Common.{◌≡◌}
use Rattle.hits.specs.Hits.{hits_at}
use Rattle.collect.specs.Collect.{entries_from}
use Rattle.collect.specs.Filling.{over}
use Rattle.collect.proofs.entries.write_entries.Given as goal

abbrev pub invariant-loop-i : goal.invariant-loop-i
invariant-loop-i l = l.out ≡ over (entries_from (hits_at l.hits) l.from l.i) l.initial.out
