-- wind_stamps winds one entry after the other. The loop's invariant: those passed are wound back, the others as they were.
use Rattle.std.proofs.Common.{◌≡◌, map, take, drop, ◌++◌}
use Rattle.rewind.specs.Rewind.{wound_stamp}
use Rattle.rewind.proofs.stamps.wind_stamps.Given as goal

abbrev pub invariant-loop-t : goal.invariant-loop-t
invariant-loop-t l = l.times ≡ map wound_stamp (take l.t-index l.initial.times) ++ drop l.t-index l.initial.times
