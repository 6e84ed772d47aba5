-- count_known answers `known`. The loop's invariant: the count of the whole table is n and the count of what follows the
-- entries passed; n is at most how many these are, so that it does not wrap.
use mathlib.Core.Path.{◌≡◌}
use Prim.Native.Nat.{◌+◌, ◌≤◌}
use lib.ListN.{length, drop}
use Rattle.index.specs.Search.{known}
use Rattle.index.proofs.search.count_known.Given as goal

abbrev pub invariant-loop-o : goal.invariant-loop-o
invariant-loop-o l = (l.o-index ≤ length l.oids) × (l.n ≤ l.o-index) × (known l.oids ≡ l.n + known (drop l.o-index l.oids))
