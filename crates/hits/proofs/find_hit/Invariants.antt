-- find_hit answers `look_from`, and counts as `looked_at` says. The loop's invariant: a search of the entries that are
-- left gives what a search of all gives. It ends with the entries or at a match; the measure is how many are left.
use mathlib.Core.Path.{◌≡◌}
use Prim.Native.Nat.{◌-◌, ◌≤◌}
use Rattle.hits.specs.Hits.{look_from}
use Rattle.hits.proofs.find_hit.Given as goal

abbrev pub invariant-loop-left : goal.invariant-loop-left
invariant-loop-left l =
    (l.left ≤ l.size) × (look_from l.hits l.oid l.size l.from ≡ look_from l.hits l.oid l.left (l.end - l.left))

abbrev pub decreases-loop-left : goal.decreases-loop-left
decreases-loop-left l = l.left
