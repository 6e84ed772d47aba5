-- find_object answers `search`. The loop's invariant: the search from the start is the search from the next entry on,
-- with so many entries left.
use mathlib.Core.Path.{◌≡◌}
use Prim.Native.Nat.{◌-◌, ◌<◌}
use Rattle.index.specs.Search.{probe, search}
use Rattle.index.proofs.search.find_object.Given as goal

abbrev pub invariant-loop : goal.invariant-loop
invariant-loop l = (l.i < 512) × (search l.oids l.oid ≡ probe l.oids l.oid l.start (512 - l.counter) l.i)
