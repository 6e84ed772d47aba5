-- LOCKS, both ways: a lock is held by the update whose number, 1 + lane, is in it; and an update at a stage that holds
-- a cell or an object has its number in that lock.
use Rattle.std.specs.Prelude.{◌≡◌, ◌↔◌, ℕ, suc, ◌<◌}
use Rattle.std.specs.Prelude.{Some}
use Rattle.base.specs.Lists.{In}
use Rattle.base.specs.Table.{at}
use Rattle.index.specs.Index.{Entry, entry_for}
use Rattle.grid.specs.Run.{Grid}
use Rattle.runs.specs.Quiet.{updater, HoldsCell, held_objects}

-- object k is known, and its lock has the number of lane l
abbrev pub Locked : Grid → ℕ → ℕ → Type 0
Locked g k l = (e : Entry) × (entry_for g.tables.index k ≡ Some e) × (e.lock ≡ suc l)

-- the update of lane l stands at a stage that holds object k
abbrev pub HoldsObject : Grid → ℕ → ℕ → Type 0
HoldsObject g l k = (l < 8) × In k (held_objects (updater g l).stage (updater g l).oid)

-- of cells, which are 256, and of objects, whatever their numbers
pub record LocksExact (g : Grid) : Type 0 where
  pub cells : (c l : ℕ) → c < 256 → (at g.tables.cells c ≡ suc l) ↔ ((l < 8) × HoldsCell (updater g l) c)
  pub within : (c l : ℕ) → l < 8 → HoldsCell (updater g l) c → c < 256
  pub objects : (k l : ℕ) → Locked g k l ↔ HoldsObject g l k
