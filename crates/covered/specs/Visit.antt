-- The routine that names the next cell of a walk, and says of it whether it lies wholly inside (document 02, g).
use Rattle.std.specs.Prelude.{Option, None, Some}
use Rattle.std.specs.Prelude.{ℕ}
use Rattle.base.specs.Outcome.{Outcome, done, and_then}
use Rattle.layout.specs.declared.question.Visit.{Visit as Cell}
use Rattle.regions.specs.Region as region
use Rattle.regions.specs.declared.region.Region.{Region}
use Rattle.covered.specs.Whole.{whole}
use Rattle.covered.specs.declared.visit.Visit.{Visit}

-- a cell with whether it lies wholly inside
abbrev pub visit : Region → ℕ → Visit
visit g c = record { cell = c; whole = whole g c }

abbrev pub first_visit : Region → Visit
first_visit g = visit g (region.first_visit g).cell

abbrev pub marked : Region → Option Cell → Option Visit
marked g None = None
marked g (Some v) = Some (visit g v.cell)

-- the cell after c, none after the last
unfoldable pub next_visit : Region → ℕ → Outcome (Option Visit)
next_visit g c = and_then (region.next g c) (λ v. done (marked g v))
