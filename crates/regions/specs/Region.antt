-- What a range query asks (document 02, e): a rectangle, a radius, and one of three questions about them.
-- Touching is T, Within W, Centre Q.
-- Crates above use the laws of proofs/ and do not unfold `inside`, `visited`, `next` and `walk`.
use Rattle.std.specs.Prelude.{Bool, true, ◌&&◌, List, [], ℕ, ◌+◌, ◌-◌, ◌*◌, min, max, leb}
use Rattle.std.specs.Prelude.{Option, Result, Ok, Err, ⊤}
use Rattle.base.specs.Outcome.{Told, says, Outcome, need, pick}
use Rattle.layout.specs.Question as area
use Rattle.layout.specs.declared.question.Question.{Question as Rectangle}
use Rattle.layout.specs.declared.question.Visit.{Visit}
use Rattle.regions.specs.declared.region.Kind.{Kind}
use Rattle.regions.specs.declared.region.Kind.TheVariants.{Touching, Within, Centre}
use Rattle.regions.specs.declared.region.Region.{Region}
use Rattle.layout.specs.declared.question.BadCorners.{BadCorners}
use Rattle.layout.specs.declared.question.BadCorners.TheVariants.{OffGrid as CornersOff, Crossed as CornersCrossed}
use Rattle.regions.specs.declared.region.BadRegion.{BadRegion}
use Rattle.regions.specs.declared.region.BadRegion.TheVariants.{OffGrid, Crossed, Wide}

-- ---- what is accepted

-- a radius of 0 to 511; the centre question has none
unfoldable pub radius_fits : Kind → ℕ → Bool
radius_fits Touching r = leb r 511
radius_fits Within r = leb r 511
radius_fits Centre r = true

-- the radius that a question has
abbrev pub right_radius : Region → Bool
right_radius g = radius_fits g.kind g.radius

-- IN RANGE, what a start accepts and what a stored question has to be:
-- corners on the grid, in order, and a radius that fits
unfoldable pub proper : Region → Bool
proper g = area.corners_on g.area && area.ordered g.area && right_radius g

-- off the deck: 5; crossed corners: 6; radius over 511: 32; in this order
unfoldable pub checks : Region → Told
checks g =
    pick (area.corners_on g.area)
    (pick (area.ordered g.area)
    (pick (right_radius g) (says 0 []) (says 32 []))
    (says 6 []))
    (says 5 [])

abbrev pub checked_says : Result ⊤ BadRegion → Told
checked_says (Ok a) = says 0 []
checked_says (Err OffGrid) = says 5 []
checked_says (Err Crossed) = says 6 []
checked_says (Err Wide) = says 32 []

-- a question whose corners are refused is refused for the same
abbrev pub of_corners : BadCorners → BadRegion
of_corners CornersOff = OffGrid
of_corners CornersCrossed = Crossed

-- ---- which points satisfy it

abbrev pub square : ℕ → ℕ
square n = n * n

-- how far two coordinates lie apart
abbrev pub apart : ℕ → ℕ → ℕ
apart m n = (m - n) + (n - m)

-- the coordinate from a to b that is nearest to n
abbrev pub nearest : ℕ → ℕ → ℕ → ℕ
nearest a b n = max a (min n b)

-- T: the squared distance from the point to the nearest point of the rectangle is at most the radius squared
unfoldable pub touching : Rectangle → ℕ → ℕ → ℕ → Bool
touching a r x y =
    leb (square (apart x (nearest a.x0 a.x1 x)) + square (apart y (nearest a.y0 a.y1 y))) (square r)

-- W: the point lies at least the radius inside each of the four sides
unfoldable pub within : Rectangle → ℕ → ℕ → ℕ → Bool
within a r x y = leb (a.x0 + r) x && leb (x + r) a.x1 && leb (a.y0 + r) y && leb (y + r) a.y1

-- Q: the point lies in the rectangle
unfoldable pub satisfies : Kind → Rectangle → ℕ → ℕ → ℕ → Bool
satisfies Touching a r x y = touching a r x y
satisfies Within a r x y = within a r x y
satisfies Centre a r x y = area.inside a x y

-- INSIDE: the point satisfies the question
unfoldable pub inside : Region → ℕ → ℕ → Bool
inside g x y = satisfies g.kind g.area g.radius x y

-- ---- the cells that are walked

-- the rectangle grown by r on each side and cut at the edge of the grid
abbrev pub grown : Rectangle → ℕ → Rectangle
grown a r = record { x0 = a.x0 - r; y0 = a.y0 - r; x1 = min (a.x1 + r) 16383; y1 = min (a.y1 + r) 16383 }

-- T walks the grown rectangle, W and Q the rectangle as given
unfoldable pub walked_by_kind : Kind → Rectangle → ℕ → Rectangle
walked_by_kind Touching a r = grown a r
walked_by_kind Within a r = a
walked_by_kind Centre a r = a

abbrev pub walked : Region → Rectangle
walked g = walked_by_kind g.kind g.area g.radius

-- the cells walked, by row, then by column
unfoldable pub walk : Region → List ℕ
walk g = area.walk (walked g)

-- K, the number of cells walked
unfoldable pub cells_touched : Region → ℕ
cells_touched g = area.cells_touched (walked g)

abbrev pub first_visit : Region → Visit
first_visit g = area.first_visit (walked g)

abbrev pub last_cell : Region → ℕ
last_cell g = area.last_cell (walked g)

-- a cell of the walk, of a question that is in range
unfoldable pub visited : Region → ℕ → Bool
visited g c = proper g && area.visited (walked g) c

-- the cell after c, none after the last; a question that is not in range, or a cell that is not of its walk, is broken
unfoldable pub next : Region → ℕ → Outcome (Option Visit)
next g c = need (proper g) (area.next (walked g) c)

-- ---- the questions with radius 0 (document 02, m)

abbrev pub touching_zero : Rectangle → Region
touching_zero a = record { kind = Touching; area = a; radius = 0 }

abbrev pub centre : Rectangle → Region
centre a = record { kind = Centre; area = a; radius = 0 }
