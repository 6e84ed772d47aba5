-- Cells that lie wholly inside (document 02, g): the test, and what it has to say.
use Rattle.std.specs.Prelude.{◌≡◌, Bool, true, ◌&&◌, ℕ, ◌+◌, ◌-◌, ◌*◌, ◌/◌, ◌%◌, max, ltb, leb}
use Rattle.layout.specs.Place.{on_grid, cell_of}
use Rattle.layout.specs.declared.question.Question.{Question as Rectangle}
use Rattle.regions.specs.Region.{square, inside}
use Rattle.regions.specs.declared.region.Kind.{Kind}
use Rattle.regions.specs.declared.region.Kind.TheVariants.{Touching, Within, Centre}
use Rattle.regions.specs.declared.region.Region.{Region}

-- ---- what is to be said

-- a point of the cell: on the grid, and the cell is its cell
pub record Lies (c x y : ℕ) : Type 0 where
  pub on : on_grid x y ≡ true
  pub cell : cell_of x y ≡ c

-- every point of the cell satisfies the question
abbrev pub Wholly : Region → ℕ → Type 0
Wholly g c = (x y : ℕ) → Lies c x y → inside g x y ≡ true

-- ---- the test

-- the edges of a cell
abbrev pub left : ℕ → ℕ
left c = c % 16 * 1024

abbrev pub right : ℕ → ℕ
right c = left c + 1023

abbrev pub bottom : ℕ → ℕ
bottom c = c / 16 * 1024

abbrev pub top : ℕ → ℕ
top c = bottom c + 1023

-- how far the farther of l and u lies outside the interval from a to b
abbrev pub farthest : ℕ → ℕ → ℕ → ℕ → ℕ
farthest a b l u = max (a - l) (u - b)

-- the corner of the cell that lies farthest from the rectangle is at most the radius away
unfoldable pub reached : Rectangle → ℕ → ℕ → Bool
reached a r c =
    leb (square (farthest a.x0 a.x1 (left c) (right c)) + square (farthest a.y0 a.y1 (bottom c) (top c)))
    (square r)

-- the edges of the cell lie at least the radius inside each of the four sides
unfoldable pub deep : Rectangle → ℕ → ℕ → Bool
deep a r c =
    leb (a.x0 + r) (left c) && leb (right c + r) a.x1 && leb (a.y0 + r) (bottom c) && leb (top c + r) a.y1

unfoldable pub whole_by : Kind → Rectangle → ℕ → ℕ → Bool
whole_by Touching a r c = reached a r c
whole_by Within a r c = deep a r c
whole_by Centre a r c = deep a 0 c

-- WHOLE: there is such a cell, and it passes the test of the question's kind
unfoldable pub whole : Region → ℕ → Bool
whole g c = ltb c 256 && whole_by g.kind g.area g.radius c
