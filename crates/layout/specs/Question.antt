-- The question of a range query, and the walk of cells for it (document 01: the walk of a sweep).
-- Crates above use the laws of proofs/Walk.antt and do not unfold `inside`, `visited`, `next` and `walk`.
use Rattle.std.specs.Prelude.{◌≡◌, Bool, true, ◌&&◌, List, [], ◌++◌, ℕ, zero, suc, ◌+◌, ◌-◌, ◌*◌, ◌/◌, ◌%◌, eqb, ltb, leb}
use Rattle.std.specs.Prelude.{Option, None, Some}
use Rattle.std.specs.Prelude.{Result, Ok, Err, ⊤}
use Rattle.base.specs.Numbers.{DONE, OFF-GRID, CROSSED-CORNERS}
use Rattle.base.specs.Lists.{numbers_from}
use Rattle.base.specs.Outcome.{Told, says, Outcome, done, need, pick}
use Rattle.layout.specs.Place.{on_grid, cell_of}
use Rattle.layout.specs.declared.question.Question.{Question}
use Rattle.layout.specs.declared.question.Visit.{Visit}
use Rattle.layout.specs.declared.question.BadCorners.{BadCorners}
use Rattle.layout.specs.declared.question.BadCorners.TheVariants.{OffGrid, Crossed}

-- off the deck: 5; crossed corners: 6; else 0
abbrev pub corners_says : Result ⊤ BadCorners → Told
corners_says (Ok a) = says DONE []
corners_says (Err OffGrid) = says OFF-GRID []
corners_says (Err Crossed) = says CROSSED-CORNERS []

-- both corners on the grid
unfoldable pub corners_on : Question → Bool
corners_on q = on_grid q.x0 q.y0 && on_grid q.x1 q.y1

-- the lower corner nowhere above the upper one
unfoldable pub ordered : Question → Bool
ordered q = leb q.x0 q.x1 && leb q.y0 q.y1

unfoldable pub corners : Question → Told
corners q = pick (corners_on q) (pick (ordered q) (says DONE []) (says CROSSED-CORNERS [])) (says OFF-GRID [])

-- the corners are accepted
abbrev pub Proper : Question → Type 0
Proper q = corners q ≡ says DONE []

-- a point of the rectangle, edges included
unfoldable pub inside : Question → ℕ → ℕ → Bool
inside q x y = leb q.x0 x && leb x q.x1 && leb q.y0 y && leb y q.y1

-- a cell that the rectangle touches: some point of the rectangle lies in it
abbrev pub Touched : Question → ℕ → Type 0
Touched q c = (x : ℕ) × (y : ℕ) × (inside q x y ≡ true) × (cell_of x y ≡ c)

-- ---- the cells that the rectangle touches

-- m rows of n cells each, the first at c
unfoldable pub rows_from : ℕ → ℕ → ℕ → List ℕ
rows_from c n zero = []
rows_from c n (suc m) = numbers_from c n ++ rows_from (c + 16) n m

unfoldable pub columns : Question → ℕ
columns q = q.x1 / 1024 - q.x0 / 1024 + 1

unfoldable pub rows : Question → ℕ
rows q = q.y1 / 1024 - q.y0 / 1024 + 1

-- the cells touched, by row, then by column
unfoldable pub walk : Question → List ℕ
walk q = rows_from (cell_of q.x0 q.y0) (columns q) (rows q)

-- document 01's K
unfoldable pub cells_touched : Question → ℕ
cells_touched q = columns q * rows q

abbrev pub first_visit : Question → Visit
first_visit q = record { cell = cell_of q.x0 q.y0 }

abbrev pub last_cell : Question → ℕ
last_cell q = cell_of q.x1 q.y1

-- a cell of the walk, of corners that are in order
unfoldable pub visited : Question → ℕ → Bool
visited q c =
    corners_on q && ordered q && ltb c 256
    && leb (q.x0 / 1024) (c % 16) && leb (c % 16) (q.x1 / 1024)
    && leb (q.y0 / 1024) (c / 16) && leb (c / 16) (q.y1 / 1024)

-- the first cell of the row below c's
abbrev pub row_below : Question → ℕ → ℕ
row_below q c = (c / 16 + 1) * 16 + q.x0 / 1024

-- the cell after c: none after the last; the next of its row, or the first of the next row
unfoldable pub next : Question → ℕ → Outcome (Option Visit)
next q c =
    need (visited q c)
    (pick (eqb c (last_cell q)) (done None)
    (pick (eqb (c % 16) (q.x1 / 1024)) (done (Some (record { cell = row_below q c }))) (done (Some (record { cell = c + 1 })))))
