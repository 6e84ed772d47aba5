-- Small cases of the three questions, computed: a table of what the definitions give and what document 02 says,
-- and one proof of all rows.
use Rattle.std.specs.Prelude.{◌≡◌, refl, List, [], ◌∷◌, ◌++◌, ℕ, Option, None, Some}
use Rattle.base.specs.Lists.{numbers_from}
use Rattle.base.specs.Outcome.{pick, one, need, tells}
use Rattle.layout.specs.Place.{on_grid, cell_of}
use Rattle.layout.specs.Question as area
use Rattle.layout.specs.declared.question.Visit.{Visit}
use Rattle.regions.specs.Region.{radius_fits, proper, checks, touching, within, satisfies, inside, walked_by_kind, walk, cells_touched, first_visit, visited, next}
use Rattle.regions.specs.declared.region.Kind.{Kind}
use Rattle.regions.specs.declared.region.Kind.TheVariants.{Touching, Within, Centre}
use Rattle.regions.specs.declared.region.Region.{Region}

pub record Row : Type 0 where
  pub gives : List ℕ
  pub says : List ℕ

abbrev row : List ℕ → List ℕ → Row
row g s = record { gives = g; says = s }

-- ---- questions

abbrev ask : Kind → ℕ → ℕ → ℕ → ℕ → ℕ → Region
ask k x0 y0 x1 y1 r = record { kind = k; area = record { x0 = x0; y0 = y0; x1 = x1; y1 = y1 }; radius = r }

-- the square from (1000, 1000) to (2000, 2000)
abbrev big : Kind → ℕ → Region
big k r = ask k 1000 1000 2000 2000 r

-- one point
abbrev spot : Kind → ℕ → ℕ → ℕ → Region
spot k x y r = ask k x y x y r

-- ---- what is computed of them

abbrev number : Region → List ℕ
number g = one (checks g).number

-- for each point 1 where it is inside, else 0
unfoldable pub at : Region → List (ℕ × ℕ) → List ℕ
at g [] = []
at g (p ∷ ps) = pick (inside g p.0 p.1) 1 0 ∷ at g ps

-- the cell, if there is one
abbrev visit_values : Option Visit → List ℕ
visit_values None = []
visit_values (Some v) = one v.cell

abbrev after : Region → ℕ → List ℕ
after g c = (tells visit_values (next g c)).number ∷ (tells visit_values (next g c)).values

-- ---- rows

-- refusals: off the deck before crossed before too wide; the centre question has no radius
unfoldable number_rows : List Row
number_rows =
    row (number (big Touching 511)) (one 0)
    ∷ row (number (big Touching 512)) (one 32)
    ∷ row (number (big Within 512)) (one 32)
    ∷ row (number (big Centre 512)) (one 0)
    ∷ row (number (ask Touching 10 0 9 0 512)) (one 6)
    ∷ row (number (ask Touching 10 0 9 16384 512)) (one 5)
    ∷ []

-- points: radius 500 with the 3-4-5 corner, radius 0, radius 1, radius 511, the edges of the deck
unfoldable point_rows : List Row
point_rows =
    row (at (big Touching 500) ((500, 1000) ∷ (499, 1000) ∷ [])) (1 ∷ 0 ∷ [])
    ∷ row (at (big Touching 500) ((600, 700) ∷ (599, 700) ∷ (600, 699) ∷ [])) (1 ∷ 0 ∷ 0 ∷ [])
    ∷ row (at (big Touching 500) ((2300, 2400) ∷ (2300, 2401) ∷ (501, 501) ∷ [])) (1 ∷ 0 ∷ 0 ∷ [])
    ∷ row (at (big Touching 0) ((1000, 2000) ∷ (999, 2000) ∷ (1000, 2001) ∷ [])) (1 ∷ 0 ∷ 0 ∷ [])
    ∷ row (at (big Touching 1) ((999, 1000) ∷ (999, 999) ∷ (998, 1000) ∷ [])) (1 ∷ 0 ∷ 0 ∷ [])
    ∷ row (at (spot Touching 0 0 511) ((511, 0) ∷ (512, 0) ∷ [])) (1 ∷ 0 ∷ [])
    ∷ row (at (spot Touching 16383 16383 1) ((16382, 16383) ∷ (16382, 16382) ∷ [])) (1 ∷ 0 ∷ [])
    ∷ row (at (big Within 500) ((1500, 1500) ∷ (1499, 1500) ∷ (1500, 1501) ∷ [])) (1 ∷ 0 ∷ 0 ∷ [])
    ∷ row (at (big Within 0) ((1000, 2000) ∷ (999, 2000) ∷ [])) (1 ∷ 0 ∷ [])
    ∷ row (at (big Within 1) ((1001, 1999) ∷ (1000, 1999) ∷ (1001, 2000) ∷ [])) (1 ∷ 0 ∷ 0 ∷ [])
    -- W with no point
    ∷ row (at (big Within 501) ((1500, 1500) ∷ (1499, 1501) ∷ (0, 0) ∷ [])) (0 ∷ 0 ∷ 0 ∷ [])
    ∷ row (at (ask Within 0 0 1 1 1) ((0, 0) ∷ (1, 0) ∷ (0, 1) ∷ (1, 1) ∷ [])) (0 ∷ 0 ∷ 0 ∷ 0 ∷ [])
    ∷ row (at (big Centre 500) ((1000, 2000) ∷ (999, 2000) ∷ [])) (1 ∷ 0 ∷ [])
    ∷ []

-- cells: T grows the rectangle and is cut at the deck's edge; W and Q keep it;
-- K counts corner cells in which no point qualifies
unfoldable cell_rows : List Row
cell_rows =
    row (walk (big Touching 500)) (0 ∷ 1 ∷ 2 ∷ 16 ∷ 17 ∷ 18 ∷ 32 ∷ 33 ∷ 34 ∷ [])
    ∷ row (walk (big Within 500)) (0 ∷ 1 ∷ 16 ∷ 17 ∷ [])
    ∷ row (walk (big Centre 500)) (0 ∷ 1 ∷ 16 ∷ 17 ∷ [])
    ∷ row (walk (spot Touching 0 0 511)) (one 0)
    ∷ row (walk (spot Touching 16383 16383 511)) (one 255)
    ∷ row (walk (spot Touching 15360 16383 511)) (254 ∷ 255 ∷ [])
    ∷ row (walk (spot Touching 1024 1024 0)) (one 17)
    ∷ row (walk (spot Touching 1024 1024 1)) (0 ∷ 1 ∷ 16 ∷ 17 ∷ [])
    ∷ row (cells_touched (spot Touching 1024 1024 1) ∷ at (spot Touching 1024 1024 1) ((1023, 1023) ∷ [])) (4 ∷ 0 ∷ [])
    ∷ row (cells_touched (big Within 501) ∷ cells_touched (ask Touching 0 0 16383 16383 511) ∷ []) (4 ∷ 256 ∷ [])
    ∷ row ((first_visit (spot Touching 1024 1024 1)).cell ∷ after (spot Touching 1024 1024 1) 1) (0 ∷ 0 ∷ 16 ∷ [])
    ∷ row (after (spot Touching 1024 1024 1) 17) (one 0)
    ∷ row (after (spot Touching 1024 1024 1) 18) (one 12)
    ∷ row (after (spot Touching 1024 1024 512) 17) (one 12)
    ∷ []

-- THE TABLE
pub table : List Row
table = number_rows ++ point_rows ++ cell_rows

unfoldable pub gives : List Row → List (List ℕ)
gives [] = []
gives (r ∷ t) = r.gives ∷ gives t

unfoldable pub says : List Row → List (List ℕ)
says [] = []
says (r ∷ t) = r.says ∷ says t

-- what a computation about questions opens
unfoldable pub opened : ℕ
unfolding at checks radius_fits proper touching within satisfies inside
    walked_by_kind walk cells_touched visited next area.corners_on area.ordered area.inside area.walk area.rows_from area.columns
    area.rows area.cells_touched area.visited area.next numbers_from on_grid cell_of pick need tells
opened = 0

-- THE PROOF: every row gives what document 02 says
pub trials : gives table ≡ says table
unfolding opened table number_rows point_rows cell_rows gives says
trials = refl
