-- Small cases of whole cells, computed: a table of what the definitions give and what document 02 says,
-- and one proof of all rows.
use Rattle.std.specs.Prelude.{◌≡◌, refl, List, [], ◌∷◌, ℕ}
use Rattle.base.specs.Outcome.{pick}
use Rattle.regions.specs.declared.region.Kind.{Kind}
use Rattle.regions.specs.declared.region.Kind.TheVariants.{Touching, Within, Centre}
use Rattle.regions.specs.declared.region.Region.{Region}
use Rattle.regions.specs.Trials.{Row, gives, says}
use Rattle.covered.specs.Whole.{reached, deep, whole_by, whole}

abbrev row : List ℕ → List ℕ → Row
row g s = record { gives = g; says = s }

abbrev ask : Kind → ℕ → ℕ → ℕ → ℕ → ℕ → Region
ask k x0 y0 x1 y1 r = record { kind = k; area = record { x0 = x0; y0 = y0; x1 = x1; y1 = y1 }; radius = r }

-- 1 where the cell is whole, else 0
abbrev of : Region → ℕ → ℕ
of g c = pick (whole g c) 1 0

-- cell 17, which has the points from (1024, 1024) to (2047, 2047)
abbrev mid : Kind → ℕ → ℕ → ℕ → ℕ → ℕ → ℕ
mid k x0 y0 x1 y1 r = of (ask k x0 y0 x1 y1 r) 17

-- three by three cells, the outer ones cut
abbrev nine : ℕ → ℕ
nine c = of (ask Centre 500 500 2600 2600 0) c

-- THE TABLE
unfoldable pub table : List Row
table =
    -- Q: exactly the cell; a column less, a row less
    row (mid Centre 1024 1024 2047 2047 0 ∷ mid Centre 1025 1024 2047 2047 0 ∷ []) (1 ∷ 0 ∷ [])
    ∷ row (mid Centre 1024 1024 2047 2046 0 ∷ mid Centre 0 0 16383 16383 0 ∷ []) (0 ∷ 1 ∷ [])
    -- of the nine the middle one
    ∷ row (nine 17 ∷ nine 16 ∷ nine 0 ∷ nine 34 ∷ []) (1 ∷ 0 ∷ 0 ∷ 0 ∷ [])
    -- W: the rectangle shrunk by 500 is the cell; shrunk by 501 it is not
    ∷ row (mid Within 524 524 2547 2547 500 ∷ mid Within 524 524 2547 2547 501 ∷ []) (1 ∷ 0 ∷ [])
    -- T: the corner (1024, 1024) lies 300 and 400 outside, so a radius of 500 covers it and one of 499 does not
    ∷ row (mid Touching 1324 1424 2047 2047 500 ∷ mid Touching 1324 1424 2047 2047 499 ∷ []) (1 ∷ 0 ∷ [])
    -- the grown rectangle covers the cell, its corner circle does not
    ∷ row (mid Touching 1524 1524 2047 2047 500 ∷ mid Touching 1524 1024 2047 2047 500 ∷ []) (0 ∷ 1 ∷ [])
    -- T with radius 0
    ∷ row (mid Touching 1024 1024 2047 2047 0 ∷ mid Touching 1024 1024 2047 2046 0 ∷ []) (1 ∷ 0 ∷ [])
    -- the last cell, and no cell
    ∷ row (of (ask Touching 0 0 16383 16383 511) 255 ∷ of (ask Touching 0 0 16383 16383 511) 256 ∷ []) (1 ∷ 0 ∷ [])
    ∷ []

-- THE PROOF: every row gives what document 02 says
pub trials : gives table ≡ says table
unfolding table gives says reached deep whole_by whole pick
trials = refl
