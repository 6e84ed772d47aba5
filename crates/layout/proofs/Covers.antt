-- The cells between the corners' cells: `visited` holds of these, for accepted corners, and of no others.
-- `visited` is taken apart into its tests, and what is left is arithmetic.
use mathlib.Core.Path.{◌≡◌}
use mathlib.Core.Bool.{true}
use Prim.Native.Nat.{ℕ, ◌/◌, ◌%◌, ◌≤◌, ◌<◌}
use native.Mathlib.Omega.{arith}
use Rattle.layout.specs.Question.{visited, Proper}
use Rattle.layout.specs.declared.question.Question.{Question}
use Rattle.std.proofs.lemmas.Bool.Decides.{nat_tests}
use Rattle.layout.proofs.Corners.{proper_iff, proper_facts}

-- the cell's column and row lie between those of the corners' cells
abbrev pub Covers : Question → ℕ → Type 0
Covers q c = (q.x0 / 1024 ≤ c % 16) × (c % 16 ≤ q.x1 / 1024) × (q.y0 / 1024 ≤ c / 16) × (c / 16 ≤ q.y1 / 1024)

module _ (q : Question) (c : ℕ) where
  -- such a cell is one of the 256
  pub covers_below : Proper q → Covers q c → c < 256
  covers_below h v = omega (arith, proper_facts q h)

  -- a visited cell is such a cell, and the corners are accepted
  pub visited_covers : visited q c ≡ true → Proper q × Covers q c
  unfolding visited
  visited_covers h = ((proper_iff q).1 (grind arith), grind (arith, nat_tests))

  -- where the corners are accepted, such a cell is visited
  pub covers_visited : Proper q → Covers q c → visited q c ≡ true
  unfolding visited
  covers_visited h v = grind (arith, nat_tests, (proper_iff q).0 h, covers_below h v)
