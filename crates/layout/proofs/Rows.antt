-- The list `rows_from`: what stands in them, that they ascend, how long they are, and what stands first.
-- By induction on the number of rows.
use mathlib.Core.Path.{◌≡◌, refl}
use mathlib.Core.List.Memᴰ
use mathlib.Core.List.{List, ◌∷◌, ◌++◌}
use mathlib.Core.Logic.{⊎_elim}
use Prim.Native.Nat.{ℕ, zero, suc, ◌+◌, ◌-◌, ◌*◌, ◌≤◌, ◌<◌}
use native.Mathlib.Nat.{mul-suc}
use native.Mathlib.Omega.{arith}
use lib.ListN.{length, length-append}
use Rattle.base.specs.Lists.{numbers_from}
use Rattle.base.proofs.Lists.{numbers_in, in_numbers, numbers-length}
use Rattle.layout.specs.Question.{rows_from}
use Rattle.layout.proofs.Order.{In, Ascending, ends, climbs, ascending_append}

-- consecutive cells ascend
cells_ascending : (c n : ℕ) → Ascending (numbers_from c n)
unfolding numbers_from
cells_ascending c zero = ends
cells_ascending c (suc n) = climbs {a = c} (λ b i. omega (arith, in_numbers (suc c) n b i)) (cells_ascending (suc c) n)

-- ---- m rows of n cells, the first at c

-- the row and the column of a cell in m rows of n cells, the first at c
pub record Spot (c n m a : ℕ) : Type 0 where
  pub row : ℕ
  pub column : ℕ
  pub row_in : row < m
  pub column_in : column < n
  pub there : a ≡ c + 16 * row + column

-- what stands in the rows stands in some row and column
pub rows_spot : (c n m a : ℕ) → In a (rows_from c n m) → Spot c n m a
unfolding rows_from
rows_spot c n zero a i = elim i [ ]
rows_spot c n (suc m) a i = ⊎_elim
    (λ (k : In a (numbers_from c n)).
    let b = in_numbers c n a k in
    record { row = 0; column = a - c; row_in = omega arith; column_in = omega arith; there = omega arith })
    (λ (k : In a (rows_from (c + 16) n m)).
    let s = rows_spot (c + 16) n m a k in
    record { row = suc s.row; column = s.column; row_in = omega arith; column_in = s.column_in; there = omega arith })
    (Memᴰ.append_cases (numbers_from c n) i)

-- each row and column stands in the rows
pub spot_rows : (c n m i j a : ℕ) → i < m → j < n → a ≡ c + 16 * i + j → In a (rows_from c n m)
unfolding rows_from
spot_rows c n zero i j a h k e = absurd (omega arith)
spot_rows c n (suc m) zero j a h k e = Memᴰ.append_left (rows_from (c + 16) n m) (numbers_in c n a (omega arith) (omega arith))
spot_rows c n (suc m) (suc i) j a h k e = Memᴰ.append_right (numbers_from c n) (spot_rows (c + 16) n m i j a (omega arith) k (omega arith))

-- rows of at most 16 cells ascend
pub rows_ascending : (c n m : ℕ) → n ≤ 16 → Ascending (rows_from c n m)
unfolding rows_from
rows_ascending c n zero h = ends
rows_ascending c n (suc m) h = ascending_append (cells_ascending c n) (rows_ascending (c + 16) n m h)
    (λ a b i k. let s = rows_spot (c + 16) n m b k in omega (arith, in_numbers c n a i))

-- m rows of n cells have n * m cells
pub rows-length : (c n m : ℕ) → length (rows_from c n m) ≡ n * m
unfolding rows_from
rows-length c n zero = omega arith
rows-length c n (suc m) = simp (length-append, numbers-length, rows-length (c + 16) n m, mul-suc) (omega arith)

-- where there is a row and it has a cell, the first cell stands first
pub rows_first : (c n m : ℕ) → 0 < n → 0 < m → (rest : List ℕ) × (rows_from c n m ≡ c ∷ rest)
unfolding rows_from numbers_from
rows_first c zero m h k = absurd (omega arith)
rows_first c (suc n) zero h k = absurd (omega arith)
rows_first c (suc n) (suc m) h k = (numbers_from (suc c) n ++ rows_from (c + 16) (suc n) m, refl)
