-- Sums of a function below n, and how many numbers below n pass a test.
use Rattle.std.specs.Prelude.{Bool, true, false, ℕ, zero, suc, ◌+◌}

unfoldable pub sum_below : ℕ → (ℕ → ℕ) → ℕ
sum_below zero f = 0
sum_below (suc n) f = sum_below n f + f n

unfoldable pub bit : Bool → ℕ
bit true = 1
bit false = 0

-- how many numbers below n pass the test
abbrev pub count_below : ℕ → (ℕ → Bool) → ℕ
count_below n p = sum_below n (λ i. bit (p i))
