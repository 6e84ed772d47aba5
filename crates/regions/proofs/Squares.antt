-- Squares: they are in the order of the numbers, those of 32 bits fit in 64,
-- and the comparison of one with a difference of two others is that of a sum.
use mathlib.Core.Path.{◌≡◌, sym, ◌∙◌}
use mathlib.Core.Bool.{false}
use Prim.Native.Nat.{ℕ, ◌+◌, ◌-◌, ◌*◌, ◌^◌, ◌≤◌, ◌<◌}
use native.Mathlib.Nat.{mul-le-mul, add-mul, mul-add}
use native.Mathlib.Omega.{arith}
use lib.Dec.{leb}
use borrow.Author.Tests.{le-leb, lt-leb, leb-true, leb-false}
use Rattle.base.proofs.Table.{by_test}
use Rattle.regions.specs.Region.{square}

pub square_more : {a b : ℕ} → a ≤ b → square a ≤ square b
square_more h = mul-le-mul h h

next_square : (b : ℕ) → (b + 1) * (b + 1) ≡ b * b + (b + b + 1)
next_square b = omega (arith, add-mul b 1 (b + 1), mul-add b b 1)

pub square_less : (a b : ℕ) → square a ≤ square b → a ≤ b
square_less a b h = by_test (leb a b)
    (λ e. leb-true a b e)
    (λ e. absurd (omega (arith, h, square_more {a = b + 1} {b = a} (omega (arith, leb-false a b e)), next_square b)))

-- two squares together are at most a third: so is each
pub both_less : (a b r : ℕ) → square a + square b ≤ square r → (a ≤ r) × (b ≤ r)
both_less a b r h = (square_less a r (omega arith), square_less b r (omega arith))

-- a square of 32 bits fits in 64
pub square_fits : {a : ℕ} → a < 2 ^ 32 → a * a < 2 ^ 64
square_fits {a} h = omega (arith, square_more {a = a} {b = 4294967295} (omega arith))

-- of different numbers too
pub strictly : (a r : ℕ) → r < a → square r < square a
strictly a r h = by_test (leb (square a) (square r))
    (λ e. absurd (omega (arith, square_less a r (leb-true (square a) (square r) e))))
    (λ e. leb-false (square a) (square r) e)

-- a side that is longer than the radius
pub far_left : (a b r : ℕ) → r < a → leb (square a + square b) (square r) ≡ false
far_left a b r h = lt-leb (square a + square b) (square r) (omega (arith, strictly a r h))

pub far_right : (a b r : ℕ) → r < b → leb (square a + square b) (square r) ≡ false
far_right a b r h = lt-leb (square a + square b) (square r) (omega (arith, strictly b r h))

-- both at most the radius
pub close_is : (a b r : ℕ) → a ≤ r → b ≤ r → leb (a * a) (r * r - b * b) ≡ leb (square a + square b) (square r)
close_is a b r h k = by_test (leb (a * a) (r * r - b * b))
    (λ e.
    let w = leb-true (a * a) (r * r - b * b) e in
    e ∙ sym (le-leb (square a + square b) (square r) (omega (arith, w, square_more k))))
    (λ e.
    let w = leb-false (a * a) (r * r - b * b) e in
    e ∙ sym (lt-leb (square a + square b) (square r) (omega (arith, w, square_more k))))
