-- A test of every number below n, as a loop makes it: one number after the other.
use mathlib.Core.Path.{◌≡◌, refl, sym}
use mathlib.Core.Bool.{Bool, true}
use Prim.Native.Nat.{ℕ, ◌+◌, ◌≤◌}
use native.Mathlib.Numerals.{add-one}
use native.Mathlib.Omega.{arith}
use Rattle.rest.specs.Rest.{all_below}

module _ (f : ℕ → Bool) where
  pub all_none : all_below 0 f ≡ true
  unfolding all_below
  all_none = refl

  -- one more
  pub all_more : (n : ℕ) → all_below n f ≡ true → f n ≡ true → all_below (n + 1) f ≡ true
  unfolding all_below
  all_more n e h = rw (add-one n, h, e)

  -- the loop is over
  pub all_below_lem : (n i : ℕ) → i ≤ n → n ≤ i → all_below i f ≡ true → true ≡ all_below n f
  all_below_lem n i h k e = let z : i ≡ n = omega arith in sym (rw z at e)
