-- A test of every number below n: what one that fails and what each that holds say of it, and that it is the library's
-- test of every element of an array.
use mathlib.Core.Path.{◌≡◌, refl}
use mathlib.Core.List.{List}
use mathlib.Core.Bool.{Bool, true, false}
use Prim.Native.Nat.{ℕ, zero, suc, ◌<◌, ◌≤◌}
use native.Mathlib.Numerals.{add-one}
use native.Mathlib.Omega.{arith}
use lib.ListN.{length, get_or, take}
use Rattle.std.proofs.Math.Seq.{take-length}
use Rattle.std.proofs.Math.Bool.{and_comm, and-false}
use Rattle.std.proofs.lemmas.Bool.{and_parts}
use Rattle.std.specs.List.{list_all}
use Rattle.std.proofs.lemmas.List.Folds.{list_all_more}
use Rattle.base.proofs.Table.{at_or}
use Rattle.rest.specs.Rest.{all_below}

module _ (f : ℕ → Bool) where
  -- one fails
  pub all_fails : (n i : ℕ) → i < n → f i ≡ false → all_below n f ≡ false
  unfolding all_below
  all_fails zero i h e = absurd (omega arith)
  all_fails (suc n) i h e = at_or i n
      (λ z. let w : f n ≡ false = rw z at e in rw w)
      (λ z. rw (all_fails n i (omega arith) e, and-false))

  -- all hold
  pub all_at : (n : ℕ) → all_below n f ≡ true → (i : ℕ) → i < n → f i ≡ true
  unfolding all_below
  all_at zero e i h = absurd (omega arith)
  all_at (suc n) e i h =
      let w = and_parts (f n) (all_below n f) e in
      at_or i n (λ z. rw z w.0) (λ z. all_at n w.1 i (omega arith))

  pub all_from : (n : ℕ) → ((i : ℕ) → i < n → f i ≡ true) → all_below n f ≡ true
  unfolding all_below
  all_from zero h = refl
  all_from (suc n) h = rw (h n (omega arith)) (all_from n (λ i k. h i (omega arith)))

-- the library's test of every element, in the elements' order
module _ {X : Type 0} (p : X → Bool) (d : X) where
  list_all_below : (n : ℕ) (xs : List X) → n ≤ length xs → list_all p (take n xs) ≡ all_below n (λ i. p (get_or xs i d))
  unfolding all_below
  list_all_below zero xs h = refl
  list_all_below (suc n) xs h =
      let m : n < length xs = omega arith in
      rw (← add-one n, list_all_more p xs n d m, and_comm _ (p (get_or xs n d)), list_all_below n xs (omega arith))

  pub all_of_array : (n : ℕ) (xs : List X) → length xs ≡ n → list_all p xs ≡ all_below n (λ i. p (get_or xs i d))
  all_of_array n xs h = rw (← list_all_below n xs (omega arith), ← h, take-length)
