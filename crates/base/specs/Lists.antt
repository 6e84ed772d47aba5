-- Lists of numbers: what stands in one, lists without repetition, consecutive numbers.
use Rattle.std.specs.Prelude.{refl, ℕ, zero, suc}
use mathlib.Core.List.{List, [], ◌∷◌, Memᴰ}
pub use mathlib.Core.List.Memᴰ.{append_cases as in-append}
pub use mathlib.Core.List.Memᴰ.{append_left as in_left}
pub use mathlib.Core.List.Memᴰ.{append_right as in_right}
pub use mathlib.Core.List.Memᴰ.{cases_cons as in-or}
pub use mathlib.Core.List.Memᴰ.{eq_of_singleton as in_one}
pub use mathlib.Core.List.Memᴰ.{not-nil as in-none}
pub use mathlib.Core.List.Memᴰ.{tail as there}

-- b stands in the list: the library's membership, under short names
abbrev pub In : ℕ → List ℕ → Type 0
In b l = Memᴰ b l

abbrev pub here : {b : ℕ} {l : List ℕ} → In b (b ∷ l)
here = Memᴰ.head refl

-- no number stands in the list twice
pub data Once : List ℕ → Type 0 where
  empty : Once []
  more : {b : ℕ} {l : List ℕ} → (In b l → ⊥) → Once l → Once (b ∷ l)

-- the numbers from c on, n of them
unfoldable pub numbers_from : ℕ → ℕ → List ℕ
numbers_from c zero = []
numbers_from c (suc n) = c ∷ numbers_from (suc c) n
