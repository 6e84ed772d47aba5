-- Tables as lists of numbers: what stands at an index, what a store changes, and a table read as a function.
use Rattle.std.specs.Prelude.{cond, List, ℕ, eqb, get_or}

-- a table's number
abbrev pub at : List ℕ → ℕ → ℕ
at l i = get_or l i 0

-- a function changed at one number
unfoldable pub upd {ℓ} : {A : Type ℓ} → (ℕ → A) → ℕ → A → ℕ → A
upd f i v j = cond (eqb j i) v (f j)

-- two tables together
abbrev pub both : List ℕ → List ℕ → List ℕ × List ℕ
both a b = (a, b)
