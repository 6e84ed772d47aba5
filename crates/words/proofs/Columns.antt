-- A ROW WRITTEN in a list of columns, n numbers each, one behind the other: each column has its number at the row, and is else as it was.
use mathlib.Core.Path.{◌≡◌, sym, ap, ◌∙◌}
use mathlib.Core.List.{List}
use Prim.Native.Nat.{ℕ, ◌+◌, ◌≤◌, ◌<◌}
use native.Mathlib.Nat.{zero-add}
use native.Mathlib.Omega.{arith}
use lib.ListN.{length, set, length-set}
use Rattle.words.specs.Part.{part}
use Rattle.words.proofs.Parts.{set_same, set_before, set_after}

module _ (l : List ℕ) (n : ℕ) (i : ℕ) (h : i < n) (x y z : ℕ) where
  abbrev one : List ℕ
  one = set l i x

  abbrev two : List ℕ
  two = set one (n + i) y

  -- the first three columns
  abbrev pub three : List ℕ
  three = set two (n + n + i) z

  one# : length one ≡ length l
  one# = length-set l i x

  two# : length two ≡ length l
  two# = length-set one (n + i) y ∙ one#

  pub three# : length three ≡ length l
  three# = length-set two (n + n + i) z ∙ two#

  module _ (fits : n + n + n ≤ length l) where
    first : one ≡ set l (0 + i) x
    first = ap (λ (k : ℕ). set l k x) (sym (zero-add i))

    pub column_0 : part 0 n three ≡ set (part 0 n l) i x
    column_0 =
        set_before two (n + n) n (omega (arith, two#)) i h z 0 n (omega arith)
        ∙ set_before one n n (omega (arith, one#)) i h y 0 n (omega arith)
        ∙ ap (part 0 n) first
        ∙ set_same l 0 n (omega arith) i h x

    beside : (b : ℕ) → n ≤ b → part b n one ≡ part b n l
    beside b k = ap (part b n) first ∙ set_after l 0 n (omega arith) i h x b n (omega arith)

    pub column_1 : part n n three ≡ set (part n n l) i y
    column_1 =
        set_before two (n + n) n (omega (arith, two#)) i h z n n (omega arith)
        ∙ set_same one n n (omega (arith, one#)) i h y
        ∙ ap (λ (r : List ℕ). set r i y) (beside n (omega arith))

    pub column_2 : part (n + n) n three ≡ set (part (n + n) n l) i z
    column_2 =
        set_same two (n + n) n (omega (arith, two#)) i h z
        ∙ ap (λ (r : List ℕ). set r i z)
        (set_after one n n (omega (arith, one#)) i h y (n + n) n (omega arith) ∙ beside (n + n) (omega arith))

    -- behind them
    pub behind : (b m : ℕ) → n + n + n ≤ b → part b m three ≡ part b m l
    behind b m k =
        set_after two (n + n) n (omega (arith, two#)) i h z b m (omega arith)
        ∙ set_after one n n (omega (arith, one#)) i h y b m (omega arith)
        ∙ ap (part b m) first
        ∙ set_after l 0 n (omega arith) i h x b m (omega arith)

-- and a fourth
module _ (l : List ℕ) (n : ℕ) (i : ℕ) (h : i < n) (x y z w : ℕ) (fits : n + n + n + n ≤ length l) where
  abbrev pub four : List ℕ
  four = set (three l n i h x y z) (n + n + n + i) w

  long : n + n + n + n ≤ length (three l n i h x y z)
  long = omega (arith, three# l n i h x y z)

  kept : (b : ℕ) → b + n ≤ n + n + n → part b n four ≡ part b n (three l n i h x y z)
  kept b k = set_before (three l n i h x y z) (n + n + n) n long i h w b n k

  pub quarter_0 : part 0 n four ≡ set (part 0 n l) i x
  quarter_0 = kept 0 (omega arith) ∙ column_0 l n i h x y z (omega arith)

  pub quarter_1 : part n n four ≡ set (part n n l) i y
  quarter_1 = kept n (omega arith) ∙ column_1 l n i h x y z (omega arith)

  pub quarter_2 : part (n + n) n four ≡ set (part (n + n) n l) i z
  quarter_2 = kept (n + n) (omega arith) ∙ column_2 l n i h x y z (omega arith)

  pub quarter_3 : part (n + n + n) n four ≡ set (part (n + n + n) n l) i w
  quarter_3 =
      set_same (three l n i h x y z) (n + n + n) n long i h w
      ∙ ap (λ (r : List ℕ). set r i w) (behind l n i h x y z (omega arith) (n + n + n) n (omega arith))
