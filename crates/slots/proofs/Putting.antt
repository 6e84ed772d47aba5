-- A tuple written over, column by column, in the one list of the four.
use mathlib.Core.Path.{◌≡◌, sym}
use mathlib.Core.List.{List}
use Prim.Native.Nat.{ℕ, ◌+◌, ◌*◌, ◌<◌}
use native.Mathlib.Omega.{arith}
use lib.IntN.{ℤ}
use lib.ListN.{length, set}
use Rattle.words.specs.Map.{TUPLE-XS, TUPLE-YS, TUPLE-TAGS, TUPLES-SIZE}
use Rattle.words.proofs.Columns.{quarter_0, quarter_1, quarter_2, quarter_3}
use Rattle.slots.specs.Tuple.{tuples_of, tuples_at, put_words}

module _ (l : List ℕ) (l# : length l ≡ TUPLES-SIZE) (i : ℕ) (h : i < 2048) (k u v m : ℕ) (ts : List ℤ) where
  pub put_all : put_words (tuples_at l ts) i k u v m ≡ tuples_at (set (set (set (set l i k) (TUPLE-XS + i) u) (TUPLE-YS + i) v) (TUPLE-TAGS + i) m) ts
  put_all =
      let o = quarter_0 l 2048 i h k u v m (omega arith) in
      let x = quarter_1 l 2048 i h k u v m (omega arith) in
      let y = quarter_2 l 2048 i h k u v m (omega arith) in
      let g = quarter_3 l 2048 i h k u v m (omega arith) in
      sym (λ j. tuples_of (o j) (x j) (y j) (g j) ts)

pub lt_slot : {b s : ℕ} → b < 512 → s < 4 → 4 * b + s < 2048
lt_slot h k = omega arith
