-- Drawing a stamp, for who asked next_stamp for it.
use mathlib.Core.Path.{◌≡◌, refl}
use mathlib.Core.Bool.{Bool, true, false}
use Prim.Native.Nat.{ℕ, ◌+◌}
use lib.Dec.{ltb}
use Rattle.base.specs.Outcome.{Outcome, corrupt, done, need}
use Rattle.base.proofs.Table.{clash}
use Rattle.stage.specs.Turn.{draw, drawn}

module _ {A : Type 0} (k : ℕ → Outcome A) (m : ℕ) where
  none : (b : Bool) → corrupt ≡ need b (done m) → need b (k m) ≡ corrupt
  unfolding need
  none true e = clash (cc)
  none false e = refl

  some : (b : Bool) {n : ℕ} → done n ≡ need b (done m) → need b (k m) ≡ k n
  unfolding need
  some true {n} e = let q : n ≡ m = cc in rw q
  some false e = clash (cc)

module _ {A : Type 0} (clock : ℕ) (k : ℕ → Outcome A) where
  pub draw_refused : corrupt ≡ drawn clock → draw clock k ≡ corrupt
  unfolding draw
  draw_refused e = none k (clock + 1) (ltb clock 2147483647) e

  pub draw_made : {n : ℕ} → done n ≡ drawn clock → draw clock k ≡ k n
  unfolding draw
  draw_made e = some k (clock + 1) (ltb clock 2147483647) e
