-- A text stored behind another.
use mathlib.Core.Path.{◌≡◌, ap, ◌∙◌}
use mathlib.Core.List.{List, [], ◌∷◌, ◌++◌}
use Prim.Native.Nat.{ℕ, suc, ◌+◌}
use native.Mathlib.Omega.{arith}
use lib.ListN.{length, set}
use lib.Seq.{sets}

pub sets_append : (l s t : List ℕ) (i : ℕ) → sets l i (s ++ t) ≡ sets (sets l i s) (i + length s) t
sets_append l [] t i =
    let z : i ≡ i + 0 = omega arith in ap (λ (j : ℕ). sets l j t) z
sets_append l (a ∷ s) t i =
    let z : suc i + length s ≡ i + suc (length s) = omega arith in
    sets_append (set l i a) s t (suc i) ∙ ap (λ (j : ℕ). sets (sets (set l i a) (suc i) s) j t) z
