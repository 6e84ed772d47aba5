-- Filling the pool entry by entry: after i stores the first i entries are the numbers from 0 on.
use mathlib.Core.Path.{◌≡◌, sym, ap, ◌∙◌}
use mathlib.Core.List.{List, ◌∷◌, [], ◌++◌}
use Prim.Native.Nat.{ℕ, ◌+◌, ◌<◌}
use native.Mathlib.Omega.{arith}
use native.Mathlib.Numerals.{add-one}
use lib.ListN.{length, set, take}
use lib.Seq.{take-suc-set, take_all}
use Rattle.base.specs.Lists.{numbers_from}
use Rattle.base.proofs.Lists.{numbers_last}
use Rattle.pool.specs.Pool.{fresh}

pub filled : (l : List ℕ) (i : ℕ) → i < length l → take i l ≡ numbers_from 0 i → take (i + 1) (set l i i) ≡ numbers_from 0 (i + 1)
filled l i h e = rw (add-one, take-suc-set l i i h, e) (ap (λ (n : ℕ). numbers_from 0 i ++ n ∷ []) (omega arith) ∙ sym (numbers_last 0 i))

pub whole : (l : List ℕ) (i : ℕ) → length l ≡ 513 → i ≡ 513 → take i l ≡ numbers_from 0 i → l ≡ fresh
unfolding fresh
whole l i n f e = sym (take_all i l (omega arith)) ∙ e ∙ ap (numbers_from 0) f
