-- Numbers stored one behind the other, as the code stores them; and what then stands there.
use mathlib.Core.Path.{◌≡◌, refl, sym, ap, ◌∙◌}
use mathlib.Core.List.{List, [], ◌∷◌, ◌++◌, append_assoc}
use Prim.Native.Nat.{ℕ, suc, ◌+◌, ◌≤◌}
use native.Mathlib.Omega.{arith}
use lib.ListN.{length, set, take, drop}
use lib.Seq.{sets, sets-eq, drop-drop}
use borrow.Rule.Slice.PartMut.{put_mid}
use Rattle.words.specs.Part.{put}

-- they replace a part
pub sets_put : (vs l : List ℕ) (a n : ℕ) → length vs ≡ n → a + n ≤ length l → sets l a vs ≡ put a n vs l
sets_put vs l a n e h =
    let m : a + length vs ≤ length l = omega arith in
    sets-eq vs l a m ∙ append_assoc (take a l) vs (drop (a + length vs) l)
    ∙ ap (λ (r : List ℕ). take a l ++ (vs ++ r)) (sym (drop-drop (length vs) a l))
    ∙ ap (λ (k : ℕ). take a l ++ (vs ++ drop k (drop a l))) e

-- they are copied over a part
pub copied : (l vs ws : List ℕ) (a k : ℕ) → ws ≡ vs → k ≡ length vs → a + length vs ≤ length l → put_mid a k l ws ≡ sets l a vs
copied l vs ws a k e f h = rw (e, f) (sym (sets_put vs l a (length vs) refl h))

-- ten and thirteen of them, one by one
pub ten : (l : List ℕ) (a v0 v1 v2 v3 v4 v5 v6 v7 v8 v9 : ℕ) → set (set (set (set (set (set (set (set (set (set l a v0) (a + 1) v1) (a + 2) v2) (a + 3) v3) (a + 4) v4) (a + 5) v5) (a + 6) v6) (a + 7) v7) (a + 8) v8) (a + 9) v9 ≡ sets l a (v0 ∷ v1 ∷ v2 ∷ v3 ∷ v4 ∷ v5 ∷ v6 ∷ v7 ∷ v8 ∷ v9 ∷ [])
ten l a v0 v1 v2 v3 v4 v5 v6 v7 v8 v9 =
    let e1 : a + 1 ≡ suc a = omega arith in
    let e2 : a + 2 ≡ suc (suc a) = omega arith in
    let e3 : a + 3 ≡ suc (suc (suc a)) = omega arith in
    let e4 : a + 4 ≡ suc (suc (suc (suc a))) = omega arith in
    let e5 : a + 5 ≡ suc (suc (suc (suc (suc a)))) = omega arith in
    let e6 : a + 6 ≡ suc (suc (suc (suc (suc (suc a))))) = omega arith in
    let e7 : a + 7 ≡ suc (suc (suc (suc (suc (suc (suc a)))))) = omega arith in
    let e8 : a + 8 ≡ suc (suc (suc (suc (suc (suc (suc (suc a))))))) = omega arith in
    let e9 : a + 9 ≡ suc (suc (suc (suc (suc (suc (suc (suc (suc a)))))))) = omega arith in
    rw (e1, e2, e3, e4, e5, e6, e7, e8, e9) refl

pub thirteen : (l : List ℕ) (a v0 v1 v2 v3 v4 v5 v6 v7 v8 v9 v10 v11 v12 : ℕ) → set (set (set (set (set (set (set (set (set (set (set (set (set l a v0) (a + 1) v1) (a + 2) v2) (a + 3) v3) (a + 4) v4) (a + 5) v5) (a + 6) v6) (a + 7) v7) (a + 8) v8) (a + 9) v9) (a + 10) v10) (a + 11) v11) (a + 12) v12 ≡ sets l a (v0 ∷ v1 ∷ v2 ∷ v3 ∷ v4 ∷ v5 ∷ v6 ∷ v7 ∷ v8 ∷ v9 ∷ v10 ∷ v11 ∷ v12 ∷ [])
thirteen l a v0 v1 v2 v3 v4 v5 v6 v7 v8 v9 v10 v11 v12 =
    let e1 : a + 1 ≡ suc a = omega arith in
    let e2 : a + 2 ≡ suc (suc a) = omega arith in
    let e3 : a + 3 ≡ suc (suc (suc a)) = omega arith in
    let e4 : a + 4 ≡ suc (suc (suc (suc a))) = omega arith in
    let e5 : a + 5 ≡ suc (suc (suc (suc (suc a)))) = omega arith in
    let e6 : a + 6 ≡ suc (suc (suc (suc (suc (suc a))))) = omega arith in
    let e7 : a + 7 ≡ suc (suc (suc (suc (suc (suc (suc a)))))) = omega arith in
    let e8 : a + 8 ≡ suc (suc (suc (suc (suc (suc (suc (suc a))))))) = omega arith in
    let e9 : a + 9 ≡ suc (suc (suc (suc (suc (suc (suc (suc (suc a)))))))) = omega arith in
    let e10 : a + 10 ≡ suc (suc (suc (suc (suc (suc (suc (suc (suc (suc a))))))))) = omega arith in
    let e11 : a + 11 ≡ suc (suc (suc (suc (suc (suc (suc (suc (suc (suc (suc a)))))))))) = omega arith in
    let e12 : a + 12 ≡ suc (suc (suc (suc (suc (suc (suc (suc (suc (suc (suc (suc a))))))))))) = omega arith in
    rw (e1, e2, e3, e4, e5, e6, e7, e8, e9, e10, e11, e12) refl
