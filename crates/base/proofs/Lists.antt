-- Laws of membership in lists, of lists without repetition, and of consecutive numbers.
use mathlib.Core.Path.{◌≡◌, refl, sym, ap, subst, ◌∙◌}
use mathlib.Core.Logic.{◌⊎◌, inl, inr, ⊎_elim}
use mathlib.Core.List.Memᴰ
use mathlib.Core.List.{List, [], ◌∷◌, ◌++◌, Memᴰ}
use mathlib.Core.List.Memᴰ.{append_cases as in-append}
use mathlib.Core.List.Memᴰ.{append_left as in_left}
use mathlib.Core.List.Memᴰ.{append_right as in_right}
use mathlib.Core.List.Memᴰ.{cases_cons as in-or}
use mathlib.Core.List.Memᴰ.{eq_of_singleton as in_one}
use mathlib.Core.List.Memᴰ.{not-nil as in-none}
use mathlib.Core.List.Memᴰ.{tail as there}
use Prim.Native.Nat.{ℕ, zero, suc, ◌+◌, ◌<◌, ◌≤◌}
use lib.ListN.{length}
use native.Mathlib.Omega.{arith}
use Rattle.base.proofs.Table.{at_or}
use Rattle.base.specs.Lists.{In, here, Once, empty, more, numbers_from}

-- one number more at the end
pub once_last : (l : List ℕ) {b : ℕ} → Once l → (In b l → ⊥) → Once (l ++ b ∷ [])
once_last [] o n = more n o
once_last (x ∷ l) {b} (more m o) n =
    more (λ i. ⊎_elim (λ (p : In x l). m p) (λ (p : In x (b ∷ [])). n (rw (in_one p) here)) (in-append l i)) (once_last l o (λ i. n (there i)))

-- and one less
pub once_front : (l : List ℕ) {b : ℕ} → Once (l ++ b ∷ []) → Once l × (In b l → ⊥)
once_front [] o = (empty, λ i. in-none i)
once_front (x ∷ l) {b} (more m o) =
    let r = once_front l o in (
      more (λ i. m (in_left (b ∷ []) i)) r.0,
      λ i. ⊎_elim (λ (e : b ≡ x). m (rw (← e) (in_right l here))) (λ (p : In b l). r.1 p) (in-or i),
    )

pub in_dec : (b : ℕ) (l : List ℕ) → In b l ⊎ (In b l → ⊥)
in_dec b [] = inr (λ i. in-none i)
in_dec b (x ∷ l) =
    at_or b x (λ e. inl (rw e here)) (λ n. ⊎_elim (λ (i : In b l). inl (there i)) (λ (m : In b l → ⊥). inr (λ i. ⊎_elim (λ (e : b ≡ x). n e) (λ (p : In b l). m p) (in-or i))) (in_dec b l))

-- the list without the b that was found
remove : {b : ℕ} {l : List ℕ} → In b l → List ℕ
remove (Memᴰ.head {xs = l} e) = l
remove (Memᴰ.tail {x = x} i) = x ∷ remove i

remove_length : {b : ℕ} {l : List ℕ} (i : In b l) → length l ≡ suc (length (remove i))
unfolding remove
remove_length (Memᴰ.head e) = refl
remove_length (Memᴰ.tail i) = ap suc (remove_length i)

remove_in : {j b : ℕ} {l : List ℕ} (i : In b l) → In j (remove i) → In j l
unfolding remove
remove_in (Memᴰ.head e) p = there p
remove_in {j} (Memᴰ.tail {x = x} i) p = ⊎_elim (λ (e : j ≡ x). Memᴰ.head e) (λ (q : In j (remove i)). there (remove_in i q)) (in-or p)

remove_once : {b : ℕ} {l : List ℕ} (i : In b l) → Once l → Once (remove i) × (In b (remove i) → ⊥)
unfolding remove
remove_once {b} (Memᴰ.head {xs = l} e) (more n o) = (o, λ (p : In b l). n (Memᴰ.cast (sym e) p))
remove_once {b} (Memᴰ.tail {x = x} i) (more n o) =
    let r = remove_once i o in
    (more (λ p. n (remove_in i p)) r.0, λ p. ⊎_elim (λ (e : b ≡ x). n (Memᴰ.cast (sym e) i)) (λ (q : In b (remove i)). r.1 q) (in-or p))

-- numbers below n, none twice, are at most n
pub once_few : (n : ℕ) (l : List ℕ) → Once l → ((j : ℕ) → In j l → j < n) → length l ≤ n
once_few zero [] o h = omega arith
once_few zero (x ∷ l) o h = absurd (omega (arith, h x here))
once_few (suc n) l o h =
    ⊎_elim
    (λ (i : In n l).
    let r = remove_once i o in
    let k = once_few n (remove i) r.0 (λ j p. at_or j n (λ e. absurd (r.1 (subst (λ (x : ℕ). In x (remove i)) e p))) (λ m. omega (arith, h j (remove_in i p)))) in
    omega (arith, remove_length i))
    (λ (m : In n l → ⊥). omega (arith, once_few n l o (λ j p. at_or j n (λ e. absurd (m (rw (← e) p))) (λ q. omega (arith, h j p)))))
    (in_dec n l)

-- ---- consecutive numbers

pub numbers-length : (c n : ℕ) → length (numbers_from c n) ≡ n
unfolding numbers_from
numbers-length c zero = refl
numbers-length c (suc n) = ap suc (numbers-length (suc c) n)

pub numbers_in : (c n j : ℕ) → c ≤ j → j < c + n → In j (numbers_from c n)
unfolding numbers_from
numbers_in c zero j a b = absurd (omega arith)
numbers_in c (suc n) j a b = at_or j c (λ e. rw e here) (λ m. there (numbers_in (suc c) n j (omega arith) (omega arith)))

pub in_numbers : (c n j : ℕ) → In j (numbers_from c n) → (c ≤ j) × (j < c + n)
unfolding numbers_from
in_numbers c zero j i = absurd (in-none i)
in_numbers c (suc n) j i =
    ⊎_elim (λ (e : j ≡ c). (omega arith, omega arith)) (λ (p : In j (numbers_from (suc c) n)). let r = in_numbers (suc c) n j p in (omega arith, omega arith)) (in-or i)

pub once_numbers : (c n : ℕ) → Once (numbers_from c n)
unfolding numbers_from
once_numbers c zero = empty
once_numbers c (suc n) = more (λ (i : In c (numbers_from (suc c) n)). omega (arith, in_numbers (suc c) n c i)) (once_numbers (suc c) n)

-- one more at the end
pub numbers_last : (c n : ℕ) → numbers_from c (suc n) ≡ numbers_from c n ++ (c + n) ∷ []
unfolding numbers_from
numbers_last c zero = ap (λ (m : ℕ). m ∷ []) (omega arith)
numbers_last c (suc n) = ap (λ (l : List ℕ). c ∷ l) (numbers_last (suc c) n ∙ ap (λ (m : ℕ). numbers_from (suc c) n ++ m ∷ []) (omega arith))
