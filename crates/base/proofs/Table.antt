-- Laws of tables read as functions, and of tests.
use mathlib.Core.Path.{◌≡◌, refl, sym, fun_ext}
use mathlib.Core.Logic.{◌≢◌}
use mathlib.Core.Bool.{Bool, true, false, not}
use mathlib.Core.List.{List}
use Prim.Native.Nat.{ℕ, ◌<◌}
use lib.Dec.{ltb, leb}
use lib.ListN.{length, get_or, set}
use lib.Seq.{get_or-set_same, get_or-set_other}
use borrow.Author.Tests.{eq-eqb, ne_eqb, lt-ltb, le-ltb, le-leb, lt-leb, ltb-true, ltb-false, leb-true, leb-false}
use native.Mathlib.Decide.{ℕ_discrete}
use native.Mathlib.Omega.{arith}
use Rattle.base.specs.Table.{upd}

-- two numbers are equal or not, with the equation in each case
pub at_or {ℓ} : {C : Type ℓ} (j i : ℕ) → (j ≡ i → C) → (j ≢ i → C) → C
at_or j i f g = elim (ℕ_discrete j i) [ yes p ↦ f p | no q ↦ g q ]

-- a test is true or false, with the equation in each case
pub by_test {ℓ} : {C : Type ℓ} (b : Bool) → (b ≡ true → C) → (b ≡ false → C) → C
by_test true f g = f refl
by_test false f g = g refl

-- from two constructors that cannot be equal, anything: write `clash (cc)`
pub clash {ℓ} : {C : Type ℓ} → ◌≡◌ {A = ℕ} 0 1 → C
clash e = absurd (omega arith)

module _ {ℓ} {A : Type ℓ} (f : ℕ → A) (i : ℕ) (v : A) where
  pub upd_same : upd f i v i ≡ v
  unfolding upd
  upd_same = rw (eq-eqb i i refl)

  pub upd_other : (j : ℕ) → j ≢ i → upd f i v j ≡ f j
  unfolding upd
  upd_other j h = rw (ne_eqb j i h)

module _ {ℓ} {A : Type ℓ} (l : List A) (i : ℕ) (v d : A) where
  -- a store in range changes the table, read as a function, at one number
  pub at_set : i < length l → (λ (j : ℕ). get_or (set l i v) j d) ≡ upd (λ (j : ℕ). get_or l j d) i v
  at_set h =
      fun_ext λ j. at_or j i
      (λ q. rw (q, upd_same (λ (j : ℕ). get_or l j d) i v) (get_or-set_same l i v d h))
      (λ q. rw (upd_other (λ (j : ℕ). get_or l j d) i v j q) (get_or-set_other l i j v d q))

-- a test of order that fails is the test the other way round
pub not_ltb : (a b : ℕ) → not (ltb a b) ≡ leb b a
not_ltb a b = by (ltb a b) refl
  where
    by : (t : Bool) → ltb a b ≡ t → not t ≡ leb b a
    by true e = sym (lt-leb b a (ltb-true a b e))
    by false e = sym (le-leb b a (ltb-false a b e))

pub not_leb : (a b : ℕ) → not (leb a b) ≡ ltb b a
not_leb a b = by (leb a b) refl
  where
    by : (t : Bool) → leb a b ≡ t → not t ≡ ltb b a
    by true e = sym (le-ltb b a (leb-true a b e))
    by false e = sym (lt-ltb b a (leb-false a b e))
