-- Stamps that say the same to both grids (specs/Alike.antt): those that are drawn, those that are copied, and those
-- that a
-- query finds which begins now.
use mathlib.Core.Path.{◌≡◌, refl, sym, ◌∙◌}
use mathlib.Core.Bool.{Bool, true, false, ◌||◌, ◌&&◌}
use mathlib.Core.List.{List}
use Prim.Native.Nat.{ℕ, suc, ◌+◌, ◌<◌, ◌≤◌}
use native.Mathlib.Numerals.{add-one}
use native.Mathlib.Omega.{arith}
use lib.Dec.{T, eqb, ltb}
use lib.IntN.{ℤ, pos, negsuc, neg_ℤ, nat_abs}
use lib.ListN.{set, length}
use lib.Seq.{get_or-set_same, get_or-set_other}
use borrow.Author.Tests.{lt-ltb, le-ltb}
use Rattle.base.specs.Outcome.{pick}
use Rattle.base.proofs.Table.{at_or, clash}
use Rattle.slots.specs.Stamp.{stamp_of}
use Rattle.slots.specs.Tuple.{sign_of}
use Rattle.slots.specs.declared.stamp.Stamp.TheVariants.{Never, Current, Deleted}
use Rattle.calls.proofs.Meet.{Meet, both_done, left_refused, right_refused}
use Rattle.alike.specs.Alike.{stands, stood, tells, Like, stamp_at}

pub stands_pos : (n : ℕ) → 0 < n → stands (pos n) ≡ true
stands_pos n h = lt-ltb 0 n h

pub stood_pos : (n : ℕ) → stood (pos n) ≡ false
stood_pos n = le-ltb n 0 (omega arith)

tells_pos : (s n : ℕ) → 0 < n → tells s (pos n) ≡ true
unfolding tells
tells_pos s n h = rw (stands_pos n h)

tells_neg : (s n : ℕ) → s ≤ n → tells s (negsuc n) ≡ true
unfolding tells
tells_neg s n h = lt-ltb s (suc n) (omega arith)

-- a drawn stamp, above zero
pub like_above : {O : ℕ → ℕ → Type 0} (n n' : ℕ) → 0 < n → 0 < n' → Like O (pos n) (pos n')
like_above n n' h h' = record {
  stands = stands_pos n' h' ∙ sym (stands_pos n h);
  stood = stood_pos n' ∙ sym (stood_pos n);
  tells = λ s s' o. tells_pos s' n' h' ∙ sym (tells_pos s n h);
}

-- and below zero
pub like_below : {O : ℕ → ℕ → Type 0} (n n' : ℕ) → ((s s' : ℕ) → O s s' → (s ≤ n) × (s' ≤ n')) → Like O (negsuc n)
    (negsuc n')
like_below n n' f = record {
  stands = refl;
  stood = refl;
  tells = λ s s' o. let w = f s s' o in tells_neg s' n' w.1 ∙ sym (tells_neg s n w.0);
}

-- the stamp that stage 13 gives
pub like_flagged : {O : ℕ → ℕ → Type 0} (n n' : ℕ) → ((s s' : ℕ) → O s s' → (s ≤ n) × (s' ≤ n')) → Like O
    (neg_ℤ (pos (n + 1))) (neg_ℤ (pos (n' + 1)))
like_flagged n n' f = rw (add-one n, add-one n') (like_below n n' f)

-- a stamp that is not below zero and above the clock tells a query that begins now nothing but where its object stands
pub tells_new : (s : ℕ) (z : ℤ) → (T (stood z) → nat_abs z ≤ s) → tells s z ≡ stands z
unfolding tells
tells_new s (pos n) h = go (stands (pos n))
  where
    go : (b : Bool) → (b || (stood (pos n) && ltb s n)) ≡ b
    go true = refl
    go false = rw (stood_pos n)
tells_new s (negsuc n) h = le-ltb s (suc n) (h tt) ∙ refl

-- one stamp set in both tables
pub like_set : {O : ℕ → ℕ → Type 0} (ts ts' : List ℤ) (j : ℕ) (z z' : ℤ) → j < length ts → j < length ts'
    → Like O z z' → ((i : ℕ) → Like O (stamp_at ts i) (stamp_at ts' i))
    → (i : ℕ) → Like O (stamp_at (set ts j z) i) (stamp_at (set ts' j z') i)
like_set ts ts' j z z' h h' L f i = at_or i j
    (λ e. rw (e, get_or-set_same ts j z (pos 0) h, get_or-set_same ts' j z' (pos 0) h') L)
    (λ n. rw (get_or-set_other ts j i z (pos 0) n, get_or-set_other ts' j i z' (pos 0) n) (f i))

both_pos : (a b : Bool) (n m : ℕ) → Meet (λ (x y : Bool). x ≡ y) (sign_of (pick a Never (Current n)))
    (sign_of (pick b Never (Current m)))
unfolding sign_of pick
both_pos true b n m = left_refused
both_pos false true n m = right_refused
both_pos false false n m = both_done refl

both_neg : (a b : Bool) (n m : ℕ) → Meet (λ (x y : Bool). x ≡ y) (sign_of (pick a Never (Deleted n)))
    (sign_of (pick b Never (Deleted m)))
unfolding sign_of pick
both_neg true b n m = left_refused
both_neg false true n m = right_refused
both_neg false false n m = both_done refl

-- the sign that stage 7 looks at
pub same_sign : {O : ℕ → ℕ → Type 0} {z z' : ℤ} → Like O z z' → Meet (λ (a b : Bool). a ≡ b) (sign_of (stamp_of z))
    (sign_of (stamp_of z'))
unfolding sign_of stamp_of
same_sign {z = z} {z' = z'} L = go z z' L.stood
  where
    go : (z z' : ℤ) → stood z' ≡ stood z → Meet (λ (a b : Bool). a ≡ b) (sign_of (stamp_of z)) (sign_of (stamp_of z'))
    go (pos n) (pos m) e = both_pos (eqb n 0) (eqb m 0) n m
    go (pos n) (negsuc m) e = clash (let w : true ≡ false = e ∙ stood_pos n in cc)
    go (negsuc n) (pos m) e = clash (let w : false ≡ true = sym (stood_pos m) ∙ e in cc)
    go (negsuc n) (negsuc m) e = both_neg (eqb n 2147483647) (eqb m 2147483647) (suc n) (suc m)
