-- A table wound back entry by entry, and the laws of one stamp and of the clock.
use mathlib.Core.Path.{◌≡◌, refl, sym, ap, ◌∙◌}
use mathlib.Core.List.{List, ◌++◌, map}
use Prim.Native.Nat.{ℕ, zero, suc, ◌+◌, ◌<◌, ◌≤◌}
use native.Mathlib.Omega.{arith}
use lib.Dec.{ltb}
use lib.IntN.{ℤ, pos, negsuc, nat_abs}
use lib.ListN.{length, get_or, get_or-map, set, take, drop}
use Rattle.std.specs.Int.{int_signum}
use Rattle.std.proofs.lemmas.Grind.{common_steps}
use Rattle.std.proofs.lemmas.List.{take_more, drop_more, set-append_right, length-map}
use lib.Signed.{lt_z}
use borrow.Author.Tests.{lt-ltb, le-ltb, ltb-true, ltb-false}
use Rattle.base.specs.Outcome.{pick}
use Rattle.base.proofs.Table.{by_test}
use Rattle.rewind.specs.Rewind.{wound_stamp, wound_clock}

-- the library's sign of a stamp is the stamp wound back
pub wound-sign : (z : ℤ) → int_signum z ≡ wound_stamp z
unfolding wound_stamp
wound-sign (pos zero) = refl
wound-sign (pos (suc n)) = ap pos (omega arith)
wound-sign (negsuc n) = refl

-- the next entry is still the old one
wound_next : (l : List ℤ) (i : ℕ) → i < length l
    → get_or (map wound_stamp (take i l) ++ drop i l) i (pos 0) ≡ get_or l i (pos 0)
wound_next l i h = grind (arith, common_steps, take_more)

wound_set : (l : List ℤ) (i : ℕ) (v : ℤ) → i < length l → v ≡ wound_stamp (get_or l i (pos 0))
    → set (map wound_stamp (take i l) ++ drop i l) i v ≡ map wound_stamp (take (i + 1) l) ++ drop (i + 1) l
wound_set l i v h e =
    let x = set-append_right (map wound_stamp (take i l)) (drop i l) i i v in
    let y = take_more l i (pos 0) h in
    let z = drop_more l i (pos 0) in
    grind (arith, common_steps)

-- one more entry wound back
pub wound_more : (l t : List ℤ) (i : ℕ) (v : ℤ) → i < length l → t ≡ map wound_stamp (take i l) ++ drop i l
    → v ≡ int_signum (get_or t i (pos 0)) → set t i v ≡ map wound_stamp (take (i + 1) l) ++ drop (i + 1) l
wound_more l t i v h e w = rw e (wound_set l i v h (w ∙ rw (e, wound_next l i h) (wound-sign _)))

-- ---- one stamp

-- its sign stays
pub above_wound : (z : ℤ) → lt_z (pos 0) (wound_stamp z) ≡ lt_z (pos 0) z
unfolding wound_stamp
above_wound (pos zero) = refl
above_wound (pos (suc n)) = lt-ltb 0 1 (omega arith) ∙ sym (lt-ltb 0 (suc n) (omega arith))
above_wound (negsuc n) = refl

pub below_wound : (z : ℤ) → lt_z (wound_stamp z) (pos 0) ≡ lt_z z (pos 0)
unfolding wound_stamp
below_wound (pos zero) = refl
below_wound (pos (suc n)) = le-ltb 1 0 (omega arith) ∙ sym (le-ltb (suc n) 0 (omega arith))
below_wound (negsuc n) = refl

-- it is 1 at most, not larger than it was, and still there if it was
pub abs_wound : (z : ℤ) → (nat_abs (wound_stamp z) ≤ 1) × (nat_abs (wound_stamp z) ≤ nat_abs z)
    × (0 < nat_abs z → 0 < nat_abs (wound_stamp z))
unfolding wound_stamp
abs_wound (pos zero) = (omega arith, omega arith, λ h. h)
abs_wound (pos (suc n)) = (omega arith, omega arith, λ h. omega arith)
abs_wound (negsuc n) = (omega arith, omega arith, λ h. omega arith)

-- ---- the whole table

pub map-length : (l : List ℤ) → length (map wound_stamp l) ≡ length l
map-length l = length-map l wound_stamp

-- each entry, and zero behind the last
pub map_at : (l : List ℤ) (i : ℕ) → get_or (map wound_stamp l) i (pos 0) ≡ wound_stamp (get_or l i (pos 0))
unfolding wound_stamp
map_at l i = get_or-map wound_stamp l i (pos 0)

-- ---- the clock

pub clock_above : (c : ℕ) → 1 < c → wound_clock c ≡ 1
unfolding wound_clock pick
clock_above c h = rw (lt-ltb 1 c h)

pub clock_below : (c : ℕ) → c ≤ 1 → wound_clock c ≡ c
unfolding wound_clock pick
clock_below c h = rw (le-ltb 1 c h)

-- not ahead of what it was, nor behind what is 1 at most and was not ahead; and one that is not ahead stays so
pub clock_wound : (c : ℕ) → (wound_clock c ≤ c) × ((n : ℕ) → n ≤ c → n ≤ 1 → n ≤ wound_clock c)
unfolding wound_clock pick
clock_wound c = by_test (ltb 1 c)
    (λ e. rw e (omega (arith, ltb-true 1 c e), λ n h k. k))
    (λ e. rw e (omega arith, λ n h k. h))

pub clock_order : (c d : ℕ) → c ≤ d → wound_clock c ≤ wound_clock d
unfolding wound_clock pick
clock_order c d h = by_test (ltb 1 c)
    (λ e. rw (e, lt-ltb 1 d (omega (arith, ltb-true 1 c e))) (omega arith))
    (λ e. by_test (ltb 1 d) (λ f. rw (e, f) (omega (arith, ltb-false 1 c e))) (λ f. rw (e, f) h))
