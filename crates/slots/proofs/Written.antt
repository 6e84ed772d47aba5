-- A slot by its bucket and its number, and a tuple written or copied over another: what put_tuple and the store of a stamp come to.
use mathlib.Core.Path.{◌≡◌, refl, sym, ap, ◌∙◌}
use mathlib.Core.Bool.{Bool, true, false}
use mathlib.Core.List.{List, []}
use Prim.Native.Nat.{ℕ, ◌+◌, ◌<◌}
use native.Mathlib.Nat.{zero-add}
use borrow.Author.Tests.{lt-ltb, ltb-true}
use lib.Dec.{ltb}
use lib.IntN.{ℤ, pos}
use lib.ListN.{set, get_or}
use Rattle.base.proofs.Outcome.{need_done, done_one}
use Rattle.base.proofs.Table.{clash}
use Rattle.base.specs.Outcome.{Outcome, corrupt, done, need, says, nothing, ended, tells, leaves}
use Rattle.base.specs.Table.{at}
use Rattle.words.specs.Map.{TUPLE-XS, TUPLE-YS, TUPLE-TAGS}
use Rattle.words.proofs.Parts.{part_at}
use Rattle.slots.specs.Stamp.{current, stamp_range}
use Rattle.slots.specs.Tuple.{Tuples, Tuple, tuples_at, slot_at, tuple_in, put_tuple, put_words, need_slot, copy, overwrite}
use Rattle.slots.proofs.Putting.{lt_slot}

-- who called slot_index knows whether a bucket and a slot are in range, and where the slot stands
pub slot_lost : {A : Type 0} (b s : ℕ) (k : Outcome A) → corrupt ≡ need_slot b s (done (slot_at b s)) → need_slot b s k ≡ corrupt
unfolding need_slot need
slot_lost b s k e = by (ltb b 512) (ltb s 4) e
  where
    by : (p q : Bool) → corrupt ≡ need p (need q (done (slot_at b s))) → need p (need q k) ≡ corrupt
    by true true e = clash (cc)
    by true false e = refl
    by false q e = refl

pub slot_found : {i : ℕ} (b s : ℕ) → done i ≡ need_slot b s (done (slot_at b s)) → (b < 512) × (s < 4) × (i ≡ slot_at b s)
unfolding need_slot
slot_found b s e =
    let n₁ = need_done _ _ (sym e) in
    let n₂ = need_done _ _ n₁.1 in
    (ltb-true b 512 n₁.0, ltb-true s 4 n₂.0, sym (done_one n₂.1))

comes : (t t' : Tuples) (o : Outcome Tuples) → o ≡ done t' → ended nothing (λ (d : Tuples). d) t o ≡ (says 0 [], t')
unfolding tells leaves
comes t t' o e = rw e

module _ (l l' : List ℕ) (ts : List ℤ) (z : ℤ) (b s : ℕ) (b< : b < 512) (s< : s < 4) where
  -- written: object, x, y, tag and the stamp z
  pub overwritten : (k x y m t : ℕ) → stamp_range t ≡ true → z ≡ current t →
      ((ts : List ℤ) → put_words (tuples_at l ts) (slot_at b s) k x y m ≡ tuples_at l' ts) →
      ended nothing (λ (d : Tuples). d) (tuples_at l ts) (overwrite (tuples_at l ts) b s k x y m t) ≡ (says 0 [], tuples_at l' (set ts (slot_at b s) z))
  unfolding overwrite need_slot need
  overwritten k x y m t r e p =
      comes (tuples_at l ts) (tuples_at l' (set ts (slot_at b s) z)) (overwrite (tuples_at l ts) b s k x y m t)
      (rw (lt-ltb b 512 b<, lt-ltb s 4 s<, r) (ap done (ap (λ (z : ℤ). put_tuple (tuples_at l ts) (slot_at b s) (record { oid = k; x = x; y = y; tag = m; time = z })) (sym e) ∙ p (set ts (slot_at b s) z))))

  -- copied from here to another slot
  pub copied : (b' s' : ℕ) → b' < 512 → s' < 4 → z ≡ get_or ts (slot_at b s) (pos 0) →
      ((ts : List ℤ) → put_words (tuples_at l ts) (slot_at b' s') (at l (slot_at b s)) (at l (TUPLE-XS + slot_at b s)) (at l (TUPLE-YS + slot_at b s)) (at l (TUPLE-TAGS + slot_at b s)) ≡ tuples_at l' ts) →
      ended nothing (λ (d : Tuples). d) (tuples_at l ts) (copy (tuples_at l ts) b s b' s') ≡ (says 0 [], tuples_at l' (set ts (slot_at b' s') z))
  unfolding copy need_slot need
  copied b' s' b'< s'< e p =
      let o = part_at l 0 2048 (slot_at b s) 0 (lt_slot b< s<) ∙ ap (at l) (zero-add (slot_at b s)) in
      let x = part_at l TUPLE-XS 2048 (slot_at b s) 0 (lt_slot b< s<) in
      let y = part_at l TUPLE-YS 2048 (slot_at b s) 0 (lt_slot b< s<) in
      let m = part_at l TUPLE-TAGS 2048 (slot_at b s) 0 (lt_slot b< s<) in
      let same : tuple_in (tuples_at l ts) (slot_at b s) ≡ record { oid = at l (slot_at b s); x = at l (TUPLE-XS + slot_at b s); y = at l (TUPLE-YS + slot_at b s); tag = at l (TUPLE-TAGS + slot_at b s); time = z } =
      λ i. record { oid = o i; x = x i; y = y i; tag = m i; time = sym e i } in
      comes (tuples_at l ts) (tuples_at l' (set ts (slot_at b' s') z)) (copy (tuples_at l ts) b s b' s')
      (rw (lt-ltb b 512 b<, lt-ltb s 4 s<, lt-ltb b' 512 b'<, lt-ltb s' 4 s'<) (ap done (ap (λ (t : Tuple). put_tuple (tuples_at l ts) (slot_at b' s') t) same ∙ p (set ts (slot_at b' s') z))))

  -- the same, where the two slots stand at i and j
  pub copied_at : {i j : ℕ} (b' s' : ℕ) → b' < 512 → s' < 4 → i ≡ slot_at b s → j ≡ slot_at b' s' → z ≡ get_or ts i (pos 0) →
      ((ts : List ℤ) → put_words (tuples_at l ts) j (at l i) (at l (TUPLE-XS + i)) (at l (TUPLE-YS + i)) (at l (TUPLE-TAGS + i)) ≡ tuples_at l' ts) →
      ended nothing (λ (d : Tuples). d) (tuples_at l ts) (copy (tuples_at l ts) b s b' s') ≡ (says 0 [], tuples_at l' (set ts j z))
  copied_at b' s' b'< s'< p q e h = rw q (copied b' s' b'< s'< (rw p at e) (rw (p, q) at h))
