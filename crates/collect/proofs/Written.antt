-- The entries that are handed back: four numbers each, one more at the end, and what stands where.
-- A list whose front is written with n entries has n + 1 of them once the next four numbers are written behind it.
use mathlib.Core.Path.{◌≡◌, refl, ap, ◌∙◌}
use mathlib.Core.List.{List, [], ◌∷◌, ◌++◌}
use Prim.Native.Nat.{ℕ, zero, suc, ◌+◌, ◌*◌, ◌<◌, ◌≤◌}
use native.Mathlib.Nat.{zero-add}
use native.Mathlib.Numerals.{add-one}
use Rattle.std.proofs.Common.{append_assoc}
use native.Mathlib.Omega.{arith}
use lib.ListN.{length, get_or, take, drop, length-append, length-drop}
use borrow.Rule.Slice.PartMut.{put_mid}
use lib.Seq.{take_at, drop_at, drop-drop}
use Rattle.base.specs.Table.{at}
use Rattle.words.specs.Map.{HIT-XS, HIT-YS, HIT-TAGS}
use Rattle.words.specs.Part.{part}
use Rattle.words.proofs.Parts.{part_at}
use Rattle.hits.specs.Hits.{Hits, hits_at}
use Rattle.collect.specs.Collect.{entries_from}
use Rattle.collect.specs.Filling.{over}

-- ---- a part over the front of a list

module _ (p l : List ℕ) (h : length p ≤ length l) where
  -- the list keeps its length
  pub over-length : length (over p l) ≡ length l
  over-length = length-append p (drop (length p) l) ∙ rw (length-drop (length p) l) (omega arith)

-- the part stands in front, and later numbers are as they were
pub over_part : (p l : List ℕ) → take (length p) (over p l) ≡ p
over_part p l = take_at p _ _ refl

pub over_rest : (p l : List ℕ) → drop (length p) (over p l) ≡ drop (length p) l
over_rest p l = drop_at p _ _ refl

-- numbers written behind a part make it longer by as many
pub over_more : (p q l : List ℕ) (j n : ℕ) → length p ≡ j → length q ≡ n → j + n ≤ length l
    → put_mid j n (over p l) q ≡ over (p ++ q) l
over_more p q l j n e f h =
    rw (← e, ← f, over_part p l, over_rest p l, drop-drop, append_assoc, length-append)

-- ---- the entries

module _ (h : Hits) where
  -- four numbers each
  pub entries_length : (i n : ℕ) → length (entries_from h i n) ≡ 4 * n
  unfolding entries_from
  entries_length i zero = refl
  entries_length i (suc n) = omega (arith, entries_length (suc i) n)

  -- one more at the end
  pub entries_more : (i n : ℕ) → entries_from h i (suc n)
      ≡ entries_from h i n ++ (at h.oid (i + n) ∷ at h.x (i + n) ∷ at h.y (i + n) ∷ at h.tag (i + n) ∷ [])
  unfolding entries_from
  entries_more i zero = let e : i + 0 ≡ i = omega arith in rw e
  entries_more i (suc n) =
      let e : i + suc n ≡ suc i + n = omega arith in
      rw e (ap (λ (l : List ℕ). at h.oid i ∷ at h.x i ∷ at h.y i ∷ at h.tag i ∷ l) (entries_more (suc i) n))

  -- object, x, y and tag of entry k
  pub entries_at : (i n k : ℕ) → k < n
      → (get_or (entries_from h i n) (4 * k) 0 ≡ at h.oid (i + k)) × (get_or (entries_from h i n) (4 * k + 1) 0 ≡ at h.x (i + k))
      × (get_or (entries_from h i n) (4 * k + 2) 0 ≡ at h.y (i + k)) × (get_or (entries_from h i n) (4 * k + 3) 0 ≡ at h.tag (i + k))
  unfolding entries_from
  entries_at i zero k b = absurd (omega arith)
  entries_at i (suc n) zero b = let e : i + 0 ≡ i = omega arith in rw e (refl, refl, refl, refl)
  entries_at i (suc n) (suc k) b =
      let e : i + suc k ≡ suc i + k = omega arith in
      let z : 4 * suc k ≡ suc (suc (suc (suc (4 * k)))) = omega arith in
      let x : 4 * suc k + 1 ≡ suc (suc (suc (suc (4 * k + 1)))) = omega arith in
      let y : 4 * suc k + 2 ≡ suc (suc (suc (suc (4 * k + 2)))) = omega arith in
      let m : 4 * suc k + 3 ≡ suc (suc (suc (suc (4 * k + 3)))) = omega arith in
      rw (e, x, y, m, z) (entries_at (suc i) n k (omega arith))

-- ---- the loop that writes them

-- one entry more, where the four tables of the hits stand in one list
pub over_next : (h l₀ l : List ℕ) (from size i : ℕ) → from + size ≤ 1024 → 4 * size ≤ length l₀ → i < size
    → l ≡ over (entries_from (hits_at h) from i) l₀ → (n : ℕ) → n ≡ 4
    → put_mid (4 * i) n l (get_or h (from + i) 0 ∷ get_or h (HIT-XS + (from + i)) 0
    ∷ get_or h (HIT-YS + (from + i)) 0 ∷ get_or h (HIT-TAGS + (from + i)) 0 ∷ [])
    ≡ over (entries_from (hits_at h) from (i + 1)) l₀
over_next h l₀ l from size i f s b e n n# =
    let column : (a : ℕ) → at (part a 1024 h) (from + i) ≡ get_or h (a + (from + i)) 0 =
    λ a. part_at h a 1024 (from + i) 0 (omega arith) in
    let first : at (part 0 1024 h) (from + i) ≡ get_or h (from + i) 0 = rw zero-add at (column 0) in
    rw (← first, ← column HIT-XS, ← column HIT-YS, ← column HIT-TAGS, e, add-one i, entries_more (hits_at h) from i, n#)
    (over_more (entries_from (hits_at h) from i) _ l₀ (4 * i) 4 (entries_length (hits_at h) from i) refl (omega arith))
