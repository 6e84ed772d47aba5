-- A list whose front is written with n entries has n + 1 of them after four stores: by the law of stores one behind the
-- other.
use mathlib.Core.Path.{◌≡◌, refl, ap, ◌∙◌}
use mathlib.Core.List.{List, [], ◌∷◌, ◌++◌}
use Prim.Native.Nat.{ℕ, suc, ◌+◌, ◌*◌, ◌<◌, ◌≤◌}
use native.Mathlib.Nat.{zero-add}
use native.Mathlib.Omega.{arith}
use lib.ListN.{length, get_or, set, drop, length-set, length-append}
use lib.Seq.{sets-eq, drop-append-add, drop-drop}
use Rattle.base.specs.Table.{at}
use Rattle.words.specs.Map.{HIT-XS, HIT-YS, HIT-TAGS}
use Rattle.words.specs.Part.{part}
use Rattle.words.proofs.Parts.{part_at}
use Rattle.hits.specs.Hits.{Hits, hits_at}
use Rattle.collect.specs.Collect.{entries_from}
use Rattle.collect.specs.Filling.{over}
use Rattle.collect.proofs.Written.{over-length, over_part, entries_length, entries_more}

-- four stores behind a part make it longer by four numbers
stores : (p l : List ℕ) (a b c d : ℕ) → length p + 4 ≤ length l
    → set (set (set (set (over p l) (length p) a) (suc (length p)) b) (suc (suc (length p))) c)
    (suc (suc (suc (length p)))) d
    ≡ over (p ++ (a ∷ b ∷ c ∷ d ∷ [])) l
stores p l a b c d h =
    let m : length (over p l) ≡ length l = over-length p l (omega arith) in
    let r : drop (length p + 4) (over p l) ≡ drop (length p + 4) l =
    drop-append-add p (drop (length p) l) 4 ∙ drop-drop 4 (length p) l in
    sets-eq (a ∷ b ∷ c ∷ d ∷ []) (over p l) (length p) (omega arith)
    ∙ rw (over_part p l, r, length-append p (a ∷ b ∷ c ∷ d ∷ []))

pub over_four : (p l : List ℕ) (j a b c d : ℕ) → length p ≡ j → j + 4 ≤ length l
    → set (set (set (set (over p l) j a) (j + 1) b) (j + 2) c) (j + 3) d ≡ over (p ++ (a ∷ b ∷ c ∷ d ∷ [])) l
over_four p l j a b c d e h =
    let i : j + 1 ≡ suc (length p) = omega arith in
    let k : j + 2 ≡ suc (suc (length p)) = omega arith in
    let m : j + 3 ≡ suc (suc (suc (length p))) = omega arith in
    rw (i, k, m, ← e) (stores p l a b c d (omega arith))

-- ---- the loop that writes them

-- i entries stand over the front of the list as it was
pub record Writing (h : Hits) (from size : ℕ) (l₀ l : List ℕ) (i : ℕ) : Type 0 where
  pub low : i ≤ size
  pub same : length l ≡ length l₀
  pub front : l ≡ over (entries_from h from i) l₀

module _ (h : Hits) (from size : ℕ) (l₀ : List ℕ) where
  pub writing_none : Writing h from size l₀ l₀ 0
  unfolding entries_from
  writing_none = record { low = omega arith; same = refl; front = refl }

  -- one entry more
  pub writing_more : (l : List ℕ) (i : ℕ) → 4 * size ≤ length l₀ → i < size → Writing h from size l₀ l i
      → Writing h from size l₀ (set (set (set (set l (4 * i) (at h.oid (from + i))) (4 * i + 1) (at h.x (from + i)))
      (4 * i + 2) (at h.y (from + i))) (4 * i + 3) (at h.tag (from + i))) (i + 1)
  writing_more l i s b W =
      let e : i + 1 ≡ suc i = omega arith in
      let m : 4 * i + 4 ≤ length l₀ = omega arith in
      record {
        low = omega arith;
        same = simp length-set W.same;
        front =
            rw (e, entries_more h from i, W.front)
            (over_four (entries_from h from i) l₀ (4 * i) _ _ _ _ (entries_length h from i) m);
      }

  pub writing_all : (l : List ℕ) (i : ℕ) → size ≤ i → Writing h from size l₀ l i
      → l ≡ over (entries_from h from size) l₀
  writing_all l i s W =
      let e : i ≡ size = omega (arith, W.low) in
      W.front ∙ ap (λ (j : ℕ). over (entries_from h from j) l₀) e

-- the same where the four tables of the hits stand in one list
pub writing_next : (h l₀ l : List ℕ) (from size i : ℕ) → from + size ≤ 1024 → 4 * size ≤ length l₀ → i < size
    → Writing (hits_at h) from size l₀ l i
    → Writing (hits_at h) from size l₀ (set (set (set (set l (4 * i) (get_or h (from + i) 0))
    (4 * i + 1) (get_or h (HIT-XS + (from + i)) 0)) (4 * i + 2) (get_or h (HIT-YS + (from + i)) 0))
    (4 * i + 3) (get_or h (HIT-TAGS + (from + i)) 0)) (i + 1)
writing_next h l₀ l from size i f s b W =
    let o : at (part 0 1024 h) (from + i) ≡ get_or h (from + i) 0 =
    part_at h 0 1024 (from + i) 0 (omega arith) ∙ ap (λ (k : ℕ). get_or h k 0) (zero-add (from + i)) in
    let x : at (part HIT-XS 1024 h) (from + i) ≡ get_or h (HIT-XS + (from + i)) 0 =
    part_at h HIT-XS 1024 (from + i) 0 (omega arith) in
    let y : at (part HIT-YS 1024 h) (from + i) ≡ get_or h (HIT-YS + (from + i)) 0 =
    part_at h HIT-YS 1024 (from + i) 0 (omega arith) in
    let m : at (part HIT-TAGS 1024 h) (from + i) ≡ get_or h (HIT-TAGS + (from + i)) 0 =
    part_at h HIT-TAGS 1024 (from + i) 0 (omega arith) in
    rw (← o, ← x, ← y, ← m) (writing_more (hits_at h) from size l₀ l i s b W)
