-- The four columns of the index in one list: one replaced leaves the others as they were, and so do stores to several.
use mathlib.Core.Path.{◌≡◌, refl, ap, ◌∙◌}
use mathlib.Core.List.{List}
use Prim.Native.Nat.{ℕ, ◌+◌, ◌<◌}
use native.Mathlib.Nat.{zero-add}
use native.Mathlib.Omega.{arith}
use lib.ListN.{length, set, length-set}
use Rattle.base.specs.Table.{at}
use Rattle.words.specs.Map.{INDEX-LOCKS, INDEX-CURRENT, INDEX-PREVIOUS, INDEX-SIZE}
use Rattle.words.specs.Part.{part, put}
use Rattle.words.proofs.Columns.{quarter_0, quarter_1, quarter_2, quarter_3}
use Rattle.words.proofs.Parts.{part_same, part_other, part_at, set_same, set_other}
use Rattle.index.specs.Index.{index_of, index_at, Entry, with_lock, put_entry}

-- the objects stand first
pub oid_at : (l : List ℕ) (i : ℕ) → i < 512 → at (part 0 512 l) i ≡ at l i
oid_at l i h = part_at l 0 512 i 0 h ∙ ap (at l) (zero-add i)

module _ (l : List ℕ) (l# : length l ≡ INDEX-SIZE) where
  -- the locks
  pub put_lock_lem : (v : List ℕ) → length v ≡ 512 → index_at (put INDEX-LOCKS 512 v l) ≡ with_lock (index_at l) v
  put_lock_lem v v# =
      let o = part_other l INDEX-LOCKS 512 (omega arith) v v# in
      λ j. index_of (o 0 512 refl j) (part_same l INDEX-LOCKS 512 (omega arith) v v# j) (o INDEX-CURRENT 512 refl j) (o INDEX-PREVIOUS 512 refl j)

  module _ (i : ℕ) (i< : i < 512) where
    -- the previous place, then the current one
    pub put_places_lem : (a b : ℕ) →
        index_at (set (set l (INDEX-PREVIOUS + i) a) (INDEX-CURRENT + i) b)
        ≡ index_of (part 0 512 l) (part INDEX-LOCKS 512 l) (set (part INDEX-CURRENT 512 l) i b) (set (part INDEX-PREVIOUS 512 l) i a)
    put_places_lem a b =
        let k : List ℕ = set l (INDEX-PREVIOUS + i) a in
        let k# : length k ≡ INDEX-SIZE = length-set l (INDEX-PREVIOUS + i) a ∙ l# in
        let o = set_other l INDEX-PREVIOUS 512 (omega arith) i i< a in
        let p = set_other k INDEX-CURRENT 512 (omega (arith, k#)) i i< b in
        let c = set_same k INDEX-CURRENT 512 (omega (arith, k#)) i i< b ∙ ap (λ (v : List ℕ). set v i b) (o INDEX-CURRENT 512 refl) in
        let q = p INDEX-PREVIOUS 512 refl ∙ set_same l INDEX-PREVIOUS 512 (omega arith) i i< a in
        λ j. index_of ((p 0 512 refl ∙ o 0 512 refl) j) ((p INDEX-LOCKS 512 refl ∙ o INDEX-LOCKS 512 refl) j) (c j) (q j)

    -- object and lock, then both places
    pub put_all : (k : ℕ) (e : Entry) →
        index_at (set (set (set (set l i k) (INDEX-LOCKS + i) e.lock) (INDEX-CURRENT + i) e.current) (INDEX-PREVIOUS + i) e.previous)
        ≡ put_entry (index_at l) i k e
    put_all k e =
        let o = quarter_0 l 512 i i< k e.lock e.current e.previous (omega arith) in
        let x = quarter_1 l 512 i i< k e.lock e.current e.previous (omega arith) in
        let y = quarter_2 l 512 i i< k e.lock e.current e.previous (omega arith) in
        let z = quarter_3 l 512 i i< k e.lock e.current e.previous (omega arith) in
        λ j. index_of (o j) (x j) (y j) (z j)

-- one number stored in one column
module _ (l : List ℕ) (l# : length l ≡ INDEX-SIZE) (i : ℕ) (h : i < 512) (x : ℕ) where
  pub lock_set :
      index_at (set l (INDEX-LOCKS + i) x)
      ≡ index_of (part 0 512 l) (set (part INDEX-LOCKS 512 l) i x) (part INDEX-CURRENT 512 l) (part INDEX-PREVIOUS 512 l)
  lock_set =
      let o = set_other l INDEX-LOCKS 512 (omega arith) i h x in
      let s = set_same l INDEX-LOCKS 512 (omega arith) i h x in
      λ j. index_of (o 0 512 refl j) (s j) (o INDEX-CURRENT 512 refl j) (o INDEX-PREVIOUS 512 refl j)

  pub current-set :
      index_at (set l (INDEX-CURRENT + i) x)
      ≡ index_of (part 0 512 l) (part INDEX-LOCKS 512 l) (set (part INDEX-CURRENT 512 l) i x) (part INDEX-PREVIOUS 512 l)
  current-set =
      let o = set_other l INDEX-CURRENT 512 (omega arith) i h x in
      let s = set_same l INDEX-CURRENT 512 (omega arith) i h x in
      λ j. index_of (o 0 512 refl j) (o INDEX-LOCKS 512 refl j) (s j) (o INDEX-PREVIOUS 512 refl j)

  pub previous_set :
      index_at (set l (INDEX-PREVIOUS + i) x)
      ≡ index_of (part 0 512 l) (part INDEX-LOCKS 512 l) (part INDEX-CURRENT 512 l) (set (part INDEX-PREVIOUS 512 l) i x)
  previous_set =
      let o = set_other l INDEX-PREVIOUS 512 (omega arith) i h x in
      let s = set_same l INDEX-PREVIOUS 512 (omega arith) i h x in
      λ j. index_of (o 0 512 refl j) (o INDEX-LOCKS 512 refl j) (o INDEX-CURRENT 512 refl j) (s j)
