-- What a replaced part leaves as it was: every part before it and behind it.
use mathlib.Core.Path.{◌≡◌, refl, sym, ap, ◌∙◌}
use mathlib.Core.Bool.{Bool, true, false, ◌||◌}
use mathlib.Core.List.{List, ◌++◌}
use Prim.Native.Nat.{ℕ, ◌+◌, ◌-◌, ◌≤◌, ◌<◌}
use native.Mathlib.Nat.{zero-add}
use native.Mathlib.Omega.{arith}
use lib.Dec.{leb}
use lib.ListN.{length, take, drop, set, get_or, length-set, length-drop, length-append, take-append-drop}
use lib.Seq.{length-take-le, take-append-le, drop-append-le, drop-drop, take-take, take_at, drop_at, get_or-drop, get_or-take, drop-set-add, take-set-le, set-append_left}
use borrow.Author.Tests.{leb-true}
use Rattle.std.proofs.lemmas.List.{drop-take, set-append_right}
use Rattle.words.specs.Part.{part, put, store}

module _ {A : Type 0} (l : List A) (a n : ℕ) (fits : a + n ≤ length l) where
  pub part_length : length (part a n l) ≡ n
  part_length = length-take-le n (drop a l) (omega (arith, length-drop a l))

  front : length (take a l) ≡ a
  front = length-take-le a l (omega arith)

  -- in front of a, whatever follows
  ahead : (b m : ℕ) → b + m ≤ a → (r : List A) → part b m (take a l ++ r) ≡ part b m (take a l)
  ahead b m h r =
      ap (take m) (drop-append-le b (take a l) r (omega (arith, front)))
      ∙ take-append-le m (drop b (take a l)) r (omega (arith, length-drop b (take a l), front))

  module _ (v : List A) where
    pub part_before : (b m : ℕ) → b + m ≤ a → part b m (put a n v l) ≡ part b m l
    part_before b m h = ahead b m h (v ++ drop n (drop a l)) ∙ sym (ahead b m h (drop a l)) ∙ ap (part b m) (take-append-drop a l)

    -- what comes back is as long as it was only if the part is
    pub put_fits : length (put a n v l) ≡ length l → length v ≡ n
    put_fits e = omega (arith, e, length-append (take a l) (v ++ drop n (drop a l)), front, length-append v (drop n (drop a l)), length-drop n (drop a l), length-drop a l)

    module _ (v# : length v ≡ n) where
      pub put-length : length (put a n v l) ≡ length l
      put-length = omega (arith, length-append (take a l) (v ++ drop n (drop a l)), front, length-append v (drop n (drop a l)), length-drop n (drop a l), length-drop a l)

      pub part_same : part a n (put a n v l) ≡ v
      part_same = ap (take n) (drop_at (take a l) (v ++ drop n (drop a l)) a front) ∙ take_at v (drop n (drop a l)) n v#

      behind : (k : ℕ) → drop (a + (n + k)) (put a n v l) ≡ drop (a + (n + k)) l
      behind k =
          sym (drop-drop (n + k) a (put a n v l))
          ∙ ap (drop (n + k)) (drop_at (take a l) (v ++ drop n (drop a l)) a front)
          ∙ sym (drop-drop k n (v ++ drop n (drop a l)))
          ∙ ap (drop k) (drop_at v (drop n (drop a l)) n v#)
          ∙ drop-drop k n (drop a l)
          ∙ drop-drop (n + k) a l

      pub rest_after : (b : ℕ) → a + n ≤ b → drop b (put a n v l) ≡ drop b l
      rest_after b h =
          let e : a + (n + (b - (a + n))) ≡ b = omega arith in
          ap (λ (k : ℕ). drop k (put a n v l)) (sym e) ∙ behind (b - (a + n)) ∙ ap (λ (k : ℕ). drop k l) e

      pub part_after : (b m : ℕ) → a + n ≤ b → part b m (put a n v l) ≡ part b m l
      part_after b m h = ap (take m) (rest_after b h)

      pub at_after : (b : ℕ) (d : A) → a + n ≤ b → get_or (put a n v l) b d ≡ get_or l b d
      at_after b d h =
          let e : b + 0 ≡ b = omega arith in
          ap (λ (k : ℕ). get_or (put a n v l) k d) (sym e) ∙ sym (get_or-drop b (put a n v l) 0 d) ∙ ap (λ (r : List A). get_or r 0 d) (rest_after b h) ∙ get_or-drop b l 0 d ∙ ap (λ (k : ℕ). get_or l k d) e

      -- either side, by a test that computes
      pub part_other : (b m : ℕ) → (leb (b + m) a || leb (a + n) b) ≡ true → part b m (put a n v l) ≡ part b m l
      part_other b m e = by (leb (b + m) a) refl e
        where
          by : (t : Bool) → leb (b + m) a ≡ t → (t || leb (a + n) b) ≡ true → part b m (put a n v l) ≡ part b m l
          by true q r = part_before b m (leb-true (b + m) a q)
          by false q r = part_after b m (leb-true (a + n) b r)

-- a part put back as it was
pub put_part : {A : Type 0} (l : List A) (a n : ℕ) → put a n (part a n l) l ≡ l
put_part l a n = ap (λ (r : List _). take a l ++ r) (take-append-drop n (drop a l)) ∙ take-append-drop a l

-- the same of a number that is stored in a part
module _ {A : Type 0} (l : List A) (a n : ℕ) (fits : a + n ≤ length l) (i : ℕ) (x : A) where
  long : length (set (part a n l) i x) ≡ n
  long = length-set (part a n l) i x ∙ part_length l a n fits

  pub store_length : length (store a n i x l) ≡ length l
  store_length = put-length l a n fits (set (part a n l) i x) long

  pub store_same : part a n (store a n i x l) ≡ set (part a n l) i x
  store_same = part_same l a n fits (set (part a n l) i x) long

  pub store_other : (b m : ℕ) → (leb (b + m) a || leb (a + n) b) ≡ true → part b m (store a n i x l) ≡ part b m l
  store_other b m e = part_other l a n fits (set (part a n l) i x) long b m e

-- a number stored behind a part, or in front of the rest
module _ {A : Type 0} (l : List A) (i : ℕ) (x : A) where
  pub part-set : (b m : ℕ) → b + m ≤ i → part b m (set l i x) ≡ part b m l
  part-set b m h =
      let e : b + (i - b) ≡ i = omega arith in
      ap (λ (k : ℕ). part b m (set l k x)) (sym e) ∙ ap (take m) (drop-set-add b l (i - b) x) ∙ take-set-le m (drop b l) (i - b) x (omega arith)

-- a number of a part is one of the whole
pub part_at : {A : Type 0} (l : List A) (a n i : ℕ) (d : A) → i < n → get_or (part a n l) i d ≡ get_or l (a + i) d
part_at l a n i d h = get_or-take n (drop a l) i d h ∙ get_or-drop a l i d

-- a number stored in a part that is put back, as the whole has it
pub put-set : {A : Type 0} (l v : List A) (a n i : ℕ) (x : A) → a ≤ length l → length v ≡ n → i < n → put a n (set v i x) l ≡ set (put a n v l) (a + i) x
put-set l v a n i x fits v# h =
    let rest = v ++ drop n (drop a l) in
    let z : a + i - a ≡ i = omega arith in
    sym (
    set-append_right (take a l) rest a (a + i) x (length-take-le a l fits) (omega arith)
    ∙ ap (λ (k : ℕ). take a l ++ set rest k x) z
    ∙ ap (λ (r : List _). take a l ++ r) (set-append_left v (drop n (drop a l)) i x (omega arith))
    )

pub store-set : {A : Type 0} (l : List A) (a n i : ℕ) (x : A) → a + n ≤ length l → i < n → store a n i x l ≡ set l (a + i) x
store-set l a n i x fits h = put-set l (part a n l) a n i x (omega arith) (part_length l a n fits) h ∙ ap (λ (r : List _). set r (a + i) x) (put_part l a n)

-- a number stored in the whole, where it stands in a part: that part has it, and what lies beside the part is as it was
module _ {A : Type 0} (l : List A) (a n : ℕ) (fits : a + n ≤ length l) (i : ℕ) (h : i < n) (x : A) where
  pub set_same : part a n (set l (a + i) x) ≡ set (part a n l) i x
  set_same = ap (part a n) (sym (store-set l a n i x fits h)) ∙ store_same l a n fits i x

  pub set_other : (b m : ℕ) → (leb (b + m) a || leb (a + n) b) ≡ true → part b m (set l (a + i) x) ≡ part b m l
  set_other b m e = ap (part b m) (sym (store-set l a n i x fits h)) ∙ store_other l a n fits i x b m e

  pub set_before : (b m : ℕ) → b + m ≤ a → part b m (set l (a + i) x) ≡ part b m l
  set_before b m k = ap (part b m) (sym (store-set l a n i x fits h)) ∙ part_before l a n fits (set (part a n l) i x) b m k

  pub set_after : (b m : ℕ) → a + n ≤ b → part b m (set l (a + i) x) ≡ part b m l
  set_after b m k =
      ap (part b m) (sym (store-set l a n i x fits h))
      ∙ part_after l a n fits (set (part a n l) i x) (length-set (part a n l) i x ∙ part_length l a n fits) b m k

-- a part of a part
pub part_part : {A : Type 0} (l : List A) (a n b m : ℕ) → a + n ≤ length l → b + m ≤ n → part b m (part a n l) ≡ part (a + b) m l
part_part l a n b m fits h =
    let e : b + (n - b) ≡ n = omega arith in
    ap (λ (k : ℕ). part b m (take k (drop a l))) (sym e)
    ∙ ap (take m) (drop-take b (n - b) (drop a l))
    ∙ take-take m (n - b) (drop b (drop a l)) (omega arith)
    ∙ ap (take m) (drop-drop b a l)

-- a number of a part's first part, too
pub first_at : {A : Type 0} (l : List A) (a n m i : ℕ) (d : A) → m ≤ n → i < m → get_or (part 0 m (part a n l)) i d ≡ get_or l (a + i) d
first_at l a n m i d h k =
    part_at (part a n l) 0 m i d k ∙ ap (λ (j : ℕ). get_or (part a n l) j d) (zero-add i) ∙ part_at l a n i d (omega arith)
