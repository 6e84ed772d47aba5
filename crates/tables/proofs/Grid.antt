-- The tables in the words: one replaced leaves the others as they were, and the lengths are right exactly if those of the two lists are.
use mathlib.Core.Path.{◌≡◌, refl, sym, ap, ◌∙◌}
use mathlib.Core.Logic.{◌≢◌}
use mathlib.Core.Bool.{Bool, true, false, cond, ◌&&◌, ◌||◌}
use mathlib.Core.List.{List}
use Prim.Native.Nat.{ℕ, ◌+◌, ◌≤◌, ◌<◌}
use native.Mathlib.Nat.{zero-add}
use native.Mathlib.Omega.{arith}
use lib.Dec.{eqb, leb}
use lib.IntN.{ℤ}
use lib.ListN.{length, set, get_or, drop, length-set, length-drop}
use lib.Seq.{drop-set-lt, get_or-set_same, take_all}
use borrow.Author.Tests.{eqb-true, eqb-false}
use Rattle.base.specs.Table.{at}
use Rattle.base.proofs.Table.{by_test, clash}
use Rattle.words.specs.Map.{CELLS, FIRST, COUNT, NEXT, READERS, TUPLES, TUPLE-XS, TUPLE-YS, TUPLE-TAGS, TUPLES-SIZE, INDEX, INDEX-LOCKS, INDEX-CURRENT, INDEX-PREVIOUS, INDEX-SIZE, HITS, HIT-XS, HIT-YS, HIT-TAGS, HITS-SIZE, CLOCK, POOL, WORDS, TIMES}
use Rattle.words.specs.Part.{part, put}
use Rattle.words.specs.Words.{cells_in, first_in, count_in, next_in, clock_in, pool_in, put_readers, put_hits}
use Rattle.words.proofs.Parts.{part_length, put-length, part_same, part_other, part_before, part_at, rest_after, at_after, part-set, store-set}
use Rattle.slots.specs.Tuple.{tuples_at}
use Rattle.index.specs.Index.{index_at}
use Rattle.hits.specs.Hits.{hits_at}
use Rattle.tables.specs.Tables.{tables_of, with_cells, with_first, with_count, with_next, with_readers, with_tuples, with_index, with_pool, with_hits, with_clock, right_cells, right_tuples, right_index, right_hits, right_lengths}
use Rattle.tables.proofs.Sized.{lengths}
use Rattle.tables.specs.Grid.{grid, right_words}

and_true : (p q : Bool) → (p && q) ≡ true → (p ≡ true) × (q ≡ true)
and_true true q e = (refl, e)
and_true false q e = clash (cc)

module _ (w : List ℕ) (w# : length w ≡ WORDS) where
  -- A part that ends before the clock is replaced by one as long.
  module _ (a n : ℕ) (low : a + n ≤ CLOCK) (v : List ℕ) (v# : length v ≡ n) where
    fits : a + n ≤ length w
    fits = omega arith

    -- a room is that part, or is as it was
    abbrev room : ℕ → ℕ → List ℕ
    room b m = cond (eqb a b && eqb n m) v (part b m w)

    -- it is that part, or lies beside it: a test that computes
    abbrev clear : ℕ → ℕ → Type 0
    clear b m = ((eqb a b && eqb n m) || (leb (b + m) a || leb (a + n) b)) ≡ true

    stands : (b m : ℕ) → clear b m → part b m (put a n v w) ≡ room b m
    stands b m e =
        by_test (eqb a b && eqb n m)
        (λ p. rw p (let q = and_true (eqb a b) (eqb n m) p in ap (λ (k : ℕ). part k m (put a n v w)) (sym (eqb-true a b q.0)) ∙ ap (λ (k : ℕ). part a k (put a n v w)) (sym (eqb-true n m q.1)) ∙ part_same w a n fits v v#))
        (λ p. rw p (part_other w a n fits v v# b m (rw p at e)))

    pub put_room : (ts : List ℤ) → clear FIRST 256 → clear CELLS 256 → clear COUNT 512 → clear NEXT 512 → clear READERS 512 → clear TUPLES TUPLES-SIZE → clear INDEX INDEX-SIZE → clear HITS HITS-SIZE →
        grid (put a n v w) ts ≡ tables_of (room FIRST 256) (room CELLS 256) (room COUNT 512) (room NEXT 512) (room READERS 512) (tuples_at (room TUPLES TUPLES-SIZE) ts) (index_at (room INDEX INDEX-SIZE)) (pool_in w) (hits_at (room HITS HITS-SIZE)) (clock_in w)
    unfolding grid
    put_room ts f l c k r d x h =
        λ j. tables_of (stands FIRST 256 f j) (stands CELLS 256 l j) (stands COUNT 512 c j) (stands NEXT 512 k j) (stands READERS 512 r j) (tuples_at (stands TUPLES TUPLES-SIZE d j) ts) (index_at (stands INDEX INDEX-SIZE x j))
        (rest_after w a n fits v v# POOL (omega arith) j) (hits_at (stands HITS HITS-SIZE h j)) (at_after w a n fits v v# CLOCK 0 low j)

  -- the pool, which ends with the words, as it is lent
  pub pool_part : part POOL 513 w ≡ pool_in w
  pool_part = take_all 513 (drop POOL w) (omega (arith, length-drop POOL w))

module _ (w : List ℕ) (ts : List ℤ) (w# : length w ≡ WORDS) where
  pub put_cells_lem : (v : List ℕ) → length v ≡ 256 → grid (put CELLS 256 v w) ts ≡ with_cells (grid w ts) v
  unfolding grid
  put_cells_lem v v# = put_room w w# CELLS 256 (omega arith) v v# ts refl refl refl refl refl refl refl refl

  pub put_first : (v : List ℕ) → length v ≡ 256 → grid (put FIRST 256 v w) ts ≡ with_first (grid w ts) v
  unfolding grid
  put_first v v# = put_room w w# FIRST 256 (omega arith) v v# ts refl refl refl refl refl refl refl refl

  pub put_count : (v : List ℕ) → length v ≡ 512 → grid (put COUNT 512 v w) ts ≡ with_count (grid w ts) v
  unfolding grid
  put_count v v# = put_room w w# COUNT 512 (omega arith) v v# ts refl refl refl refl refl refl refl refl

  pub put_next : (v : List ℕ) → length v ≡ 512 → grid (put NEXT 512 v w) ts ≡ with_next (grid w ts) v
  unfolding grid
  put_next v v# = put_room w w# NEXT 512 (omega arith) v v# ts refl refl refl refl refl refl refl refl

  pub put_readers_lem : (v : List ℕ) → length v ≡ 512 → grid (put_readers w v) ts ≡ with_readers (grid w ts) v
  unfolding grid
  put_readers_lem v v# = put_room w w# READERS 512 (omega arith) v v# ts refl refl refl refl refl refl refl refl

  -- the stamps change with the tuples
  pub put_tuples : (v : List ℕ) (ts' : List ℤ) → length v ≡ TUPLES-SIZE → grid (put TUPLES TUPLES-SIZE v w) ts' ≡ with_tuples (grid w ts) (tuples_at v ts')
  unfolding grid
  put_tuples v ts' v# = put_room w w# TUPLES TUPLES-SIZE (omega arith) v v# ts' refl refl refl refl refl refl refl refl

  pub put_index_lem : (v : List ℕ) → length v ≡ 2048 → grid (put INDEX INDEX-SIZE v w) ts ≡ with_index (grid w ts) (index_at v)
  unfolding grid
  put_index_lem v v# = put_room w w# INDEX INDEX-SIZE (omega arith) v v# ts refl refl refl refl refl refl refl refl

  pub put_hits_lem : (v : List ℕ) → length v ≡ HITS-SIZE → grid (put_hits w v) ts ≡ with_hits (grid w ts) (hits_at v)
  unfolding grid
  put_hits_lem v v# = put_room w w# HITS HITS-SIZE (omega arith) v v# ts refl refl refl refl refl refl refl refl

  pub put_pool : (v : List ℕ) → length v ≡ 513 → grid (put POOL 513 v w) ts ≡ with_pool (grid w ts) v
  unfolding grid
  put_pool v v# =
      let w' = put POOL 513 v w in
      let w'# : length w' ≡ WORDS = put-length w POOL 513 (omega arith) v v# ∙ w# in
      let o = part_before w POOL 513 (omega arith) v in
      let c : clock_in w' ≡ clock_in w = sym (part_at w' 0 POOL CLOCK 0 (omega arith)) ∙ ap (λ (l : List ℕ). get_or l CLOCK 0) (o 0 POOL (omega arith)) ∙ part_at w 0 POOL CLOCK 0 (omega arith) in
      let p : pool_in w' ≡ v = sym (pool_part w' w'#) ∙ part_same w POOL 513 (omega arith) v v# in
      λ j. tables_of (o FIRST 256 (omega arith) j) (o CELLS 256 (omega arith) j) (o COUNT 512 (omega arith) j) (o NEXT 512 (omega arith) j) (o READERS 512 (omega arith) j)
      (tuples_at (o TUPLES TUPLES-SIZE (omega arith) j) ts) (index_at (o INDEX INDEX-SIZE (omega arith) j)) (p j) (hits_at (o HITS HITS-SIZE (omega arith) j)) (c j)

  -- one number stored where a room has it
  module _ (i x : ℕ) where
    stored : (a n : ℕ) → a + n ≤ WORDS → i < n → grid (set w (a + i) x) ts ≡ grid (put a n (set (part a n w) i x) w) ts
    stored a n h k = ap (λ (l : List ℕ). grid l ts) (sym (store-set w a n i x (omega arith) k))

    longer : (a n : ℕ) → a + n ≤ WORDS → length (set (part a n w) i x) ≡ n
    longer a n h = length-set (part a n w) i x ∙ part_length w a n (omega arith)

    pub set_cells : i < 256 → grid (set w (CELLS + i) x) ts ≡ with_cells (grid w ts) (set (grid w ts).cells i x)
    unfolding grid
    set_cells h = stored CELLS 256 (omega arith) h ∙ put_cells_lem (set (cells_in w) i x) (longer CELLS 256 (omega arith))

    pub set_first : i < 256 → grid (set w (FIRST + i) x) ts ≡ with_first (grid w ts) (set (grid w ts).first i x)
    unfolding grid
    set_first h = stored FIRST 256 (omega arith) h ∙ put_first (set (first_in w) i x) (longer FIRST 256 (omega arith))

    pub set_count : i < 512 → grid (set w (COUNT + i) x) ts ≡ with_count (grid w ts) (set (grid w ts).count i x)
    unfolding grid
    set_count h = stored COUNT 512 (omega arith) h ∙ put_count (set (count_in w) i x) (longer COUNT 512 (omega arith))

    pub set_next : i < 512 → grid (set w (NEXT + i) x) ts ≡ with_next (grid w ts) (set (grid w ts).next i x)
    unfolding grid
    set_next h = stored NEXT 512 (omega arith) h ∙ put_next (set (next_in w) i x) (longer NEXT 512 (omega arith))

  -- the pool as it is lent
  pub pool_lent : part POOL 513 w ≡ (grid w ts).pool
  unfolding grid
  pool_lent = pool_part w w#

-- a table's number is one of the words
module _ (w : List ℕ) (ts : List ℤ) (i : ℕ) where
  pub cells_at : i < 256 → at (grid w ts).cells i ≡ at w (CELLS + i)
  unfolding grid
  cells_at h = part_at w CELLS 256 i 0 h

  pub first_at : i < 256 → at (grid w ts).first i ≡ at w (FIRST + i)
  unfolding grid
  first_at h = part_at w FIRST 256 i 0 h

  pub count_at : i < 512 → at (grid w ts).count i ≡ at w (COUNT + i)
  unfolding grid
  count_at h = part_at w COUNT 512 i 0 h

  pub next_at : i < 512 → at (grid w ts).next i ≡ at w (NEXT + i)
  unfolding grid
  next_at h = part_at w NEXT 512 i 0 h

  pub readers_at : i < 512 → at (grid w ts).readers i ≡ at w (READERS + i)
  unfolding grid
  readers_at h = part_at w READERS 512 i 0 h

  pub owner_at : i < 2048 → at (grid w ts).tuples.oid i ≡ at w (TUPLES + i)
  unfolding grid
  owner_at h = part_at (part TUPLES TUPLES-SIZE w) 0 2048 i 0 h ∙ ap (at (part TUPLES TUPLES-SIZE w)) (zero-add i) ∙ part_at w TUPLES TUPLES-SIZE i 0 (omega arith)

pub clock_at : (w : List ℕ) (ts : List ℤ) → (grid w ts).clock ≡ at w CLOCK
unfolding grid
clock_at w ts = refl

-- the clock alone is stored to
pub set_clock : (w : List ℕ) (ts : List ℤ) → length w ≡ WORDS → (v : ℕ) → grid (set w CLOCK v) ts ≡ with_clock (grid w ts) v
unfolding grid
set_clock w ts w# v =
    let o = part-set w CLOCK v in
    λ j. tables_of (o FIRST 256 (omega arith) j) (o CELLS 256 (omega arith) j) (o COUNT 512 (omega arith) j) (o NEXT 512 (omega arith) j) (o READERS 512 (omega arith) j)
    (tuples_at (o TUPLES TUPLES-SIZE (omega arith) j) ts) (index_at (o INDEX INDEX-SIZE (omega arith) j)) (drop-set-lt POOL w CLOCK v (omega arith) j) (hits_at (o HITS HITS-SIZE (omega arith) j)) (get_or-set_same w CLOCK v 0 (omega arith) j)

-- ---- lengths

-- a part of a part, of the words that are all there
module _ (w : List ℕ) (w# : length w ≡ WORDS) where
  pub long : (a n : ℕ) → a + n ≤ WORDS → length (part a n w) ≡ n
  long a n h = part_length w a n (omega arith)

  pub within : (a n b m : ℕ) → a + n ≤ WORDS → b + m ≤ n → length (part b m (part a n w)) ≡ m
  within a n b m h k = part_length (part a n w) b m (omega (arith, long a n h))

-- the words and the stamps are all there
pub right_words_lem : (w : List ℕ) (ts : List ℤ) → length w ≡ WORDS → length ts ≡ TIMES → right_lengths (grid w ts) ≡ true
unfolding right_lengths right_cells right_tuples right_index right_hits grid
right_words_lem w ts w# t# =
    let l = long w w# in
    let i = within w w# in
    let p : length (pool_in w) ≡ 513 = omega (arith, length-drop POOL w) in
    λ j. right_cells (l FIRST 256 (omega arith) j) (l CELLS 256 (omega arith) j) (l COUNT 512 (omega arith) j) (l NEXT 512 (omega arith) j) (l READERS 512 (omega arith) j)
    && right_tuples (i TUPLES TUPLES-SIZE 0 2048 (omega arith) (omega arith) j) (i TUPLES TUPLES-SIZE TUPLE-XS 2048 (omega arith) (omega arith) j) (i TUPLES TUPLES-SIZE TUPLE-YS 2048 (omega arith) (omega arith) j) (i TUPLES TUPLES-SIZE TUPLE-TAGS 2048 (omega arith) (omega arith) j) (t# j)
    && right_index (i INDEX INDEX-SIZE 0 512 (omega arith) (omega arith) j) (i INDEX INDEX-SIZE INDEX-LOCKS 512 (omega arith) (omega arith) j) (i INDEX INDEX-SIZE INDEX-CURRENT 512 (omega arith) (omega arith) j) (i INDEX INDEX-SIZE INDEX-PREVIOUS 512 (omega arith) (omega arith) j)
    && right_hits (p j) (i HITS HITS-SIZE 0 1024 (omega arith) (omega arith) j) (i HITS HITS-SIZE HIT-XS 1024 (omega arith) (omega arith) j) (i HITS HITS-SIZE HIT-YS 1024 (omega arith) (omega arith) j) (i HITS HITS-SIZE HIT-TAGS 1024 (omega arith) (omega arith) j)

-- there are more or fewer words: the pool tells
pub wrong_words : (w : List ℕ) (ts : List ℤ) → length w ≢ WORDS → right_lengths (grid w ts) ≡ false
unfolding grid
wrong_words w ts h = by_test (right_lengths (grid w ts)) (λ e. absurd (h (omega (arith, (lengths (grid w ts) e).pool, length-drop POOL w)))) (λ e. e)

-- more or fewer stamps
pub wrong_times : (w : List ℕ) (ts : List ℤ) → length ts ≢ 2048 → right_lengths (grid w ts) ≡ false
unfolding grid
wrong_times w ts h = by_test (right_lengths (grid w ts)) (λ e. absurd (h (lengths (grid w ts) e).times)) (λ e. e)

-- so the two lengths tell
pub grid_lengths : (w : List ℕ) (ts : List ℤ) → right_words (length w) (length ts) ≡ right_lengths (grid w ts)
unfolding right_words
grid_lengths w ts =
    by_test (eqb (length w) WORDS)
    (λ a. by_test (eqb (length ts) 2048)
    (λ b. rw (a, b) (sym (right_words_lem w ts (eqb-true (length w) WORDS a) (eqb-true (length ts) 2048 b))))
    (λ b. rw (a, b) (sym (wrong_times w ts (eqb-false (length ts) 2048 b)))))
    (λ a. rw a (sym (wrong_words w ts (eqb-false (length w) WORDS a))))

pub words_said : (w : List ℕ) (ts : List ℤ) → right_lengths (grid w ts) ≡ true → (length w ≡ WORDS) × (length ts ≡ TIMES)
unfolding grid
words_said w ts e = let s = lengths (grid w ts) e in (omega (arith, s.pool, length-drop POOL w), s.times)
