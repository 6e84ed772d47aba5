-- The object index in the words: a number stored in one of its columns, the objects that a search looks at, and the lengths.
use mathlib.Core.Path.{◌≡◌, sym, ap, ◌∙◌}
use mathlib.Core.List.{List}
use Prim.Native.Nat.{ℕ, ◌+◌, ◌<◌}
use native.Mathlib.Omega.{arith}
use lib.IntN.{ℤ}
use lib.ListN.{length, set, length-set}
use Rattle.words.specs.Map.{INDEX, INDEX-LOCKS, INDEX-CURRENT, INDEX-PREVIOUS, INDEX-SIZE, LOCKS, CURRENT, PREVIOUS, WORDS}
use Rattle.words.specs.Part.{part}
use Rattle.words.specs.Words.{index_in}
use Rattle.words.proofs.Parts.{part_length, part_part, store-set}
use Rattle.index.specs.Index.{index_at}
use Rattle.index.specs.Search.{search as sought}
use Rattle.index.specs.declared.search.Search.{Search}
use Rattle.index.proofs.Room.{lock_set, current-set, previous_set}
use Rattle.tables.specs.Tables.{Tables, with_index, with_entries}
use Rattle.tables.specs.Grid.{grid}
use Rattle.tables.proofs.Grid.{put_index_lem}

-- one number of one column replaced
abbrev pub put_lock : Tables → ℕ → ℕ → Tables
put_lock t i x = with_entries t (set t.index.lock i x) t.index.current t.index.previous

abbrev pub put_current : Tables → ℕ → ℕ → Tables
put_current t i x = with_entries t t.index.lock (set t.index.current i x) t.index.previous

abbrev pub put_previous : Tables → ℕ → ℕ → Tables
put_previous t i x = with_entries t t.index.lock t.index.current (set t.index.previous i x)

module _ (w : List ℕ) (ts : List ℤ) (w# : length w ≡ WORDS) where
  index# : length (index_in w) ≡ INDEX-SIZE
  index# = part_length w INDEX INDEX-SIZE (omega arith)

  index_set : (k x : ℕ) → k < INDEX-SIZE → grid (set w (INDEX + k) x) ts ≡ with_index (grid w ts) (index_at (set (index_in w) k x))
  index_set k x h =
      ap (λ (l : List ℕ). grid l ts) (sym (store-set w INDEX INDEX-SIZE k x (omega arith) h))
      ∙ put_index_lem w ts w# (set (index_in w) k x) (length-set (index_in w) k x ∙ index#)

  module _ (i x : ℕ) (h : i < 512) where
    pub set_lock : grid (set w (LOCKS + i) x) ts ≡ put_lock (grid w ts) i x
    unfolding grid
    set_lock =
        let e : LOCKS + i ≡ INDEX + (INDEX-LOCKS + i) = omega arith in
        ap (λ (n : ℕ). grid (set w n x) ts) e
        ∙ index_set (INDEX-LOCKS + i) x (omega arith)
        ∙ ap (with_index (grid w ts)) (lock_set (index_in w) index# i h x)

    pub set-current : grid (set w (CURRENT + i) x) ts ≡ put_current (grid w ts) i x
    unfolding grid
    set-current =
        let e : CURRENT + i ≡ INDEX + (INDEX-CURRENT + i) = omega arith in
        ap (λ (n : ℕ). grid (set w n x) ts) e
        ∙ index_set (INDEX-CURRENT + i) x (omega arith)
        ∙ ap (with_index (grid w ts)) (current-set (index_in w) index# i h x)

    pub set_previous : grid (set w (PREVIOUS + i) x) ts ≡ put_previous (grid w ts) i x
    unfolding grid
    set_previous =
        let e : PREVIOUS + i ≡ INDEX + (INDEX-PREVIOUS + i) = omega arith in
        ap (λ (n : ℕ). grid (set w n x) ts) e
        ∙ index_set (INDEX-PREVIOUS + i) x (omega arith)
        ∙ ap (with_index (grid w ts)) (previous_set (index_in w) index# i h x)

  -- the objects as they are lent
  pub oids_lent : (grid w ts).index.oid ≡ part INDEX 512 w
  unfolding grid
  oids_lent = part_part w INDEX INDEX-SIZE 0 512 (omega arith) (omega arith)

  -- the search looks at them
  pub seeks : (k : ℕ) (r : Search) → r ≡ sought (part INDEX 512 w) k → sought (grid w ts).index.oid k ≡ r
  seeks k r e = ap (λ (l : List ℕ). sought l k) oids_lent ∙ sym e

  -- the current places as they are lent
  pub current_lent : (grid w ts).index.current ≡ part CURRENT 512 w
  unfolding grid
  current_lent = part_part w INDEX INDEX-SIZE INDEX-CURRENT 512 (omega arith) (omega arith)
