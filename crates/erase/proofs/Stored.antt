-- What the stores of stage 7 leave in the words, table by table.
use mathlib.Core.Path.{◌≡◌, ap, ◌∙◌}
use mathlib.Core.Bool.{Bool}
use mathlib.Core.List.{List}
use Prim.Native.Nat.{ℕ, ◌+◌, ◌<◌}
use native.Mathlib.Omega.{arith}
use lib.IntN.{ℤ}
use lib.ListN.{length, set, length-set}
use Rattle.base.specs.Outcome.{Outcome}
use Rattle.words.specs.Map.{CELLS, INDEX, INDEX-LOCKS, INDEX-CURRENT, INDEX-PREVIOUS, INDEX-SIZE, WORDS, LOCKS, CURRENT, PREVIOUS}
use Rattle.layout.specs.Place.{nowhere}
use Rattle.slots.specs.Tuple.{sign}
use Rattle.tables.specs.Tables.{Tables, with_cells}
use Rattle.tables.specs.Grid.{grid}
use Rattle.tables.proofs.Grid.{set_cells, long, within}
use Rattle.tables.proofs.Entries.{put_lock, put_current, put_previous, set_lock, set-current, set_previous}
use Rattle.erase.specs.Erase.{erasing_of}
use Rattle.erase.specs.On.{erasing_in, put_erasing}
use Rattle.erase.proofs.Entries.{Sized}

abbrev freed : Tables → ℕ → Tables
freed t c = with_cells t (set t.cells c 0)

-- what stays in range of the words after two stores, and after three
module _ (w : List ℕ) (w# : length w ≡ WORDS) (a x b y n : ℕ) (h : n < WORDS) where
  pub after_two : n < length (set (set w a x) b y)
  after_two = omega (arith, length-set w a x, length-set (set w a x) b y)

  pub after_three : (c z : ℕ) → n < length (set (set (set w a x) b y) c z)
  after_three c z = omega (arith, length-set w a x, length-set (set w a x) b y, length-set (set (set w a x) b y) c z)

module _ (w : List ℕ) (ts : List ℤ) (w# : length w ≡ WORDS) where
  -- the sign is looked up at the stamps
  pub signed_in : (b s : ℕ) {o : Outcome Bool} → sign ts b s ≡ o → sign (grid w ts).tuples.time b s ≡ o
  unfolding grid
  signed_in b s e = e

  -- the tables have their lengths
  pub sized : Sized (erasing_in (grid w ts))
  unfolding grid
  sized =
      let i = within w w# INDEX INDEX-SIZE in
      record {
        locks = i INDEX-LOCKS 512 (omega arith) (omega arith);
        current = i INDEX-CURRENT 512 (omega arith) (omega arith);
        previous = i INDEX-PREVIOUS 512 (omega arith) (omega arith);
        cells = long w w# CELLS 256 (omega arith);
      }

-- the previous place is erased and the cell is free
module _ (w : List ℕ) (ts : List ℤ) (w# : length w ≡ WORDS) (i c : ℕ) (i< : i < 512) (c< : c < 256) where
  abbrev one : List ℕ
  one = set w (PREVIOUS + i) nowhere

  one# : length one ≡ WORDS
  one# = length-set w (PREVIOUS + i) nowhere ∙ w#

  pub stored_own : grid (set one (CELLS + c) 0) ts ≡ put_erasing (grid w ts) (erasing_of (grid w ts).index.lock (grid w ts).index.current (set (grid w ts).index.previous i nowhere) (set (grid w ts).cells c 0))
  stored_own = set_cells one ts one# c 0 c< ∙ ap (λ (t : Tables). freed t c) (set_previous w ts w# i nowhere i<)

  -- so is the lock of the object whose tuple moved
  module _ (j n : ℕ) (j< : j < 512) where
    abbrev two : List ℕ
    two = set one (LOCKS + j) 0

    two# : length two ≡ WORDS
    two# = length-set one (LOCKS + j) 0 ∙ one#

    abbrev three : List ℕ
    three = set two (CELLS + c) 0

    three# : length three ≡ WORDS
    three# = length-set two (CELLS + c) 0 ∙ two#

    abbrev after : Tables
    after = freed (put_lock (put_previous (grid w ts) i nowhere) j 0) c

    stored_three : grid three ts ≡ after
    stored_three =
        set_cells two ts two# c 0 c<
        ∙ ap (λ (t : Tables). freed t c) (set_lock one ts one# j 0 j< ∙ ap (λ (t : Tables). put_lock t j 0) (set_previous w ts w# i nowhere i<))

    -- which names the place as its current one
    pub stored_current : grid (set three (CURRENT + j) n) ts ≡ put_erasing (grid w ts) (erasing_of (set (grid w ts).index.lock j 0) (set (grid w ts).index.current j n) (set (grid w ts).index.previous i nowhere) (set (grid w ts).cells c 0))
    stored_current = set-current three ts three# j n j< ∙ ap (λ (t : Tables). put_current t j n) stored_three

    -- or as its previous one
    pub stored_previous : grid (set three (PREVIOUS + j) n) ts ≡ put_erasing (grid w ts) (erasing_of (set (grid w ts).index.lock j 0) (grid w ts).index.current (set (set (grid w ts).index.previous i nowhere) j n) (set (grid w ts).cells c 0))
    stored_previous = set_previous three ts three# j n j< ∙ ap (λ (t : Tables). put_previous t j n) stored_three
