-- What the stores of an operation on chains leave in the words, table by table.
use mathlib.Core.Path.{◌≡◌, sym, ap, ◌∙◌}
use mathlib.Core.List.{List}
use Prim.Native.Nat.{ℕ, ◌+◌, ◌<◌}
use native.Mathlib.Omega.{arith}
use lib.IntN.{ℤ}
use lib.ListN.{length, set, length-set}
use Rattle.base.specs.Table.{at}
use Rattle.words.specs.Map.{FIRST, COUNT, NEXT, TUPLES, TUPLES-SIZE, POOL, WORDS}
use Rattle.words.specs.Part.{part, put}
use Rattle.words.proofs.Parts.{part_length, put-length}
use Rattle.tables.specs.Tables.{Tables, with_first, with_count, with_next, with_pool}
use Rattle.tables.specs.Grid.{grid}
use Rattle.tables.proofs.Grid.{put_pool, first_at, set_first, set_count, set_next}
use Rattle.cells.specs.On.{linked}

module _ (w : List ℕ) (w# : length w ≡ WORDS) where
  -- the first bucket is unlinked
  pub stored_unlink : (ts : List ℤ) (c b m : ℕ) → c < 256 → b < 512 → grid (set (set w (FIRST + c) m) (COUNT + b) 0) ts ≡ with_count (with_first (grid w ts) (set (grid w ts).first c m)) (set (grid w ts).count b 0)
  stored_unlink ts c b m c< b< =
      set_count (set w (FIRST + c) m) ts (length-set w (FIRST + c) m ∙ w#) b 0 b<
      ∙ ap (λ (t : Tables). with_count t (set t.count b 0)) (set_first w ts w# c m c<)

  -- tuples that come back are as many as were lent
  pub tuples# : (v : List ℕ) → length v ≡ length (part TUPLES TUPLES-SIZE w) → length v ≡ TUPLES-SIZE
  tuples# v k = k ∙ part_length w TUPLES TUPLES-SIZE (omega arith)

  pub count# : length (part COUNT 512 w) ≡ 512
  count# = part_length w COUNT 512 (omega arith)

  module _ (p : List ℕ) (k : length p ≡ length (part POOL 513 w)) where
    pub pool# : length p ≡ 513
    pool# = k ∙ part_length w POOL 513 (omega arith)

    pub lent# : length (put POOL 513 p w) ≡ WORDS
    lent# = put-length w POOL 513 (omega arith) p pool# ∙ w#

    pub stored_pool : (ts : List ℤ) → grid (put POOL 513 p w) ts ≡ with_pool (grid w ts) p
    stored_pool ts = put_pool w ts w# p pool#

  -- an empty bucket is put first
  module _ (c b m : ℕ) where
    abbrev one : List ℕ
    one = set w (COUNT + b) 0

    abbrev two : List ℕ
    two = set one (NEXT + b) m

    pub one# : length one ≡ WORDS
    one# = length-set w (COUNT + b) 0 ∙ w#

    pub two# : length two ≡ WORDS
    two# = length-set one (NEXT + b) m ∙ one#

    pub stored_link : (ts : List ℤ) → at w (FIRST + c) ≡ m → c < 256 → b < 512 → grid (set two (FIRST + c) b) ts ≡ linked (grid w ts) c b
    stored_link ts e c< b< =
        set_first two ts two# c b c<
        ∙ ap (λ (t : Tables). with_first t (set t.first c b))
        (set_next one ts one# b m b<
        ∙ ap (λ (t : Tables). with_next t (set t.next b m)) (set_count w ts w# b 0 b<)
        ∙ ap (λ (n : ℕ). with_next (with_count (grid w ts) (set (grid w ts).count b 0)) (set (grid w ts).next b n)) (sym e ∙ sym (first_at w ts c c<)))
