-- The bucket pool: a stack of bucket numbers in entries 0 to 511, its height in entry 512.
-- Crates above use the laws of proofs/Laws.antt and do not unfold these definitions.
use Rattle.std.specs.Prelude.{Bool, not, ◌||◌, List, ℕ, ◌+◌, ◌-◌, eqb, ltb, leb, length, set}
use Rattle.std.proofs.Math.ListN as list
use Rattle.base.specs.Lists.{In, numbers_from}
use Rattle.base.specs.Outcome.{Outcome, done, need}
use Rattle.base.specs.Table.{at}

-- a bucket handed out, and the pool without it
pub record Took : Type 0 where
  pub bucket : ℕ
  pub pool : List ℕ

unfoldable pub height : List ℕ → ℕ
height pool = at pool 512

unfoldable pub with_height : List ℕ → ℕ → List ℕ
with_height pool n = set pool 512 n

-- the bucket numbers in the pool, found by walking the stack up to its height
unfoldable pub members : List ℕ → List ℕ
members pool = list.take (height pool) pool

-- bucket b is in the pool
unfoldable pub Has : List ℕ → ℕ → Type 0
Has pool b = In b (members pool)

-- how many there are, counted by walking
unfoldable pub size : List ℕ → ℕ
size pool = length (members pool)

-- the top of the stack; corrupt where the pool is dry or the height or the bucket out of range
unfoldable pub take_top : List ℕ → Outcome Took
take_top pool =
    need (eqb (length pool) 513)
    (need (not (eqb (height pool) 0))
    (need (leb (height pool) 512)
    (need (ltb (at pool (height pool - 1)) 512)
    (done (record { bucket = at pool (height pool - 1); pool = with_height pool (height pool - 1) })))))

-- a new top; corrupt where the pool is full or the height or the bucket out of range
unfoldable pub give : List ℕ → ℕ → Outcome (List ℕ)
give pool b =
    need (eqb (length pool) 513)
    (need (ltb b 512)
    (need (ltb (height pool) 512)
    (done (with_height (set pool (height pool) b) (height pool + 1)))))

-- what document 01 calls a dry store, or a number out of range where a bucket is taken
unfoldable pub take_refused : List ℕ → Bool
take_refused pool = eqb (height pool) 0 || ltb 512 (height pool) || leb 512 (at pool (height pool - 1))

-- a full pool, or a height out of range where a bucket is given back
unfoldable pub give_refused : List ℕ → Bool
give_refused pool = leb 512 (height pool)

-- All 512 buckets: entry i has the number i, and so entry 512 the height 512.
unfoldable pub fresh : List ℕ
fresh = numbers_from 0 513

-- make a table the fresh pool; corrupt where its length is wrong
unfoldable pub refill : List ℕ → Outcome (List ℕ)
refill pool = need (eqb (length pool) 513) (done fresh)
