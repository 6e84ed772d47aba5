-- When the pool refuses: `take_refused` and `give_refused` say of a table of the right length exactly when `take` and `give` are corrupt.
-- Each has the tests on the way of `take` or `give`, turned round; where none of them fails, the way leads to a `done`.
use mathlib.Core.Path.{◌≡◌, refl}
use mathlib.Core.Bool.{Bool, true, false, not, ◌||◌, false≢true, true≢false}
use mathlib.Core.List.{List}
use Prim.Native.Nat.{ℕ, ◌+◌, ◌-◌, ◌<◌}
use lib.Dec.{eqb, ltb, leb}
use lib.ListN.{length, set}
use borrow.Author.Tests.{eq-eqb, lt-ltb, le-ltb, leb-true, leb-false}
use Rattle.base.specs.Outcome.{corrupt, done, need}
use Rattle.base.specs.Table.{at}
use Rattle.base.proofs.Table.{not_ltb, not_leb}
use Rattle.pool.specs.Pool.{Took, height, with_height, take_top, give, take_refused, give_refused}

module _ {A : Type 0} (k : A) where
  -- three tests on the way, one of which fails
  fails : (a b c : Bool) → (a || b || c) ≡ true → need (not a) (need (not b) (need (not c) (done k))) ≡ corrupt
  unfolding need
  fails true b c e = refl
  fails false true c e = refl
  fails false false true e = refl
  fails false false false e = absurd (false≢true e)

  -- none of which fails
  passes : (a b c : Bool) → (a || b || c) ≡ false → need (not a) (need (not b) (need (not c) (done k))) ≡ done k
  unfolding need
  passes true b c e = absurd (true≢false e)
  passes false true c e = absurd (true≢false e)
  passes false false true e = absurd (true≢false e)
  passes false false false e = refl

-- the bucket on top, and the pool without it
popped : List ℕ → Took
popped pool = record { bucket = at pool (height pool - 1); pool = with_height pool (height pool - 1) }

module _ (pool : List ℕ) (l : length pool ≡ 513) where
  -- the three tests of `take`, turned round
  take_is :
      take_top pool
      ≡ need (not (eqb (height pool) 0)) (need (not (ltb 512 (height pool))) (need (not (leb 512 (at pool (height pool - 1)))) (done (popped pool))))
  unfolding take_top popped need
  take_is = rw (eq-eqb (length pool) 513 l, not_ltb 512 (height pool), not_leb 512 (at pool (height pool - 1)))

  -- A bucket is not handed out where the pool is dry, its height over 512, or its top no bucket.
  pub take-refused : take_refused pool ≡ true → take_top pool ≡ corrupt
  unfolding take_refused
  take-refused e = rw take_is (fails (popped pool) (eqb (height pool) 0) (ltb 512 (height pool)) (leb 512 (at pool (height pool - 1))) e)

  -- Otherwise it is.
  pub take-accepted : take_refused pool ≡ false → (t : Took) × (take_top pool ≡ done t)
  unfolding take_refused
  take-accepted e = (popped pool, rw take_is (passes (popped pool) (eqb (height pool) 0) (ltb 512 (height pool)) (leb 512 (at pool (height pool - 1))) e))

  module _ (b : ℕ) (h : b < 512) where
    -- A bucket is not given back where the height is 512 or more.
    pub give_refused_lem : give_refused pool ≡ true → give pool b ≡ corrupt
    unfolding give give_refused need
    give_refused_lem e = rw (eq-eqb (length pool) 513 l, lt-ltb b 512 h, le-ltb (height pool) 512 (leb-true 512 (height pool) e))

    -- Otherwise it is.
    pub give_accepted : give_refused pool ≡ false → (p : List ℕ) × (give pool b ≡ done p)
    unfolding give give_refused need
    give_accepted e =
        (with_height (set pool (height pool) b) (height pool + 1), rw (eq-eqb (length pool) 513 l, lt-ltb b 512 h, lt-ltb (height pool) 512 (leb-false 512 (height pool) e)))
