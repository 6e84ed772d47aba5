-- THE LAWS OF THE POOL, all that the crates above use.
-- Taking and giving change the list of members by its last number, and everything follows from that equation.
use mathlib.Core.Path.{◌≡◌, refl, sym, ap, ◌∙◌}
use mathlib.Core.Logic.{◌≢◌, ⊎_elim}
use mathlib.Core.List.{List, [], ◌∷◌, ◌++◌}
use Prim.Native.Nat.{ℕ, suc, ◌+◌, ◌-◌, ◌<◌, ◌≤◌}
use native.Mathlib.Omega.{arith}
use native.Mathlib.Numerals.{add-one}
use lib.ListN.{length, set, length-set, length-append}
use lib.ListN as list
use lib.Seq.{get_or-set_same, take-suc, take-set-le, take-suc-set, length-take-le, take_at, get_or_at}
use borrow.Author.Tests.{eq-eqb, ne_eqb, lt-ltb, le-leb, eqb-true, eqb-false, ltb-true, leb-true, not-true}
use Rattle.base.specs.Lists.{In, here, in-none, Once, more, in-or, in_left, in_right, in-append, in_one, numbers_from}
use Rattle.base.proofs.Lists.{once_last, once_front, once_few, numbers_in, in_numbers, once_numbers, numbers-length, numbers_last}
use Rattle.base.specs.Outcome.{done}
use Rattle.base.proofs.Outcome.{need_done, need_true, done_one}
use Rattle.base.specs.Table.{at}
use Rattle.base.proofs.Table.{at_or}
use Rattle.pool.specs.Pool.{Took, height, with_height, members, Has, size, take_top, give, fresh, refill}

-- what a `done` says of the tests on the way
record Taking (pool : List ℕ) (t : Took) : Type 0 where
  pub sized : length pool ≡ 513
  pub some : height pool ≢ 0
  pub low : height pool ≤ 512
  pub below : at pool (height pool - 1) < 512
  pub is : (record { bucket = at pool (height pool - 1); pool = with_height pool (height pool - 1) }) ≡ t

taking : (pool : List ℕ) (t : Took) → take_top pool ≡ done t → Taking pool t
unfolding take_top
taking pool t e =
    let n₁ = need_done _ _ e in
    let n₂ = need_done _ _ n₁.1 in
    let n₃ = need_done _ _ n₂.1 in
    let n₄ = need_done _ _ n₃.1 in
    record {
      sized = eqb-true _ _ n₁.0;
      some = eqb-false _ _ (not-true _ n₂.0);
      low = leb-true _ _ n₃.0;
      below = ltb-true _ _ n₄.0;
      is = done_one n₄.1;
    }

record Giving (pool : List ℕ) (b : ℕ) (p : List ℕ) : Type 0 where
  pub sized : length pool ≡ 513
  pub below : b < 512
  pub room : height pool < 512
  pub is : with_height (set pool (height pool) b) (height pool + 1) ≡ p

giving : (pool : List ℕ) (b : ℕ) (p : List ℕ) → give pool b ≡ done p → Giving pool b p
unfolding give
giving pool b p e =
    let n₁ = need_done _ _ e in
    let n₂ = need_done _ _ n₁.1 in
    let n₃ = need_done _ _ n₂.1 in
    record { sized = eqb-true _ _ n₁.0; below = ltb-true _ _ n₂.0; room = ltb-true _ _ n₃.0; is = done_one n₃.1 }

-- the height after it was set, and the members then
height-set : (pool : List ℕ) (n : ℕ) → length pool ≡ 513 → height (with_height pool n) ≡ n
unfolding height with_height
height-set pool n e = get_or-set_same pool 512 n 0 (omega arith)

members-set : (pool : List ℕ) (n : ℕ) → length pool ≡ 513 → n ≤ 512 → members (with_height pool n) ≡ list.take n pool
unfolding members with_height
members-set pool n e h = rw (height-set pool n e) (take-set-le n pool 512 n h)

-- THE EQUATION of taking: the bucket handed out was the last member
take-members : (pool : List ℕ) (t : Took) → take_top pool ≡ done t → members pool ≡ members t.pool ++ t.bucket ∷ []
unfolding members
take-members pool t e =
    let T = taking pool t e in
    let h : ℕ = height pool - 1 in
    let up : height pool ≡ suc h = omega (arith, T.some) in
    let last : list.take (suc h) pool ≡ list.take h pool ++ at pool h ∷ [] = take-suc pool h 0 (omega (arith, T.sized, T.low, T.some)) in
    ap (λ (n : ℕ). list.take n pool) up ∙ last ∙ ap (λ (l : List ℕ). l ++ at pool h ∷ []) (sym (members-set pool h T.sized (omega (arith, T.low)))) ∙ ap (λ (u : Took). members u.pool ++ u.bucket ∷ []) T.is

-- and of giving: the bucket is the last member then
give_members : (pool : List ℕ) (b : ℕ) (p : List ℕ) → give pool b ≡ done p → members p ≡ members pool ++ b ∷ []
unfolding members
give_members pool b p e =
    let G = giving pool b p e in
    let h : ℕ = height pool in
    sym (ap members G.is) ∙ members-set (set pool h b) (h + 1) (length-set pool h b ∙ G.sized) (omega (arith, G.room)) ∙ rw (add-one h) (take-suc-set pool h b (omega (arith, G.sized, G.room)))

-- ---- the invariant: the table has its length and height, and no number is in the pool twice
pub record Sound (pool : List ℕ) : Type 0 where
  pub sized : length pool ≡ 513
  pub low : height pool ≤ 512
  pub once : Once (members pool)
  pub below : (b : ℕ) → Has pool b → b < 512

module _ (pool : List ℕ) (t : Took) (e : take_top pool ≡ done t) where
  -- what is handed out was in the pool
  pub take_had : Has pool t.bucket
  unfolding Has
  take_had = rw (take-members pool t e) (in_right (members t.pool) here)

  -- everything else is as before
  pub take_rest : (j : ℕ) → Has pool j → j ≢ t.bucket → Has t.pool j
  unfolding Has
  take_rest j i n =
      let i' : In j (members t.pool ++ t.bucket ∷ []) = rw (take-members pool t e) at i in
      ⊎_elim (λ (p : In j (members t.pool)). p) (λ (p : In j (t.bucket ∷ [])). absurd (n (in_one p))) (in-append (members t.pool) i')

  pub take_only : (j : ℕ) → Has t.pool j → Has pool j
  unfolding Has
  take_only j i = rw (take-members pool t e) (in_left (t.bucket ∷ []) i)

  -- there is one less
  pub take-size : size pool ≡ size t.pool + 1
  unfolding size
  take-size = ap length (take-members pool t e) ∙ length-append (members t.pool) (t.bucket ∷ [])

  -- its table keeps its length
  pub take-length : length t.pool ≡ length pool
  unfolding with_height
  take-length = let T = taking pool t e in sym (ap (λ (u : Took). length u.pool) T.is) ∙ length-set pool 512 (height pool - 1)

  pub take_below : t.bucket < 512
  take_below = let T = taking pool t e in rw (← (ap (λ (u : Took). u.bucket) T.is)) T.below

  module _ (S : Sound pool) where
    -- what is handed out is not in the pool afterwards
    pub take_gone : Has t.pool t.bucket → ⊥
    unfolding Has
    take_gone i = (once_front (members t.pool) (rw (take-members pool t e) at S.once)).1 i

    pub take_sound : Sound t.pool
    unfolding with_height
    take_sound =
        let T = taking pool t e in
        let is : with_height pool (height pool - 1) ≡ t.pool = ap (λ (u : Took). u.pool) T.is in
        record {
          sized = rw (← is) (length-set pool 512 (height pool - 1) ∙ S.sized);
          low = rw (← is, height-set pool (height pool - 1) S.sized) (omega (arith, S.low));
          once = (once_front (members t.pool) (rw (take-members pool t e) at S.once)).0;
          below = λ b i. S.below b (take_only b i);
        }

module _ (pool : List ℕ) (b : ℕ) (p : List ℕ) (e : give pool b ≡ done p) where
  -- what is given back is in the pool
  pub give_had : Has p b
  unfolding Has
  give_had = rw (give_members pool b p e) (in_right (members pool) here)

  -- everything else is as before
  pub give_keeps : (j : ℕ) → Has pool j → Has p j
  unfolding Has
  give_keeps j i = rw (give_members pool b p e) (in_left (b ∷ []) i)

  pub give_only : (j : ℕ) → Has p j → j ≢ b → Has pool j
  unfolding Has
  give_only j i n =
      let i' : In j (members pool ++ b ∷ []) = rw (give_members pool b p e) at i in
      ⊎_elim (λ (q : In j (members pool)). q) (λ (q : In j (b ∷ [])). absurd (n (in_one q))) (in-append (members pool) i')

  -- there is one more
  pub give_size : size p ≡ size pool + 1
  unfolding size
  give_size = ap length (give_members pool b p e) ∙ length-append (members pool) (b ∷ [])

  pub give-length : length p ≡ length pool
  unfolding with_height
  give-length = let G = giving pool b p e in sym (ap length G.is) ∙ length-set (set pool (height pool) b) 512 (height pool + 1) ∙ length-set pool (height pool) b

  pub give_sound : Sound pool → (Has pool b → ⊥) → Sound p
  unfolding with_height Has
  give_sound S n =
      let G = giving pool b p e in
      record {
        sized = rw (← G.is) (length-set (set pool (height pool) b) 512 (height pool + 1) ∙ length-set pool (height pool) b ∙ S.sized);
        low = rw (← G.is, height-set (set pool (height pool) b) (height pool + 1) (length-set pool (height pool) b ∙ S.sized)) (omega (arith, G.room));
        once = rw (give_members pool b p e) (once_last (members pool) S.once n);
        below = λ j i. at_or j b (λ q. omega (arith, G.below)) (λ q. S.below j (give_only j i q));
      }

-- ---- what is in it, as a list: each number once, and nothing else

pub record Content (pool l : List ℕ) : Type 0 where
  pub once : Once l
  pub many : size pool ≡ length l
  pub theirs : (b : ℕ) → In b l → Has pool b × (b < 512)
  pub all : (b : ℕ) → Has pool b → In b l

pub content : (pool : List ℕ) → Sound pool → (l : List ℕ) × Content pool l
unfolding Has size
content pool S = (members pool, record { once = S.once; many = refl; theirs = λ b i. (i, S.below b i); all = λ b i. i })

-- ---- when they succeed

in_length : {b : ℕ} (l : List ℕ) → In b l → 0 < length l
in_length [] i = absurd (in-none i)
in_length (x ∷ l) i = omega arith

size_height : (pool : List ℕ) → Sound pool → size pool ≡ height pool
unfolding size members
size_height pool S = length-take-le (height pool) pool (omega (arith, S.sized, S.low))

-- the top of the stack is a member
top_in : (pool : List ℕ) (h : ℕ) → height pool ≡ suc h → h < length pool → Has pool (at pool h)
unfolding Has members
top_in pool h e lt = rw (e, take-suc pool h 0 lt) (in_right (list.take h pool) here)

-- a pool that has a bucket is not empty
pub has_some : (pool : List ℕ) (b : ℕ) → Has pool b → 0 < size pool
unfolding Has size
has_some pool b i = in_length (members pool) i

-- a pool that has a bucket hands one out
pub take_some : (pool : List ℕ) → Sound pool → 0 < size pool → (t : Took) × (take_top pool ≡ done t)
unfolding take_top
take_some pool S h =
    let z : size pool ≡ height pool = size_height pool S in
    let some : height pool ≢ 0 = λ q. omega arith in
    let top : Has pool (at pool (height pool - 1)) = top_in pool (height pool - 1) (omega arith) (omega (arith, S.sized, S.low)) in (
      _,
      need_true _ _ (eq-eqb _ _ S.sized) ∙ need_true _ _ (rw (ne_eqb _ _ some)) ∙ need_true _ _ (le-leb _ _ S.low) ∙ need_true _ _ (lt-ltb _ _ (S.below _ top)),
    )

-- a bucket that is not in the pool can be given back: there is room for it
pub give_some : (pool : List ℕ) (b : ℕ) → Sound pool → b < 512 → (Has pool b → ⊥) → (p : List ℕ) × (give pool b ≡ done p)
unfolding give Has size
give_some pool b S h n =
    let few : length (b ∷ members pool) ≤ 512 = once_few 512 (b ∷ members pool) (more n S.once) (λ j i. ⊎_elim (λ (q : j ≡ b). omega arith) (λ (q : In j (members pool)). S.below j q) (in-or i)) in
    let room : height pool < 512 = room pool S few in
    (_, need_true _ _ (eq-eqb _ _ S.sized) ∙ need_true _ _ (lt-ltb _ _ h) ∙ need_true _ _ (lt-ltb _ _ room))
  where
    room : (pool : List ℕ) → Sound pool → suc (length (members pool)) ≤ 512 → height pool < 512
    room pool S few = omega (arith, size_height pool S)

-- ---- the fresh pool

fresh_split : fresh ≡ numbers_from 0 512 ++ 512 ∷ []
unfolding fresh
fresh_split = numbers_last 0 512

fresh_height : height fresh ≡ 512
unfolding height
fresh_height = rw fresh_split (get_or_at (numbers_from 0 512) 512 [] 0 512 (numbers-length 0 512))

fresh_members : members fresh ≡ numbers_from 0 512
unfolding members
fresh_members = ap (λ (n : ℕ). list.take n fresh) fresh_height ∙ ap (list.take 512) fresh_split ∙ take_at (numbers_from 0 512) (512 ∷ []) 512 (numbers-length 0 512)

pub fresh_sound : Sound fresh
unfolding fresh Has
fresh_sound =
    record {
      sized = numbers-length 0 513;
      low = omega (arith, fresh_height);
      once = rw fresh_members (once_numbers 0 512);
      below = λ b i. (in_numbers 0 512 b (rw fresh_members at i)).1;
    }

-- it has all 512 buckets and nothing else
pub fresh_has : (b : ℕ) → b < 512 → Has fresh b
unfolding Has
fresh_has b h = rw fresh_members (numbers_in 0 512 b (omega arith) h)

pub fresh_size : size fresh ≡ 512
unfolding size
fresh_size = ap length fresh_members ∙ numbers-length 0 512

pub refill_fresh : (pool p : List ℕ) → refill pool ≡ done p → p ≡ fresh
unfolding refill
refill_fresh pool p e = sym (done_one (need_done _ _ e).1)

pub refill_some : (pool : List ℕ) → length pool ≡ 513 → refill pool ≡ done fresh
unfolding refill
refill_some pool e = need_true _ _ (eq-eqb _ _ e)
