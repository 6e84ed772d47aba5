-- The number of a step, read off its definition. A step is a nest of tests; each law below moves the number past one of them, so that
-- `simp tests` leaves a nest of `pick` over numbers. The number of the first cause is such a nest as well.
use mathlib.Core.Path.{◌≡◌, refl}
use mathlib.Core.Bool.{Bool, true, false, not, ◌&&◌, not-not}
use Prim.Native.Nat.{ℕ}
use Rattle.base.specs.Outcome.{Outcome, corrupt, blocked, done, need, awaits, pick, and_then}
use Rattle.base.specs.Step.{Step, lift}
use Rattle.base.proofs.Table.{not_ltb, not_leb}

-- the number of a step: broken tables 12, blocked 20, else its own
unfoldable pub number_of : {S B : Type 0} → Outcome (Step S B) → ℕ
number_of corrupt = 12
number_of blocked = 20
number_of (done m) = m.number

-- ---- the number past one test: 12 or 20 where it fails, else the number of the rest

pub number_corrupt : (S B : Type 0) → number_of {S = S} {B = B} corrupt ≡ 12
unfolding number_of
number_corrupt S B = refl

module _ {S B : Type 0} where
  pub number_done : (m : Step S B) → number_of (done m) ≡ m.number
  unfolding number_of
  number_done m = refl

  -- a step on all tables has the number that it has on its own
  pub number_lift : {A : Type 0} (g : A → B) (o : Outcome (Step S A)) → number_of (lift g o) ≡ number_of o
  unfolding number_of lift
  number_lift g corrupt = refl
  number_lift g blocked = refl
  number_lift g (done m) = refl

  pub number_need : (b : Bool) (k : Outcome (Step S B)) → number_of (need b k) ≡ pick (not b) 12 (number_of k)
  unfolding number_of need pick
  number_need true k = refl
  number_need false k = refl

  pub number_await : (b : Bool) (k : Outcome (Step S B)) → number_of (awaits b k) ≡ pick (not b) 20 (number_of k)
  unfolding number_of awaits pick
  number_await true k = refl
  number_await false k = refl

  pub number_pick : (b : Bool) (k l : Outcome (Step S B)) → number_of (pick b k l) ≡ pick b (number_of k) (number_of l)
  unfolding pick
  number_pick true k l = refl
  number_pick false k l = refl

-- ---- a test in front of what comes next stands in front of all

module _ {A B : Type 0} (f : A → Outcome B) where
  pub then_corrupt : and_then corrupt f ≡ corrupt
  unfolding and_then
  then_corrupt = refl

  pub then_now : (a : A) → and_then (done a) f ≡ f a
  unfolding and_then
  then_now a = refl

  pub then_need : (b : Bool) (k : Outcome A) → and_then (need b k) f ≡ need b (and_then k f)
  unfolding and_then need
  then_need true k = refl
  then_need false k = refl

  pub then_await : (b : Bool) (k : Outcome A) → and_then (awaits b k) f ≡ awaits b (and_then k f)
  unfolding and_then awaits
  then_await true k = refl
  then_await false k = refl

  pub then_pick : (b : Bool) (k l : Outcome A) → and_then (pick b k l) f ≡ pick b (and_then k f) (and_then l f)
  unfolding pick
  then_pick true k l = refl
  then_pick false k l = refl

  pub then_then : {C : Type 0} (o : Outcome C) (g : C → Outcome A) → and_then (and_then o g) f ≡ and_then o (λ c. and_then (g c) f)
  unfolding and_then
  then_then corrupt g = refl
  then_then blocked g = refl
  then_then (done c) g = refl

-- ---- nests of tests

module _ (m n : ℕ) where
  pub pick_true : pick true m n ≡ m
  unfolding pick
  pick_true = refl

  pub pick_false : pick false m n ≡ n
  unfolding pick
  pick_false = refl

  -- a test that makes no difference
  pub pick_same : (b : Bool) → pick b n n ≡ n
  unfolding pick
  pick_same true = refl
  pick_same false = refl

  -- two tests that must both hold
  pub pick_and : (a b : Bool) → pick a (pick b m n) n ≡ pick (a && b) m n
  unfolding pick
  pick_and true b = refl
  pick_and false b = refl

-- from a step to its nest of tests
pub ruleset tests = (
  number_lift,
  number_corrupt,
  number_need,
  number_await,
  number_pick,
  number_done,
  then_corrupt,
  then_now,
  then_need,
  then_await,
  then_pick,
  then_then,
  not_ltb,
  not_leb,
  not-not,
  pick_true,
  pick_false,
  pick_same,
)
