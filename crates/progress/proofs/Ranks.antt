-- Each lane has a rank by what it does next, and who holds a lock has a higher rank than who waits for it:
-- 4: a query with a bucket open; an update at a stage that is never held.
-- 3: an update that is to return a bucket (stage 6), which queries with a bucket open can hold up.
-- 2: an update that is to lock a cell (stages 2 and 8), a query that is to enter one. Who holds a cell has rank 3 or 4.
-- 1: an update that is to take its object (stage 1). Who holds an object has rank 2 or more.
-- 0: idle or finished.
use mathlib.Core.Logic.{◌≢◌}
use mathlib.Core.Path.{◌≡◌, refl}
use Prim.Native.Nat.{ℕ, zero, suc, ◌<◌, ◌≤◌}
use native.Mathlib.Omega.{arith}
use lib.Dec.{T, ltb}
use borrow.Author.Tests.{ltb-true, ltb-false}
use Rattle.base.proofs.Table.{at_or, by_test}
use Rattle.stage.specs.declared.Stage.{Stage}
use Rattle.stage.specs.declared.Stage.TheVariants.{Idle, TakeObject, LockCell, LookLast, CopyLast, LowerCount, ReturnBucket, ErasePlace, ChooseCell, MakeRoom, WriteTuple, RaiseCount, SwitchPlace, DeleteOld, ReleaseObject}
use Rattle.query.specs.declared.Scan.{Scan}
use Rattle.query.specs.declared.Scan.TheVariants.{Idle as IdleQuery, Enter, Read, Finished}
use Rattle.tuples.proofs.Inv.{stage_holds_own, cel_held}

unfoldable pub rank : Stage → ℕ
rank Idle = 0
rank TakeObject = 1
rank (LockCell p) = 2
rank (LookLast p) = 4
rank (CopyLast p m) = 4
rank (LowerCount p m) = 4
rank (ReturnBucket p m b) = 3
rank (ErasePlace p m) = 4
rank ChooseCell = 2
rank MakeRoom = 4
rank WriteTuple = 4
rank (RaiseCount p) = 4
rank (SwitchPlace p) = 4
rank (DeleteOld p) = 4
rank ReleaseObject = 4

unfoldable pub rank_of : Scan → ℕ
rank_of IdleQuery = 0
rank_of (Enter c) = 2
rank_of (Read c w) = 4
rank_of Finished = 0

-- what the rank of a stage says
pub record Ranked (s : Stage) : Type 0 where
  pub busy : s ≢ Idle → 0 < rank s
  pub object : T (stage_holds_own s) → 2 ≤ rank s
  pub cell : T (cel_held s) → 3 ≤ rank s

pub ranked : (s : Stage) → Ranked s
unfolding rank stage_holds_own cel_held
ranked Idle = record { busy = λ n. absurd (n refl); object = λ t. absurd t; cell = λ t. absurd t }
ranked TakeObject = record { busy = λ n. omega arith; object = λ t. absurd t; cell = λ t. absurd t }
ranked (LockCell p) = record { busy = λ n. omega arith; object = λ t. omega arith; cell = λ t. absurd t }
ranked (LookLast p) = record { busy = λ n. omega arith; object = λ t. omega arith; cell = λ t. omega arith }
ranked (CopyLast p m) = record { busy = λ n. omega arith; object = λ t. omega arith; cell = λ t. omega arith }
ranked (LowerCount p m) = record { busy = λ n. omega arith; object = λ t. omega arith; cell = λ t. omega arith }
ranked (ReturnBucket p m b) = record { busy = λ n. omega arith; object = λ t. omega arith; cell = λ t. omega arith }
ranked (ErasePlace p m) = record { busy = λ n. omega arith; object = λ t. omega arith; cell = λ t. omega arith }
ranked ChooseCell = record { busy = λ n. omega arith; object = λ t. omega arith; cell = λ t. absurd t }
ranked MakeRoom = record { busy = λ n. omega arith; object = λ t. omega arith; cell = λ t. omega arith }
ranked WriteTuple = record { busy = λ n. omega arith; object = λ t. omega arith; cell = λ t. omega arith }
ranked (RaiseCount p) = record { busy = λ n. omega arith; object = λ t. omega arith; cell = λ t. omega arith }
ranked (SwitchPlace p) = record { busy = λ n. omega arith; object = λ t. omega arith; cell = λ t. omega arith }
ranked (DeleteOld p) = record { busy = λ n. omega arith; object = λ t. omega arith; cell = λ t. absurd t }
ranked ReleaseObject = record { busy = λ n. omega arith; object = λ t. omega arith; cell = λ t. absurd t }

pub ranked_query : (a : Scan) → a ≢ IdleQuery → a ≢ Finished → 0 < rank_of a
unfolding rank_of
ranked_query IdleQuery n m = absurd (n refl)
ranked_query (Enter c) n m = omega arith
ranked_query (Read c w) n m = omega arith
ranked_query Finished n m = absurd (m refl)

-- what has a rank is under way
pub rank_busy : (s : Stage) → 0 < rank s → s ≢ Idle
unfolding rank
rank_busy s lt e = let w = rw e at lt in omega arith

pub rank_unfinished : (a : Scan) → 0 < rank_of a → (a ≢ IdleQuery) × (a ≢ Finished)
unfolding rank_of
rank_unfinished a lt = (λ e. let w = rw e at lt in omega arith, λ e. let w = rw e at lt in omega arith)

-- the first of the highest
pub best : (f : ℕ → ℕ) (n : ℕ) → 0 < n → (i : ℕ) × (i < n) × ((j : ℕ) → j < n → f j ≤ f i)
best f zero h = absurd (omega arith)
best f (suc zero) h = (0, omega arith, λ j j<. let e : j ≡ 0 = omega arith in rw e (omega arith))
best f (suc (suc n)) h =
    let r = best f (suc n) (omega arith) in
    by_test (ltb (f r.0) (f (suc n)))
    (λ e.
    let lt : f r.0 < f (suc n) = ltb-true _ _ e in (
      suc n,
      omega arith,
      λ j j<. at_or j (suc n)
          (λ z. rw z (omega arith))
          (λ z. let w : f j ≤ f r.0 = r.2 j (omega arith) in omega arith),
    ))
    (λ e.
    let le : f (suc n) ≤ f r.0 = ltb-false _ _ e in
    (r.0, omega (arith, r.1), λ j j<. at_or j (suc n) (λ z. rw z le) (λ z. r.2 j (omega arith))))
