-- What a step can be held by, for every content of the tables: stage 1 of an update by the lock of its object, stages 2
-- and 8 by the lock of a cell, stage 6 by the readers of a bucket, a query by the lock of the cell that it is to enter.
-- It is read off the causes of each number: a step gives the number of the first cause that holds, and of all causes
-- only these have number 20.
use mathlib.Core.Path.{◌≡◌, refl}
use mathlib.Core.Logic.{◌≢◌, ◌⊎◌, inl, inr}
use mathlib.Core.Bool.{Bool, true, false, not, ◌&&◌, ◌||◌}
use mathlib.Core.List.{List, [], ◌∷◌}
use Prim.Native.Nat.{ℕ, ◌<◌}
use lib.Dec.{eqb}
use lib.ListN.{get_or}
use borrow.Author.Tests.{lt-leb, eqb-true}
use Rattle.base.specs.Outcome.{pick}
use Rattle.base.specs.Table.{at}
use Rattle.base.proofs.Table.{by_test, clash}
use Rattle.layout.specs.Place.{cell_of}
use Rattle.index.specs.Search.{search}
use Rattle.stage.specs.Turn.{is_idle}
use Rattle.stage.specs.declared.Stage.{Stage}
use Rattle.stage.specs.declared.Stage.TheVariants.{Idle, TakeObject, LockCell, LookLast, CopyLast, LowerCount, ReturnBucket, ErasePlace, ChooseCell, MakeRoom, WriteTuple, RaiseCount, SwitchPlace, DeleteOld, ReleaseObject}
use Rattle.stage.specs.declared.Updater.{Updater}
use Rattle.query.specs.declared.Scan.{Scan}
use Rattle.query.specs.declared.Scan.TheVariants.{Idle as IdleQuery, Enter, Read, Finished}
use Rattle.query.specs.declared.Query.{Query}
use Rattle.tables.specs.Tables.{Tables}
use Rattle.calls.specs.Causes.{Cause, first_cause}
use Rattle.updates.specs.Update.{idle_updater}
use Rattle.updates.specs.Causes.{entry_of, stage_causes, stage_number, step_causes}
use Rattle.queries.specs.Query.{idle_query, is_finished, is_idle as isIdleQuery}
use Rattle.queries.specs.Causes.{scan_causes, scan_end, step_causes as queryCauses}

-- ---- the first cause that holds

-- the number of a step that moves, or 12
abbrev pub moves_or12 : ℕ → Bool
moves_or12 n = eqb n 0 || eqb n 12 || eqb n 21 || eqb n 22

-- no cause of another number holds
unfoldable pub clear : List Cause → Bool
clear [] = true
clear (c ∷ cs) = (moves_or12 c.number || not c.holds) && clear cs

-- the first cause of a list, of number x, and what the others come to
one-cause : (fine holds rest : Bool) (x y : ℕ) → ((fine || not holds) && rest) ≡ true → moves_or12 x ≡ fine
    → (rest ≡ true → moves_or12 y ≡ true) → moves_or12 (pick holds x y) ≡ true
unfolding pick
one-cause true true rest x y e q f = q
one-cause true false rest x y e q f = f e
one-cause false true rest x y e q f = clash (cc)
one-cause false false rest x y e q f = f e

pub first_clear : (cs : List Cause) (n : ℕ) → clear cs ≡ true → moves_or12 n ≡ true → moves_or12 (first_cause cs n) ≡ true
unfolding clear first_cause
first_clear [] n e m = m
first_clear (c ∷ cs) n e m =
    one-cause (moves_or12 c.number) c.holds (clear cs) c.number (first_cause cs n) e refl
    (λ r. first_clear cs n r m)

-- a number of these that is not 12
pub which : (n : ℕ) → moves_or12 n ≡ true → n ≢ 12 → (n ≡ 0) ⊎ ((n ≡ 21) ⊎ (n ≡ 22))
which n m h =
    by_test (eqb n 0) (λ a. inl (eqb-true n 0 a))
    (λ a. by_test (eqb n 21) (λ b. inr (inl (eqb-true n 21 b)))
    (λ b. by_test (eqb n 22) (λ c. inr (inr (eqb-true n 22 c)))
    (λ c. by_test (eqb n 12) (λ d. absurd (h (eqb-true n 12 d)))
    (λ d. let w = rw (a, b, c, d) at m in clash (cc)))))

-- ---- an update

-- what a stage can be held by is free
unfoldable pub Free : Tables → Updater → Stage → Type 0
Free t u Idle = ⊥
Free t u TakeObject = at t.index.lock (entry_of (search t.index.oid u.oid)) ≡ 0
Free t u (LockCell p) = at t.cells p.cell ≡ 0
Free t u (LookLast p) = Unit {0}
Free t u (CopyLast p m) = Unit {0}
Free t u (LowerCount p m) = Unit {0}
Free t u (ReturnBucket p m b) = at t.readers b ≡ 0
Free t u (ErasePlace p m) = Unit {0}
Free t u ChooseCell = at t.cells (cell_of u.x u.y) ≡ 0
Free t u MakeRoom = Unit {0}
Free t u WriteTuple = Unit {0}
Free t u (RaiseCount p) = Unit {0}
Free t u (SwitchPlace p) = Unit {0}
Free t u (DeleteOld p) = Unit {0}
Free t u ReleaseObject = Unit {0}

and_no : (b : Bool) → (b && false) ≡ false
and_no true = refl
and_no false = refl

-- such a stage is not idle, no other cause of its number holds, and at its end it moves
record Flows (t : Tables) (u : Updater) (s : Stage) : Type 0 where
  busy : is_idle s ≡ false
  causes : clear (stage_causes t u s) ≡ true
  end : moves_or12 (stage_number s) ≡ true

module _ (t : Tables) (u : Updater) where
  stage_flows : (s : Stage) → Free t u s → Flows t u s
  unfolding is_idle clear stage_causes stage_number Free
  stage_flows Idle f = absurd f
  stage_flows TakeObject f = record { busy = refl; causes = rw f; end = refl }
  stage_flows (LockCell p) f = record { busy = refl; causes = rw f; end = refl }
  stage_flows (LookLast p) f = record { busy = refl; causes = refl; end = refl }
  stage_flows (CopyLast p m) f = record { busy = refl; causes = refl; end = refl }
  stage_flows (LowerCount p m) f = record { busy = refl; causes = refl; end = refl }
  stage_flows (ReturnBucket p m b) f = record { busy = refl; causes = rw f; end = refl }
  stage_flows (ErasePlace p m) f = record { busy = refl; causes = refl; end = refl }
  stage_flows ChooseCell f = record { busy = refl; causes = simp (f, and_no); end = refl }
  stage_flows MakeRoom f = record { busy = refl; causes = refl; end = refl }
  stage_flows WriteTuple f = record { busy = refl; causes = refl; end = refl }
  stage_flows (RaiseCount p) f = record { busy = refl; causes = refl; end = refl }
  stage_flows (SwitchPlace p) f = record { busy = refl; causes = refl; end = refl }
  stage_flows (DeleteOld p) f = record { busy = refl; causes = refl; end = refl }
  stage_flows ReleaseObject f = record { busy = refl; causes = refl; end = refl }

-- A STEP OF AN UPDATE moves, or gives 12, where what its stage can be held by is free.
module _ (t : Tables) (us : List Updater) (l : ℕ) where
  abbrev u : Updater
  u = get_or us l idle_updater

  update_clear : l < 8 → is_idle u.stage ≡ false → clear (stage_causes t u u.stage) ≡ true
      → clear (step_causes t us l) ≡ true
  unfolding clear step_causes
  update_clear l< i c = rw (lt-leb 8 l l<, i) c

  pub update_flows : l < 8 → Free t u u.stage
      → moves_or12 (first_cause (step_causes t us l) (stage_number u.stage)) ≡ true
  update_flows l< f =
      let w = stage_flows t u u.stage f in
      first_clear (step_causes t us l) _ (update_clear l< w.busy w.causes) w.end

-- ---- a query

-- what it can be held by is free
unfoldable pub FreeQuery : Tables → Scan → Type 0
FreeQuery t IdleQuery = ⊥
FreeQuery t (Enter c) = at t.cells c ≡ 0
FreeQuery t (Read c w) = Unit {0}
FreeQuery t Finished = ⊥

picked : (b : Bool) (x y : List Cause) → clear x ≡ true → clear y ≡ true → clear (pick b x y) ≡ true
unfolding pick
picked true x y e f = e
picked false x y e f = f

module _ (t : Tables) (l : ℕ) (q : Query) where
  scan_clear : (a : Scan) → FreeQuery t a → clear (scan_causes t l q a) ≡ true
  unfolding clear scan_causes FreeQuery
  scan_clear IdleQuery f = absurd f
  scan_clear (Enter c) f = rw f
  scan_clear (Read c w) f = picked _ _ _ refl refl
  scan_clear Finished f = absurd f

  ended : (b : Bool) → moves_or12 (pick b 22 0) ≡ true
  unfolding pick
  ended true = refl
  ended false = refl

  scan_end_lem : (a : Scan) → moves_or12 (scan_end t q a) ≡ true
  unfolding scan_end
  scan_end_lem IdleQuery = refl
  scan_end_lem (Enter c) = ended _
  scan_end_lem (Read c w) = ended _
  scan_end_lem Finished = refl

  free_busy : (a : Scan) → FreeQuery t a → (isIdleQuery a ≡ false) × (is_finished a ≡ false)
  unfolding isIdleQuery is_finished FreeQuery
  free_busy IdleQuery f = absurd f
  free_busy (Enter c) f = (refl, refl)
  free_busy (Read c w) f = (refl, refl)
  free_busy Finished f = absurd f

-- A STEP OF A QUERY moves, or gives 12, where it has a bucket open or the cell that it is to enter is not locked.
module _ (t : Tables) (qs : List Query) (l : ℕ) where
  abbrev v : Query
  v = get_or qs l idle_query

  query_clear : l < 4 → isIdleQuery v.stage ≡ false → is_finished v.stage ≡ false
      → clear (scan_causes t l v v.stage) ≡ true → clear (queryCauses t qs l) ≡ true
  unfolding clear queryCauses
  query_clear l< i f c = rw (lt-leb 4 l l<, i, f) c

  pub query_flows : l < 4 → FreeQuery t v.stage
      → moves_or12 (first_cause (queryCauses t qs l) (scan_end t v v.stage)) ≡ true
  query_flows l< f =
      let b = free_busy t l v v.stage f in
      first_clear (queryCauses t qs l) _
      (query_clear l< b.0 b.1 (scan_clear t l v v.stage f))
      (scan_end_lem t l v v.stage)
