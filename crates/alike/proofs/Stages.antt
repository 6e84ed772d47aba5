-- Every stage of an update goes alike on tables that differ in the stamps and the clock alone, unless one of the two
-- is refused.
-- Most stages read no stamp: they are the same step on two sets of tables. Stages 4, 7, 8, 10 and 13 copy, compare or
-- draw one.
use mathlib.Core.Path.{◌≡◌, refl, ap, ◌∙◌}
use mathlib.Core.Bool.{Bool, true}
use Rattle.std.specs.Prelude.{Option, None, Some}
use mathlib.Core.List.{List}
use Prim.Native.Nat.{ℕ, ◌+◌, ◌<◌}
use native.Mathlib.Omega.{arith}
use lib.Dec.{eqb, ltb}
use lib.IntN.{ℤ}
use lib.ListN.{length, set, length-set}
use borrow.Author.Tests.{ltb-true}
use Rattle.base.specs.Outcome.{Outcome, done, and_then}
use Rattle.layout.specs.Place.{on_grid, cell_of}
use Rattle.layout.specs.declared.place.Place.{Place}
use Rattle.slots.specs.Tuple.{Tuples, slot_at, need_slot, copy, overwrite, delete, sign}
use Rattle.slots.specs.Stamp.{stamp_range}
use Rattle.base.specs.Table.{at}
use Rattle.cells.specs.Chain.{Chains, chains_of, last_in, Writing, write, first_bucket}
use Rattle.index.specs.Search.{search}
use Rattle.index.specs.Places.{read_place, erase_place}
use Rattle.locks.specs.Lock.{take_lock, release}
use Rattle.stage.specs.Turn.{Move}
use Rattle.stage.specs.declared.Stage.{Stage}
use Rattle.stage.specs.declared.Stage.TheVariants.{Idle, TakeObject, LockCell, LookLast, CopyLast, LowerCount}
use Rattle.stage.specs.declared.Stage.TheVariants.{ReturnBucket, ErasePlace, ChooseCell, MakeRoom, WriteTuple}
use Rattle.stage.specs.declared.Stage.TheVariants.{RaiseCount, SwitchPlace, DeleteOld, ReleaseObject}
use Rattle.stage.specs.declared.Updater.{Updater}
use Rattle.acquire.specs.Acquire.{stage1, stage2, stage3, stage14, Locks, locks_of}
use Rattle.erase.specs.Erase.{stage4, stage5, stage6, stage7, Erasing, erasing_of, free_cell, correct, correct_moved}
use Rattle.choose.specs.Choose.{stage8, Placing, placing_of, rewrite, lock_new, choose}
use Rattle.write.specs.Write.{stage9, stage10, Drawn}
use Rattle.commit.specs.Commit.{stage11, stage12, stage13, Switching, switching_of, Deleting}
use Rattle.tables.specs.Tables.{Tables, with_cells, with_count, with_first, with_next, with_tuples, with_times, with_pool}
use Rattle.tables.specs.Tables.{with_clock, with_entries, with_locks}
use Rattle.turns.specs.Stages.{stage_on}
use Rattle.calls.proofs.Meet.{Meet, both_done, left_refused, Steps, meet_need, meet_so}
use Rattle.calls.proofs.Meet.{meet_pick, meet_then, meet_entry, meet_draw, meet_same, meet_lift, meet_lift_same}
use Rattle.calls.proofs.Meet.{steps_same}
use Rattle.alike.specs.Alike.{Like, retimed, Alike}
use Rattle.alike.proofs.Like.{like_above, like_flagged, like_set, same_sign}

module _ (O : ℕ → ℕ → Type 0) (t : Tables) (ts : List ℤ) (c : ℕ) (A : Alike O t (retimed t ts c)) (o : ℕ)
    (u : Updater) where
  abbrev t' : Tables
  t' = retimed t ts c

  abbrev Goes : Outcome (Move Tables) → Outcome (Move Tables) → Type 0
  Goes x y = Meet (Steps (λ (s s' : Stage). s' ≡ s) (Alike O)) x y

  -- stamps and clock as they were
  same : (T : Tables) → T.tuples.time ≡ t.tuples.time → T.clock ≡ t.clock → Alike O T (retimed T ts c)
  same T e k = record {
    rest = refl;
    long = (
      ap (λ (l : List ℤ). length l) e
          ∙ A.long.0,
      A.long.1,
    );
    times = λ i. rw e (A.times i);
    bound = rw k A.bound;
    clock = rw k A.clock;
  }

  takes : Goes (stage_on t o u TakeObject) (stage_on t' o u TakeObject)
  unfolding stage_on
  takes = meet_lift_same (with_locks t) (with_locks t')
      (stage1 t.index.oid t.index.lock t.index.previous u.oid o) (λ l. same (with_locks t l) refl refl)

  releases : Goes (stage_on t o u ReleaseObject) (stage_on t' o u ReleaseObject)
  unfolding stage_on
  releases = meet_lift_same (with_locks t) (with_locks t') (stage14 t.index.oid t.index.lock u.oid)
      (λ l. same (with_locks t l) refl refl)

  locks : (p : Place) → Goes (stage_on t o u (LockCell p)) (stage_on t' o u (LockCell p))
  unfolding stage_on
  locks p = meet_lift_same (with_cells t) (with_cells t') (stage2 t.cells p o) (λ l. same (with_cells t l) refl refl)

  looks : (p : Place) → Goes (stage_on t o u (LookLast p)) (stage_on t' o u (LookLast p))
  unfolding stage_on
  looks p = meet_lift_same _ _ (stage3 t.first t.count t.tuples.oid t.index.oid
      (locks_of t.index.lock t.cells) p u.oid o)
      (λ (l : Locks). same (with_cells (with_locks t l.objects) l.cells) refl refl)

  lowers : (p : Place) (m : ℕ) → Goes (stage_on t o u (LowerCount p m)) (stage_on t' o u (LowerCount p m))
  unfolding stage_on
  lowers p m = meet_lift_same _ _ (stage5 t.first t.count t.next p m)
      (λ (l : List ℕ × List ℕ). same (with_count (with_first t l.0) l.1) refl refl)

  returns : (p : Place) (m b : ℕ) → Goes (stage_on t o u (ReturnBucket p m b)) (stage_on t' o u (ReturnBucket p m b))
  unfolding stage_on
  returns p m b = meet_lift_same (with_pool t) (with_pool t') (stage6 t.readers t.pool p m b)
      (λ l. same (with_pool t l) refl refl)

  makes_room : Goes (stage_on t o u MakeRoom) (stage_on t' o u MakeRoom)
  unfolding stage_on
  makes_room = meet_lift_same _ _ (stage9 (chains_of t.first t.count t.next t.pool) u.x u.y)
      (λ (d : Chains). same (with_pool (with_next (with_count (with_first t d.first) d.count) d.next)
      d.pool) refl refl)

  raises : (p : Place) → Goes (stage_on t o u (RaiseCount p)) (stage_on t' o u (RaiseCount p))
  unfolding stage_on
  raises p = meet_lift_same (with_count t) (with_count t') (stage11 t.count p) (λ l. same (with_count t l) refl refl)

  switches : (p : Place) → Goes (stage_on t o u (SwitchPlace p)) (stage_on t' o u (SwitchPlace p))
  unfolding stage_on
  switches p = meet_lift_same _ _ (stage12 t.index.oid
      (switching_of t.index.current t.index.previous t.cells) p u.oid)
      (λ (d : Switching). same (with_cells (with_entries t t.index.lock d.current d.previous)
      d.cells) refl refl)

  -- ---- a stamp is drawn

  in_range : (b s : ℕ) → ltb b 512 ≡ true → ltb s 4 ≡ true → slot_at b s < 2048
  in_range b s e f = omega (arith, ltb-true b 512 e, ltb-true s 4 f)

  -- one stamp set, and the clock one further
  drawn : (T : Tables) (j : ℕ) (z z' : ℤ) → T.tuples.time ≡ set t.tuples.time j z → T.clock ≡ t.clock + 1
      → j < 2048 → Like O z z' → Alike O T (retimed T (set ts j z') (c + 1))
  drawn T j z z' e k j< L = record {
    rest = refl;
    long = (
      ap (λ (l : List ℤ). length l) e ∙ length-set t.tuples.time j z ∙ A.long.0,
      length-set ts j z'
          ∙ A.long.1,
    );
    times = λ i. rw e (like_set t.tuples.time ts j z z' (omega (arith, A.long.0)) (omega (arith, A.long.1)) L
        A.times i);
    bound = λ s s' w. let b = A.bound s s' w in rw k (omega (arith, b.0), omega (arith, b.1));
    clock = rw k (omega (arith, A.clock));
  }

  deletes : (p : Place) → Goes (stage_on t o u (DeleteOld p)) (stage_on t' o u (DeleteOld p))
  unfolding stage_on stage13 delete need_slot
  deletes p = meet_lift {N = λ (s s' : Stage). s' ≡ s} {Q = λ (d d' : Deleting). Alike O
      (with_clock (with_times t d.times) d.clock)
      (with_clock (with_times t' d'.times) d'.clock)} {R = Alike O}
      (λ (d : Deleting). with_clock (with_times t d.times) d.clock)
      (λ (d : Deleting). with_clock (with_times t' d.times) d.clock) (λ d d' w. w)
      (meet_draw t.clock c _ _
      (meet_then {Q = λ (l l' : List ℤ). Alike O (with_clock (with_times t l) (t.clock + 1))
      (with_clock (with_times t' l') (c + 1))}
      (meet_so (ltb p.bucket 512) (ltb p.bucket 512) _ _
      (λ e _. meet_so (ltb p.slot 4) (ltb p.slot 4) _ _
      (λ f _. meet_need (stamp_range (t.clock + 1)) (stamp_range (c + 1))
      (both_done (drawn _ (slot_at p.bucket p.slot) _ _ refl refl (in_range _ _ e f)
      (like_flagged t.clock c A.bound))))))
      (λ l l' w. both_done (record { number = refl; next = refl; tables = w }))))

  -- the tuples with a drawn stamp, put back
  abbrev Wrote : Tuples → Tuples → Type 0
  Wrote d d' = Alike O (with_clock (with_tuples t d) (t.clock + 1)) (with_clock (with_tuples t' d') (c + 1))

  overwrites : (b s k x y m : ℕ) → Meet Wrote (overwrite t.tuples b s k x y m (t.clock + 1))
      (overwrite t'.tuples b s k x y m (c + 1))
  unfolding overwrite need_slot
  overwrites b s k x y m =
      meet_so (ltb b 512) (ltb b 512) _ _ (λ e _. meet_so (ltb s 4) (ltb s 4) _ _
      (λ f _. meet_need (stamp_range (t.clock + 1)) (stamp_range (c + 1))
      (both_done (drawn _ (slot_at b s) _ _ refl refl (in_range _ _ e f)
      (like_above (t.clock + 1) (c + 1) (omega arith) (omega arith))))))

  writes : Goes (stage_on t o u WriteTuple) (stage_on t' o u WriteTuple)
  unfolding stage_on stage10 write
  writes = meet_lift {N = λ (s s' : Stage). s' ≡ s} {Q = λ (d d' : Drawn). Alike O
      (with_clock (with_tuples t d.tuples) d.clock)
      (with_clock (with_tuples t' d'.tuples) d'.clock)} {R = Alike O}
      (λ (d : Drawn). with_clock (with_tuples t d.tuples) d.clock)
      (λ (d : Drawn). with_clock (with_tuples t' d.tuples) d.clock) (λ d d' w. w)
      (meet_need (on_grid u.x u.y) (on_grid u.x u.y)
      (meet_draw t.clock c _ _
      (meet_then {Q = λ (w w' : Writing). (w'.place ≡ w.place) × Wrote w.tuples w'.tuples}
      (meet_then (meet_same (first_bucket t.first (cell_of u.x u.y)))
      (λ b b' e. rw (← e) (meet_need (ltb (at t.count b) 4) (ltb (at t.count b) 4)
      (meet_then (overwrites b (at t.count b) u.oid u.x u.y u.tag) (λ d d' w. both_done (refl, w))))))
      (λ w w' v. both_done (record { number = refl; next = ap RaiseCount v.0; tables = v.1 })))))

  -- stage 8: overwrite, or lock another cell
  abbrev Placed : Placing → Placing → Type 0
  Placed d d' = Alike O (with_clock (with_tuples (with_cells t d.cells) d.tuples) d.clock)
      (with_clock (with_tuples (with_cells t' d'.cells) d'.tuples) d'.clock)

  abbrev d₀ : Placing
  d₀ = placing_of t.cells t.tuples t.clock

  abbrev d₁ : Placing
  d₁ = placing_of t.cells t'.tuples c

  rewrites : (p : Place) → Meet (Steps (λ (s s' : Stage). s' ≡ s) Placed) (rewrite d₀ p u.oid u.x u.y u.tag)
      (rewrite d₁ p u.oid u.x u.y u.tag)
  unfolding rewrite
  rewrites p = meet_draw t.clock c _ _ (meet_then (overwrites p.bucket p.slot u.oid u.x u.y u.tag)
      (λ d d' w. both_done (record { number = refl; next = refl; tables = w })))

  locks_new : (k : ℕ) → Meet (Steps (λ (s s' : Stage). s' ≡ s) Placed) (lock_new d₀ k o) (lock_new d₁ k o)
  unfolding lock_new
  locks_new k = meet_then (meet_same (take_lock t.cells k o))
      (λ l l' e. rw (← e) (both_done (record {
        number = refl;
        next = refl;
        tables = same
            (with_cells t l) refl refl;
      })))

  chooses : (q : Option Place) → Meet (Steps (λ (s s' : Stage). s' ≡ s) Placed)
      (choose d₀ q u.oid u.x u.y u.tag o) (choose d₁ q u.oid u.x u.y u.tag o)
  unfolding choose
  chooses None = locks_new (cell_of u.x u.y)
  chooses (Some p) = meet_pick (eqb p.cell (cell_of u.x u.y)) (rewrites p) (locks_new (cell_of u.x u.y))

  places : Goes (stage_on t o u ChooseCell) (stage_on t' o u ChooseCell)
  unfolding stage_on stage8
  places = meet_lift {N = λ (s s' : Stage). s' ≡ s} {Q = Placed} {R = Alike O}
      (λ (d : Placing). with_clock (with_tuples (with_cells t d.cells) d.tuples) d.clock)
      (λ (d : Placing). with_clock (with_tuples (with_cells t' d.cells) d.tuples) d.clock) (λ d d' w. w)
      (meet_need (on_grid u.x u.y) (on_grid u.x u.y)
      (meet_entry (search t.index.oid u.oid) (λ i.
      meet_then (meet_same (read_place t.index.current i)) (λ q q' e. rw (← e) (chooses q)))))

  -- ---- a stamp is copied or compared

  -- one stamp set, the clock as it was
  moved : (T : Tables) (j : ℕ) (z z' : ℤ) → T.tuples.time ≡ set t.tuples.time j z → T.clock ≡ t.clock
      → j < 2048 → Like O z z' → Alike O T (retimed T (set ts j z') c)
  moved T j z z' e k j< L = record {
    rest = refl;
    long = (
      ap (λ (l : List ℤ). length l) e ∙ length-set t.tuples.time j z ∙ A.long.0,
      length-set ts j z'
          ∙ A.long.1,
    );
    times = λ i. rw e (like_set t.tuples.time ts j z z' (omega (arith, A.long.0)) (omega (arith, A.long.1)) L
        A.times i);
    bound = rw k A.bound;
    clock = rw k A.clock;
  }

  abbrev Copied : Tuples → Tuples → Type 0
  Copied d d' = Alike O (with_tuples t d) (with_tuples t' d')

  copied : (b s b' s' : ℕ) → Meet Copied (copy t.tuples b s b' s') (copy t'.tuples b s b' s')
  unfolding copy need_slot
  copied b s b' s' =
      meet_need (ltb b 512) (ltb b 512) (meet_need (ltb s 4) (ltb s 4)
      (meet_so (ltb b' 512) (ltb b' 512) _ _ (λ e _. meet_so (ltb s' 4) (ltb s' 4) _ _ (λ f _.
      both_done (moved _ (slot_at b' s') _ _ refl refl (in_range _ _ e f) (A.times (slot_at b s)))))))

  copies : (p : Place) (m : ℕ) → Goes (stage_on t o u (CopyLast p m)) (stage_on t' o u (CopyLast p m))
  unfolding stage_on stage4
  copies p m = meet_lift {N = λ (s s' : Stage). s' ≡ s} {Q = Copied} {R = Alike O} (with_tuples t) (with_tuples t')
      (λ d d' w. w)
      (meet_then (meet_same (last_in t.first t.count t.tuples.oid p.cell))
      (λ x x' e. rw (← e) (meet_then (copied x.bucket x.slot p.bucket p.slot)
      (λ d d' w. both_done (record { number = refl; next = refl; tables = w })))))

  abbrev Signs : Bool → Bool → Type 0
  Signs a b = a ≡ b

  signed : (b s : ℕ) → Meet Signs (sign t.tuples.time b s) (sign ts b s)
  unfolding sign need_slot
  signed b s = meet_need (ltb b 512) (ltb b 512) (meet_need (ltb s 4) (ltb s 4) (same_sign (A.times (slot_at b s))))

  corrects : (e : Erasing) (p : Place) (m : ℕ) → Meet (λ (x y : Erasing). x ≡ y)
      (correct_moved t.index.oid t.tuples.time e p m) (correct_moved t.index.oid ts e p m)
  unfolding correct_moved
  corrects e p m = meet_entry (search t.index.oid m)
      (λ j. meet_then (signed p.bucket p.slot)
      (λ s s' z. rw (← z) (meet_same (and_then (correct e j p s)
      (λ e'. and_then (release e'.locks j) (λ l. done (erasing_of l e'.current e'.previous e'.cells)))))))

  erases : (p : Place) (m : ℕ) → Goes (stage_on t o u (ErasePlace p m)) (stage_on t' o u (ErasePlace p m))
  unfolding stage_on stage7
  erases p m = meet_lift {N = λ (s s' : Stage). s' ≡ s} {Q = λ (x y : Erasing). x ≡ y} {R = Alike O}
      (λ (e : Erasing). with_cells (with_entries t e.locks e.current e.previous) e.cells)
      (λ (e : Erasing). with_cells (with_entries t' e.locks e.current e.previous) e.cells)
      (λ e e' z. rw (← z) (same (with_cells (with_entries t e.locks e.current e.previous) e.cells) refl refl))
      (meet_entry (search t.index.oid u.oid) (λ i.
      meet_then (meet_same (erase_place t.index.previous i)) (λ q q' z. rw (← z) (
      meet_pick (eqb m u.oid)
      (steps_same (free_cell (erasing_of t.index.lock t.index.current q t.cells) p))
      (meet_then (corrects (erasing_of t.index.lock t.index.current q t.cells) p m)
      (λ e e' y. rw (← y) (steps_same (free_cell e p))))))))

  -- every stage
  pub stage_alike : (s : Stage) → Goes (stage_on t o u s) (stage_on t' o u s)
  unfolding stage_on
  stage_alike Idle = left_refused
  stage_alike TakeObject = takes
  stage_alike (LockCell p) = locks p
  stage_alike (LookLast p) = looks p
  stage_alike (CopyLast p m) = copies p m
  stage_alike (LowerCount p m) = lowers p m
  stage_alike (ReturnBucket p m b) = returns p m b
  stage_alike (ErasePlace p m) = erases p m
  stage_alike ChooseCell = places
  stage_alike MakeRoom = makes_room
  stage_alike WriteTuple = writes
  stage_alike (RaiseCount p) = raises p
  stage_alike (SwitchPlace p) = switches p
  stage_alike (DeleteOld p) = deletes p
  stage_alike ReleaseObject = releases
