-- WHAT A STEP OF AN UPDATE DOES TO ITS LANE, AND TO WHAT THE SLOTS NAME: only the lane's own stage changes, and only where the step is not blocked; a
-- tuple that is written is on its way until it is the current one; and a slot names afterwards the object that it named, one that a live slot names
-- (stage 4), or the update's own, whose tuple is on its way (stage 10).
-- Each stage is followed through its tests to its end.
use mathlib.Core.Path.{◌≡◌, refl}
use mathlib.Core.Bool.{Bool, not, ◌&&◌}
use Rattle.std.specs.Prelude.{Option, Some}
use Prim.Native.Nat.{ℕ, ◌-◌, ◌<◌}
use native.Mathlib.Omega.{arith}
use lib.Dec.{T, eqb}
use Rattle.base.specs.Table.{upd}
use Rattle.base.proofs.Table.{upd_same}
use Rattle.machine.specs.Ends.{Ends, done, ends_need, ends_pick, ends_then}
use Rattle.machine.specs.Store.{StoreOps, Store}
use Rattle.layout.specs.Place.{cell_of}
use Rattle.layout.specs.declared.place.Place.{Place}
use Rattle.slots.specs.Tuple.{Tuple}
use Rattle.stage.specs.StageTable.{row}
use Rattle.stage.specs.declared.Stage.{Stage}
use Rattle.stage.specs.declared.Stage.TheVariants.{Idle, TakeObject, LockCell, LookLast, CopyLast, LowerCount, ReturnBucket, ErasePlace, ChooseCell, MakeRoom, WriteTuple, RaiseCount, SwitchPlace, DeleteOld, ReleaseObject}
use Rattle.stage.specs.declared.Updater.{Updater}
use Rattle.machine.specs.Machine.{Entry, St, Out, put, to, new_tuple, take_first, stage1, stage2, stage3, stage4, stage5, stage6, stage7, stage8, stage9, stage10, stage11, stage12, stage13, stage14, do_stage}
use Rattle.cells.proofs.Chains.{in_chain}
use Rattle.tuples.proofs.Inv.{k_prev, sel, Ok, cel_held, filling, mv, cl, bk, Ghost, Inv}
use Rattle.tuples.proofs.Slots.{put_same, put_else, slot_or}
use Rattle.tuples.proofs.Facts.{ends_fork, tall_of, at_stage, some_tuple}
use Rattle.tuples.proofs.Fresh.{late}

-- stages 11 and 12: the new tuple is written, and not the current one yet
unfoldable pub coming : Stage → Bool
coming s = not (row s).late && eqb (row s).draws 1

-- what is said of the stage after one that writes or switches, where e is the object's entry then
unfoldable pub Follow : Entry → Stage → Stage → Type 0
Follow e Idle s = Unit {0}
Follow e TakeObject s = Unit {0}
Follow e (LockCell p) s = Unit {0}
Follow e (LookLast p) s = Unit {0}
Follow e (CopyLast p m) s = Unit {0}
Follow e (LowerCount p m) s = Unit {0}
Follow e (ReturnBucket p m b) s = Unit {0}
Follow e (ErasePlace p m) s = Unit {0}
Follow e ChooseCell s = Unit {0}
Follow e MakeRoom s = Unit {0}
Follow e WriteTuple s = T (coming s)
Follow e (RaiseCount p) s = T (coming s)
Follow e (SwitchPlace p) s = T (late s) × (e.cur ≡ Some p)
Follow e (DeleteOld p) s = Unit {0}
Follow e ReleaseObject s = Unit {0}

-- what slot i of bucket b names after a step to stage s of an update of object k
pub data Names (g : Ghost) (d d' : St) (k : ℕ) (s : Stage) (b i : ℕ) : Type 0 where
  keeps : (d'.tup b i).oid ≡ (d.tup b i).oid → Names g d d' k s b i
  copies : (b₀ c h i₀ : ℕ) → g.own b₀ ≡ in_chain c h → i₀ < d.count b₀ → (d'.tup b i).oid ≡ (d.tup b₀ i₀).oid → Names g d d' k s b i
  writes : (d'.tup b i).oid ≡ k → T (coming s) → Names g d d' k s b i

-- the step is taken: the lane is at stage s, every other lane as it was
pub record Taken (g : Ghost) (l : ℕ) (d d' : St) : Type 0 where
  pub s : Stage
  pub lanes : d'.lanes ≡ upd d.lanes l (to (d.lanes l) s)
  pub names : (b i : ℕ) → Names g d d' (d.lanes l).oid s b i
  pub follow : Follow (d'.ent (d.lanes l).oid) (d.lanes l).stage s

-- or it is blocked
pub data Followed (g : Ghost) (l : ℕ) (d d' : St) : Type 0 where
  held : d' ≡ d → Followed g l d d'
  taken : Taken g l d d' → Followed g l d d'

abbrev pub Follows : Ghost → ℕ → St → Option Out → Type 0
Follows g l d o = Ends (λ (r : Out). Followed g l d r.0) (Unit {0}) o

module _ {O : StoreOps} {S : Store O} {g : Ghost} {d : St} (I : Inv S g d) (l : ℕ) (l< : l < 8) where
  abbrev a : Updater
  a = d.lanes l

  abbrev k : ℕ
  k = a.oid

  goes : (d' : St) (s s' : Stage) → a.stage ≡ s → d'.lanes ≡ upd d.lanes l (to a s') → ((b i : ℕ) → Names g d d' k s' b i) → Follow (d'.ent k) s s' → Followed g l d d'
  goes d' s s' st e n f = taken (record { s = s'; lanes = e; names = n; follow = rw st f })

  -- no tuple is touched
  same : (d' : St) (s s' : Stage) → a.stage ≡ s → d'.lanes ≡ upd d.lanes l (to a s') → d'.tup ≡ d.tup → Follow (d'.ent k) s s' → Followed g l d d'
  same d' s s' st e t f = goes d' s s' st e (λ b i. keeps (rw t)) f

  -- one slot is written over with a tuple of the same object
  over : (p : Place) (v : Tuple) → v.oid ≡ (d.tup p.bucket p.slot).oid → (b i : ℕ) → (put d.tup p.bucket p.slot v b i).oid ≡ (d.tup b i).oid
  over p v e b i = slot_or p.bucket p.slot b i
      (λ e₁ e₂. rw (e₁, e₂, put_same d.tup p.bucket p.slot v) e)
      (λ n. rw (put_else d.tup p.bucket p.slot v b i n))

  -- stage 4: the last tuple of the cell's first bucket
  follow4 : (p : Place) (m : ℕ) → a.stage ≡ CopyLast p m → Follows g l d (stage4 l a p m d)
  unfolding stage4 Follow Ok mv cl bk cel_held filling sel
  follow4 p m st = ends_need _ _ (λ _. ends_need _ _ (λ _. done (
      let w = at_stage I l l< (CopyLast p m) st in
      let t = I.slots.back k_prev k p (rw w.1 w.0) in
      let H = tall_of I p.bucket p.cell t.0.h t.0.owned in
      let f = d.first p.cell in
      let v = d.tup f (d.count f - 1) in
      let n> = some_tuple I l l< (CopyLast p m) st tt (λ z. z) f H.h H.owned in
      goes _ (CopyLast p m) (LowerCount p m) st refl
      (λ b i. slot_or p.bucket p.slot b i
      (λ e₁ e₂. copies f p.cell H.h (d.count f - 1) H.owned (omega arith) (rw (e₁, e₂, put_same d.tup p.bucket p.slot v)))
      (λ n. keeps (rw (put_else d.tup p.bucket p.slot v b i n)))) tt)))

  -- stage 10: the update's own tuple
  follow10 : a.stage ≡ WriteTuple → Follows g l d (stage10 l a d)
  unfolding stage10 Follow coming
  follow10 st = ends_need _ _ (λ _. ends_need _ _ (λ _. ends_need _ _ (λ _. done (
      let f = d.first (cell_of a.x a.y) in
      let n = d.count f in
      let v = new_tuple a d.clock in
      goes _ WriteTuple (RaiseCount _) st refl
      (λ b i. slot_or f n b i
      (λ e₁ e₂. writes (rw (e₁, e₂, put_same d.tup f n v)) tt)
      (λ z. keeps (rw (put_else d.tup f n v b i z)))) tt))))

  takes : a.stage ≡ MakeRoom → (c : ℕ) → Follows g l d (take_first O l a c d)
  unfolding take_first Follow
  takes st c = ends_then _ _ (λ r _. ends_need _ _ (λ _. done (same _ MakeRoom WriteTuple st refl refl tt)))

  pub follows : (s : Stage) → a.stage ≡ s → Follows g l d (do_stage O l a d s)
  unfolding do_stage stage1 stage2 stage3 stage5 stage6 stage7 stage8 stage9 stage11 stage12 stage13 stage14 Follow coming late
  follows Idle st = done (held refl)
  follows TakeObject st = ends_need _ _ (λ _. ends_pick _ _ _
      (λ _. ends_fork _ _ _ (λ p _. done (same _ TakeObject (LockCell p) st refl refl tt)) (λ _. done (same _ TakeObject ChooseCell st refl refl tt)))
      (λ _. done (held refl)))
  follows (LockCell p) st = ends_need _ _ (λ _. ends_pick _ _ _ (λ _. done (same _ (LockCell p) (LookLast p) st refl refl tt)) (λ _. done (held refl)))
  follows (LookLast p) st = ends_need _ _ (λ _. ends_need _ _ (λ _. ends_pick _ _ _
      (λ _. done (same _ (LookLast p) (CopyLast p k) st refl refl tt))
      (λ _. ends_need _ _ (λ _. ends_pick _ _ _
      (λ _. done (same _ (LookLast p) (CopyLast p _) st refl refl tt))
      (λ _. done (same _ (LookLast p) TakeObject st refl refl tt))))))
  follows (CopyLast p m) st = follow4 p m st
  follows (LowerCount p m) st = ends_need _ _ (λ _. ends_need _ _ (λ _. ends_pick _ _ _
      (λ _. ends_need _ _ (λ _. done (same _ (LowerCount p m) (ReturnBucket p m _) st refl refl tt)))
      (λ _. done (same _ (LowerCount p m) (ErasePlace p m) st refl refl tt))))
  follows (ReturnBucket p m b) st = ends_pick _ _ _ (λ _. done (same _ (ReturnBucket p m b) (ErasePlace p m) st refl refl tt)) (λ _. done (held refl))
  follows (ErasePlace p m) st = ends_need _ _ (λ _. ends_pick _ _ _
      (λ _. done (same _ (ErasePlace p m) ChooseCell st refl refl tt))
      (λ _. ends_need _ _ (λ _. done (same _ (ErasePlace p m) ChooseCell st refl refl tt))))
  follows ChooseCell st = ends_need _ _ (λ _. ends_fork _ _ _
      (λ p _. ends_need _ _ (λ _. done (goes _ ChooseCell ReleaseObject st refl (λ b i. keeps (over p _ refl b i)) tt)))
      (λ _. ends_need _ _ (λ _. ends_pick _ _ _ (λ _. done (same _ ChooseCell MakeRoom st refl refl tt)) (λ _. done (held refl)))))
  follows MakeRoom st = ends_pick _ _ _ (λ _. takes st _)
      (λ _. ends_need _ _ (λ _. ends_need _ _ (λ _. ends_pick _ _ _ (λ _. takes st _) (λ _. done (same _ MakeRoom WriteTuple st refl refl tt)))))
  follows WriteTuple st = follow10 st
  follows (RaiseCount p) st = ends_need _ _ (λ _. done (same _ (RaiseCount p) (SwitchPlace p) st refl refl tt))
  follows (SwitchPlace p) st = ends_need _ _ (λ _. ends_fork _ _ _
      (λ q e. done (same _ (SwitchPlace p) (DeleteOld q) st refl refl (tt, rw (upd_same d.ent k _))))
      (λ e. done (same _ (SwitchPlace p) ReleaseObject st refl refl (tt, rw (upd_same d.ent k _)))))
  follows (DeleteOld p) st = ends_need _ _ (λ _. done (goes _ (DeleteOld p) ReleaseObject st refl (λ b i. keeps (over p _ refl b i)) tt))
  follows ReleaseObject st = ends_need _ _ (λ _. done (same _ ReleaseObject Idle st refl refl tt))
