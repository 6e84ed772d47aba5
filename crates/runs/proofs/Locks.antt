-- Locks both ways (specs/Locks.antt). One way is `locks_owned` and `objects_owned`; the other is the invariant's: at a
-- stage that holds a cell or an object the lock has the lane's number. The invariant has a test for each kind of lock
-- and a function for what is held; stage by stage they say what the statement's lists say. An object whose lock is not
-- free is known.
use mathlib.Core.Path.{◌≡◌, refl, sym, ap, ◌∙◌}
use mathlib.Core.Logic.{◌⊎◌, inl, inr, ⊎_elim}
use Rattle.std.specs.Prelude.{Option, None, Some}
use mathlib.Core.List.{[], ◌∷◌}
use Prim.Native.Nat.{ℕ, suc, ◌<◌}
use lib.Dec.{T}
use Rattle.base.specs.Lists.{In, in-none, in-or, in_one}
use Rattle.base.specs.Table.{at}
use Rattle.base.proofs.Table.{clash}
use Rattle.index.specs.Index.{Entry, entry_for}
use Rattle.stage.specs.declared.Stage.{Stage}
use Rattle.stage.specs.declared.Stage.TheVariants.{Idle, TakeObject, LockCell, LookLast, CopyLast, LowerCount, ReturnBucket, ErasePlace, ChooseCell, MakeRoom, WriteTuple, RaiseCount, SwitchPlace, DeleteOld, ReleaseObject}
use Rattle.grid.specs.Run.{Grid}
use Rattle.tuples.proofs.Inv.{cel_held, stage_holds_own, mov_held, cl, mv, goal}
use Rattle.runs.specs.Locks.{Locked, HoldsObject, LocksExact}
use Rattle.runs.specs.Quiet.{updater, held_cell, HoldsCell, held_objects}
use Rattle.runs.proofs.Every.{Good}
use Rattle.runs.proofs.Quiet.{locks_owned, objects_owned}
use Rattle.runs.proofs.View.{view, lock_f}

-- the cell that the statement gives a stage is the invariant's
cell_held : (s : Stage) (c d : ℕ) → held_cell s c ≡ Some d → T (cel_held s) × (cl c s ≡ d)
unfolding held_cell cel_held cl
cell_held Idle c d e = clash (cc)
cell_held TakeObject c d e = clash (cc)
cell_held (LockCell p) c d e = clash (cc)
cell_held (LookLast p) c d e = (tt, cc)
cell_held (CopyLast p m) c d e = (tt, cc)
cell_held (LowerCount p m) c d e = (tt, cc)
cell_held (ReturnBucket p m b) c d e = (tt, cc)
cell_held (ErasePlace p m) c d e = (tt, cc)
cell_held ChooseCell c d e = clash (cc)
cell_held MakeRoom c d e = (tt, cc)
cell_held WriteTuple c d e = (tt, cc)
cell_held (RaiseCount p) c d e = (tt, cc)
cell_held (SwitchPlace p) c d e = (tt, cc)
cell_held (DeleteOld p) c d e = clash (cc)
cell_held ReleaseObject c d e = clash (cc)

-- the object that an update holds at a stage, k its own
abbrev Held : Stage → ℕ → ℕ → Type 0
Held s k j = (T (stage_holds_own s) × (j ≡ k)) ⊎ (T (mov_held s) × (j ≡ mv k s))

-- a list of one object, its own, or of two, its own and the moved one
one-held : (s : Stage) (k j : ℕ) → T (stage_holds_own s) → In j (k ∷ []) → Held s k j
one-held s k j o i = inl (o, in_one i)

two_held : (s : Stage) (k j : ℕ) → T (stage_holds_own s) → T (mov_held s) → In j (k ∷ mv k s ∷ []) → Held s k j
two_held s k j o m i = ⊎_elim (λ (e : j ≡ k). inl (o, e)) (λ (r : In j (mv k s ∷ [])). inr (m, in_one r)) (in-or i)

object_held : (s : Stage) (k j : ℕ) → In j (held_objects s k) → Held s k j
unfolding held_objects stage_holds_own mov_held mv
object_held Idle k j i = absurd (in-none i)
object_held TakeObject k j i = absurd (in-none i)
object_held (LockCell p) k j i = one-held (LockCell p) k j tt i
object_held (LookLast p) k j i = one-held (LookLast p) k j tt i
object_held (CopyLast p m) k j i = two_held (CopyLast p m) k j tt tt i
object_held (LowerCount p m) k j i = two_held (LowerCount p m) k j tt tt i
object_held (ReturnBucket p m b) k j i = two_held (ReturnBucket p m b) k j tt tt i
object_held (ErasePlace p m) k j i = two_held (ErasePlace p m) k j tt tt i
object_held ChooseCell k j i = one-held ChooseCell k j tt i
object_held MakeRoom k j i = one-held MakeRoom k j tt i
object_held WriteTuple k j i = one-held WriteTuple k j tt i
object_held (RaiseCount p) k j i = one-held (RaiseCount p) k j tt i
object_held (SwitchPlace p) k j i = one-held (SwitchPlace p) k j tt i
object_held (DeleteOld p) k j i = one-held (DeleteOld p) k j tt i
object_held ReleaseObject k j i = one-held ReleaseObject k j tt i

-- an object whose lock is not free has an entry
lock_some : (o : Option Entry) (l : ℕ) → lock_f o ≡ suc l → (e : Entry) × (o ≡ Some e) × (e.lock ≡ suc l)
unfolding lock_f
lock_some None l z = clash (cc)
lock_some (Some e) l z = (e, refl, z)

module _ (g : Grid) (G : Good g) where
  has_cell : (c l : ℕ) → l < 8 → HoldsCell (updater g l) c → at g.tables.cells c ≡ suc l
  unfolding view
  has_cell c l l< h =
      let w = cell_held (updater g l).stage (goal (updater g l)) c h in
      ap (at g.tables.cells) (sym w.1) ∙ G.inv.cells.mine l l< w.0

  cell_within : (c l : ℕ) → l < 8 → HoldsCell (updater g l) c → c < 256
  unfolding view
  cell_within c l l< h = (G.inv.cells.his c l (has_cell c l l< h)).3

  has_object : (k l : ℕ) → HoldsObject g l k → Locked g k l
  unfolding view
  has_object k l h =
      let a = updater g l in
      lock_some (entry_for g.tables.index k) l
      (⊎_elim
      (λ (o : T (stage_holds_own a.stage) × (k ≡ a.oid)). rw o.1 (G.inv.objs.own l h.0 o.0))
      (λ (o : T (mov_held a.stage) × (k ≡ mv a.oid a.stage)). rw o.1 (G.inv.objs.mov l h.0 o.0))
      (object_held a.stage a.oid k h.1))

  pub locks_exact : LocksExact g
  locks_exact = record {
    cells = λ c l c<. (λ e. locks_owned g G c l c< e, λ h. has_cell c l h.0 h.1);
    within = cell_within;
    objects = λ k l. (λ w. objects_owned g G k l w.0 w.1 w.2, has_object k l);
  }
