-- WHAT COMES NEXT: a step of an update that is not blocked leads to a stage that the table of the stages names
-- (`next` of its row).
-- By the definition of each stage: past its tests every way out puts the lane at a stage of its own.
use mathlib.Core.Path.{◌≡◌, refl}
use mathlib.Core.Logic.{◌≢◌, ◌⊎◌, inl, inr}
use Rattle.std.specs.Prelude.{Option, None, Some}
use mathlib.Core.List.{List}
use Prim.Native.Nat.{ℕ}
use Rattle.base.specs.Lists.{In, here, there}
use Rattle.base.specs.Table.{upd}
use Rattle.base.proofs.Table.{upd_same}
use Rattle.layout.specs.declared.place.Place.{Place}
use Rattle.stage.specs.declared.Stage.{Stage}
use Rattle.stage.specs.declared.Stage.TheVariants.{Idle, TakeObject, LockCell, LookLast, CopyLast, LowerCount, ReturnBucket, ErasePlace, ChooseCell, MakeRoom, WriteTuple, RaiseCount, SwitchPlace, DeleteOld, ReleaseObject}
use Rattle.stage.specs.declared.Updater.{Updater}
use Rattle.machine.specs.Ends.{Ends, done, ends_need, ends_pick, ends_then}
use Rattle.machine.specs.Machine.{St, Out, to, fork, stage1, stage2, stage3, stage4, stage5, stage6, stage7, stage8, stage9, take_first, stage10, stage11, stage12, stage13, stage14, do_stage}
use Rattle.stage.specs.StageTable.{row}
use Rattle.machine.specs.Store.{StoreOps}

-- blocked, or the lane is at one of these stages
abbrev Leads : ℕ → List ℕ → Out → Type 0
Leads l ns r = (r.1 ≡ 20) ⊎ In (row (r.0.lanes l).stage).number ns

-- either way of a fork
ends_fork : {P : Out → Type 0} (o : Option Place) (f : Place → Option Out) (b : Option Out)
    → ((p : Place) → Ends P (Unit {0}) (f p)) → Ends P (Unit {0}) b → Ends P (Unit {0}) (fork o f b)
unfolding fork
ends_fork None f b s n = n
ends_fork (Some p) f b s n = s p

module _ (O : StoreOps) (l : ℕ) (a : Updater) (d : St) where
  -- the lane put at a stage is at it
  goes : {n : ℕ} {ns : List ℕ} (s : Stage) → In (row s).number ns
      → (n ≡ 20) ⊎ In (row (upd d.lanes l (to a s) l).stage).number ns
  goes s i = inr (rw (upd_same d.lanes l (to a s)) i)

  -- A STEP LEADS WHERE THE TABLE SAYS.
  pub leads : (s : Stage) → s ≢ Idle → Ends (Leads l (row s).next) (Unit {0}) (do_stage O l a d s)
  unfolding do_stage stage1 stage2 stage3 stage4 stage5 stage6 stage7 stage8 stage9 take_first stage10 stage11 stage12 stage13 stage14
  leads Idle n = absurd (n refl)
  leads TakeObject n = ends_need _ _ (λ _. ends_pick _ _ _
      (λ _. ends_fork _ _ _ (λ p. done (goes (LockCell p) here)) (done (goes ChooseCell (there here))))
      (λ _. done (inl refl)))
  leads (LockCell p) n = ends_need _ _ (λ _. ends_pick _ _ _ (λ _. done (goes (LookLast p) here))
      (λ _. done (inl refl)))
  leads (LookLast p) n = ends_need _ _ (λ _. ends_need _ _ (λ _. ends_pick _ _ _
      (λ _. done (goes (CopyLast p a.oid) here))
      (λ _. ends_need _ _ (λ _. ends_pick _ _ _ (λ _. done (goes (CopyLast p _) here))
      (λ _. done (goes TakeObject (there here)))))))
  leads (CopyLast p m) n = ends_need _ _ (λ _. ends_need _ _ (λ _. done (goes (LowerCount p m) here)))
  leads (LowerCount p m) n = ends_need _ _ (λ _. ends_need _ _ (λ _. ends_pick _ _ _
      (λ _. ends_need _ _ (λ _. done (goes (ReturnBucket p m _) here)))
      (λ _. done (goes (ErasePlace p m) (there here)))))
  leads (ReturnBucket p m b) n = ends_pick _ _ _ (λ _. done (goes (ErasePlace p m) here)) (λ _. done (inl refl))
  leads (ErasePlace p m) n = ends_need _ _ (λ _. ends_pick _ _ _
      (λ _. done (goes ChooseCell here)) (λ _. ends_need _ _ (λ _. done (goes ChooseCell here))))
  leads ChooseCell n = ends_need _ _ (λ _. ends_fork _ _ _
      (λ p. ends_need _ _ (λ _. done (goes ReleaseObject (there here))))
      (ends_need _ _ (λ _. ends_pick _ _ _ (λ _. done (goes MakeRoom here)) (λ _. done (inl refl)))))
  leads MakeRoom n = ends_pick _ _ _
      (λ _. ends_then _ _ (λ r _. ends_need _ _ (λ _. done (goes WriteTuple here))))
      (λ _. ends_need _ _ (λ _. ends_need _ _ (λ _. ends_pick _ _ _
      (λ _. ends_then _ _ (λ r _. ends_need _ _ (λ _. done (goes WriteTuple here))))
      (λ _. done (goes WriteTuple here)))))
  leads WriteTuple n = ends_need _ _ (λ _. ends_need _ _ (λ _. ends_need _ _ (λ _. done (goes (RaiseCount _) here))))
  leads (RaiseCount p) n = ends_need _ _ (λ _. done (goes (SwitchPlace p) here))
  leads (SwitchPlace p) n = ends_need _ _ (λ _. ends_fork _ _ _ (λ q. done (goes (DeleteOld q) here))
      (done (goes ReleaseObject (there here))))
  leads (DeleteOld p) n = ends_need _ _ (λ _. done (goes ReleaseObject here))
  leads ReleaseObject n = ends_need _ _ (λ _. done (goes Idle here))
