-- Each stage among all is the one that its own crate defines on all tables; one on the index or on the cells' locks is seen on all tables in the words.
use mathlib.Core.Path.{◌≡◌, refl, sym, ap, ◌∙◌}
use mathlib.Core.List.{List}
use Prim.Native.Nat.{ℕ}
use lib.IntN.{ℤ}
use lib.ListN.{length}
use Rattle.base.specs.Outcome.{Outcome, corrupt, blocked, done}
use Rattle.base.specs.Step.{Said, Step, turned, turn_tells, turn_leaves, lift}
use Rattle.base.proofs.Step.{lifted}
use Rattle.words.specs.Map.{WORDS}
use Rattle.words.specs.Words.{cells_in, index_in, put_cells, put_index}
use Rattle.std.specs.Prelude.{Err}
use Rattle.base.specs.declared.Stop.TheVariants.{Corrupt}
use Rattle.layout.specs.declared.place.Place.{Place}
use Rattle.index.specs.Index.{index_at, with_lock}
use Rattle.tables.specs.Tables.{Tables, with_cells, with_index, with_locks}
use Rattle.tables.specs.Grid.{grid}
use Rattle.tables.proofs.Grid.{put_cells_lem, put_index_lem}
use Rattle.stage.specs.Turn.{Move, turn_says}
use Rattle.stage.specs.declared.Stage.{Stage}
use Rattle.stage.specs.declared.Stage.TheVariants.{Idle, TakeObject, LockCell, LookLast, CopyLast, LowerCount, ReturnBucket, ErasePlace, ChooseCell, MakeRoom, WriteTuple, RaiseCount, SwitchPlace, DeleteOld, ReleaseObject}
use Rattle.stage.specs.declared.Updater.{Updater}
use Rattle.acquire.specs.Acquire.{stage1, stage2, stage14}
use Rattle.acquire.specs.On.{take_on, end_on, last_on}
use Rattle.erase.specs.On.{stage4_on, stage5_on, stage6_on, stage7_on}
use Rattle.choose.specs.On.{stage8_on}
use Rattle.write.specs.On.{stage9_on, stage10_on}
use Rattle.commit.specs.On.{stage11_on, stage12_on, stage13_on}
use Rattle.turns.specs.Stages.{stage_on}

-- lifted twice
lift_lift : {S A B C : Type 0} (g : B → C) (h : A → B) (o : Outcome (Step S A)) → lift g (lift h o) ≡ lift (λ (a : A). g (h a)) o
unfolding lift
lift_lift g h corrupt = refl
lift_lift g h blocked = refl
lift_lift g h (done m) = refl

module _ (w : List ℕ) (ts : List ℤ) (w# : length w ≡ WORDS) (s : Said Stage) where
  pub index_on : (o : Outcome (Move (List ℕ))) (v : List ℕ) → length v ≡ 2048 → turned (index_at (index_in w)) (lift (with_lock (index_at (index_in w))) o) ≡ (s, index_at v) →
      turned (grid w ts) (lift (with_locks (grid w ts)) o) ≡ (s, grid (put_index w v) ts)
  unfolding grid
  index_on o v v# e =
      ap (turned (grid w ts)) (sym (lift_lift (with_index (grid w ts)) (with_lock (index_at (index_in w))) o))
      ∙ lifted (with_index (grid w ts)) (index_at (index_in w)) (lift (with_lock (index_at (index_in w))) o) s (index_at v) e
      ∙ ap (λ (t : Tables). (s, t)) (sym (put_index_lem w ts w# v v#))

  pub cells_on : (o : Outcome (Move (List ℕ))) (v : List ℕ) → length v ≡ 256 → turned (cells_in w) o ≡ (s, v) → turned (grid w ts) (lift (with_cells (grid w ts)) o) ≡ (s, grid (put_cells w v) ts)
  unfolding grid
  cells_on o v v# e = lifted (with_cells (grid w ts)) (cells_in w) o s v e ∙ ap (λ (t : Tables). (s, t)) (sym (put_cells_lem w ts w# v v#))

-- ---- each stage among all

module _ (t : Tables) (o : ℕ) (u : Updater) (s : Stage) where
  -- the stage that it is
  pub known : (s' : Stage) → s ≡ s' → turned t (stage_on t o u s) ≡ turned t (stage_on t o u s')
  known s' q = ap (λ (x : Stage). turned t (stage_on t o u x)) q

  pub idles : s ≡ Idle → turned t (stage_on t o u s) ≡ (turn_says (Err Corrupt), t)
  unfolding stage_on turn_tells turn_leaves
  idles q = known Idle q

  pub looks : (p : Place) → s ≡ LookLast p → turned t (stage_on t o u s) ≡ turned t (last_on t p u.oid o)
  unfolding stage_on last_on
  looks p q = known (LookLast p) q

  pub copies : (p : Place) (m : ℕ) → s ≡ CopyLast p m → turned t (stage_on t o u s) ≡ turned t (stage4_on t p m)
  unfolding stage_on
  copies p m q = known (CopyLast p m) q

  pub lowers : (p : Place) (m : ℕ) → s ≡ LowerCount p m → turned t (stage_on t o u s) ≡ turned t (stage5_on t p m)
  unfolding stage_on
  lowers p m q = known (LowerCount p m) q

  pub returned : (p : Place) (m b : ℕ) → s ≡ ReturnBucket p m b → turned t (stage_on t o u s) ≡ turned t (stage6_on t p m b)
  unfolding stage_on
  returned p m b q = known (ReturnBucket p m b) q

  pub erases : (p : Place) (m : ℕ) → s ≡ ErasePlace p m → turned t (stage_on t o u s) ≡ turned t (stage7_on t p m u.oid)
  unfolding stage_on stage7_on
  erases p m q = known (ErasePlace p m) q

  pub chooses : s ≡ ChooseCell → turned t (stage_on t o u s) ≡ turned t (stage8_on t u.oid u.x u.y u.tag o)
  unfolding stage_on stage8_on
  chooses q = known ChooseCell q

  pub makes_room : s ≡ MakeRoom → turned t (stage_on t o u s) ≡ turned t (stage9_on t u.x u.y)
  unfolding stage_on
  makes_room q = known MakeRoom q

  pub writes : s ≡ WriteTuple → turned t (stage_on t o u s) ≡ turned t (stage10_on t u.oid u.x u.y u.tag)
  unfolding stage_on
  writes q = known WriteTuple q

  pub raises : (p : Place) → s ≡ RaiseCount p → turned t (stage_on t o u s) ≡ turned t (stage11_on t p)
  unfolding stage_on
  raises p q = known (RaiseCount p) q

  pub switches : (p : Place) → s ≡ SwitchPlace p → turned t (stage_on t o u s) ≡ turned t (stage12_on t p u.oid)
  unfolding stage_on stage12_on
  switches p q = known (SwitchPlace p) q

  pub deletes : (p : Place) → s ≡ DeleteOld p → turned t (stage_on t o u s) ≡ turned t (stage13_on t p)
  unfolding stage_on stage13_on
  deletes p q = known (DeleteOld p) q

-- those that are lent a part of the words
module _ (w : List ℕ) (ts : List ℤ) (w# : length w ≡ WORDS) (o : ℕ) (u : Updater) (s : Stage) (r : Said Stage) where
  abbrev Does : List ℕ → Type 0
  Does w' = turned (grid w ts) (stage_on (grid w ts) o u s) ≡ (r, grid w' ts)

  pub takes : s ≡ TakeObject → (v : List ℕ) → length v ≡ 2048 → turned (index_at (index_in w)) (take_on (index_at (index_in w)) u.oid o) ≡ (r, index_at v) → Does (put_index w v)
  unfolding stage_on grid
  takes q v v# e = known (grid w ts) o u s TakeObject q ∙ index_on w ts w# r (stage1 (index_at (index_in w)).oid (index_at (index_in w)).lock (index_at (index_in w)).previous u.oid o) v v# e

  pub locks_cell : (p : Place) → s ≡ LockCell p → (v : List ℕ) → length v ≡ 256 → turned (cells_in w) (stage2 (cells_in w) p o) ≡ (r, v) → Does (put_cells w v)
  unfolding stage_on grid
  locks_cell p q v v# e = known (grid w ts) o u s (LockCell p) q ∙ cells_on w ts w# r (stage2 (cells_in w) p o) v v# e

  pub releases : s ≡ ReleaseObject → (v : List ℕ) → length v ≡ 2048 → turned (index_at (index_in w)) (end_on (index_at (index_in w)) u.oid) ≡ (r, index_at v) → Does (put_index w v)
  unfolding stage_on grid
  releases q v v# e = known (grid w ts) o u s ReleaseObject q ∙ index_on w ts w# r (stage14 (index_at (index_in w)).oid (index_at (index_in w)).lock u.oid) v v# e
