-- THE CALLS OVER ALL LANES ARE THOSE IN ONE: `update_start` and `update_step` are `start_one` and `step_one` in the lane that they name, put among the others.
use mathlib.Core.Path.{◌≡◌, refl, sym, ap, ◌∙◌}
use mathlib.Core.List.{List}
use Prim.Native.Nat.{ℕ, suc, ◌≤◌}
use lib.ListN.{get_or}
use borrow.Author.Tests.{le-ltb}
use Rattle.base.specs.Outcome.{Outcome, corrupt, blocked, done, pick}
use Rattle.index.specs.Index.{Index}
use Rattle.stage.specs.declared.Updater.{Updater}
use Rattle.tables.specs.Tables.{Tables, right_lengths}
use Rattle.calls.specs.Call.{after, after_of, placed}
use Rattle.calls.proofs.Lane.{stays, past, steps, no_such}
use Rattle.turns.specs.Stages.{stage_on}
use Rattle.updates.specs.Update.{idle_updater, with_stage, update_start, update_step, started}
use Rattle.updates.specs.One.{started_one, start_one, step_one}

module _ (t : Tables) (us : List Updater) (l : ℕ) where
  abbrev lane : Updater
  lane = get_or us l idle_updater

  entered : (u : Updater) (o : Outcome Index) → after t us (started t us l u o) ≡ placed us l (after t lane (started_one t u o))
  unfolding started started_one after
  entered u corrupt = stays idle_updater t us l 12
  entered u blocked = stays idle_updater t us l 12
  entered u (done d) = refl

  pub start_in : (k x y m : ℕ) → after t us (update_start t us l k x y m) ≡ placed us l (after t lane (start_one t l lane k x y m))
  unfolding update_start start_one
  start_in k x y m =
      past idle_updater t us l _ 12 _ _ (past idle_updater t us l _ 1 _ _ (past idle_updater t us l _ 2 _ _ (past idle_updater t us l _ 4 _ _
      (past idle_updater t us l _ 5 _ _ (past idle_updater t us l _ 31 _ _ (past idle_updater t us l _ 7 _ _ (past idle_updater t us l _ 8 _ _
      (entered _ _))))))))

  pub step_in : after t us (update_step t us l) ≡ placed us l (after t lane (step_one t l lane))
  unfolding update_step step_one
  step_in =
      past idle_updater t us l _ 12 _ _ (past idle_updater t us l _ 1 _ _ (past idle_updater t us l _ 3 _ _
      (steps idle_updater t us l (with_stage lane) (stage_on t (suc l) lane lane.stage))))

  -- a call that is refused leaves the lane as it is, and with it all lanes
  pub start_stays : (k x y m n : ℕ) (t' : Tables) → after t lane (start_one t l lane k x y m) ≡ after_of n t' lane → after t us (update_start t us l k x y m) ≡ after_of n t' us
  start_stays k x y m n t' e = start_in k x y m ∙ ap (placed us l) e ∙ sym (stays idle_updater t' us l n)

  pub step_stays : (n : ℕ) (t' : Tables) → after t lane (step_one t l lane) ≡ after_of n t' lane → after t us (update_step t us l) ≡ after_of n t' us
  step_stays n t' e = step_in ∙ ap (placed us l) e ∙ sym (stays idle_updater t' us l n)

  -- a lane that is none
  module _ (h : 8 ≤ l) (n : ℕ) (e : n ≡ pick (right_lengths t) 1 12) where
    pub start_none : (k x y m : ℕ) → after t us (update_start t us l k x y m) ≡ after_of n t us
    unfolding update_start
    start_none k x y m = rw (le-ltb l 8 h, e) (no_such t us (right_lengths t) _)

    pub step_none : after t us (update_step t us l) ≡ after_of n t us
    unfolding update_step
    step_none = rw (le-ltb l 8 h, e) (no_such t us (right_lengths t) _)
