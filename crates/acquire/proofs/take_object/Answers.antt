-- take_object does what `stage1` says of the index: as the search, look_lock and read_place answer, then as hold_lock does.
use mathlib.Core.Path.{◌≡◌, sym, ◌∙◌}
use native.Mathlib.Omega.{arith}
use Rattle.std.proofs.lemmas.Result.{err_from_is_err_and}
use Rattle.base.specs.Outcome.{and_then}
use Rattle.base.specs.Step.{turn_tells, turn_leaves}
use Rattle.words.specs.Map.{COUNT}
use Rattle.words.proofs.Parts.{part_length}
use Rattle.stage.proofs.Entry.{entry_none, entry_at}
use Rattle.acquire.specs.Acquire.{stage1, after_taking}
use Rattle.acquire.proofs.Landing.{lock_free, lock_stopped, moves, stays}
use Rattle.acquire.proofs.take_object.Goals as goal
use Rattle.acquire.proofs.take_object.Goals.{in-None, in-Some}

pub returns-in_default : goal.returns-in_default
unfolding stage1 turn_tells turn_leaves
returns-in_default c = stays c.args.index.now c.requires _ _ (rw (entry_none _ _ _ c.find_object.ensures c.in_default.is))

pub returns-in_err-look_lock : goal.returns-in_err-look_lock
unfolding stage1
returns-in_err-look_lock c =
    let p = err_from_is_err_and c.from_residual.result c.from_residual.ensures.1 in
    rw (p.1, p.2) (stays c.args.index.now c.requires _ _ (rw (entry_at _ _ _ c.find_object.ensures c.in-Found.is)
    (lock_stopped _ _ _ _ c.in_err-look_lock.ensures)))

pub returns-in_err-previous : goal.returns-in_err-previous
unfolding stage1 and_then turn_tells turn_leaves
returns-in_err-previous c =
    let p = err_from_is_err_and c.from_residual-in_err-previous.result c.from_residual-in_err-previous.ensures.1 in
    rw (p.1, p.2) (stays c.args.index.now c.requires _ _ (rw (
      entry_at _ _ _ c.find_object.ensures c.in-Found.is,
      (lock_free _ _ c.in_ok-look_lock.ensures).1,
      sym c.in_err-previous.ensures,
    )))

pub returns : goal.returns
unfolding stage1 and_then
returns c =
    let n : c.match-previous.next ≡ after_taking c.in_ok-previous.previous = elim c.match-previous.branch [
      | in-None w ↦ rw w.in-None.is w.next-is
      | in-Some w ↦ rw w.in-Some.is w.next-is
    ] in
    moves c.args.index.now c.requires _ _ c.hold_lock.new.locks
    (c.hold_lock.auto.locks ∙ (part_length c.args.index.now COUNT 512 (omega (arith, c.requires)))) (rw (
      entry_at _ _ _ c.find_object.ensures c.in-Found.is,
      (lock_free _ _ c.in_ok-look_lock.ensures).1,
      sym c.in_ok-previous.ensures,
      ← n,
    ) c.hold_lock.ensures)
