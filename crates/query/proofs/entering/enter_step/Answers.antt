-- enter_step does what `enter_step` says: as look_lock answered, then as enter_free does.
use mathlib.Core.Path.{sym, ◌∙◌}
use Rattle.std.proofs.lemmas.Result.{err_from_is_err_and}
use Rattle.base.specs.Outcome.{need, and_then, tells, nothing}
use Rattle.base.proofs.Outcome.{told_done}
use Rattle.locks.specs.Lock.{look}
use Rattle.tables.specs.Grid.{grid}
use Rattle.query.specs.Scan.{enter_step}
use Rattle.query.proofs.Landing.{lock_off}
use Rattle.query.proofs.entering.enter_step.Goals as goal

pub returns-in_err-look_lock : goal.returns-in_err-look_lock
unfolding enter_step need grid
returns-in_err-look_lock c ts =
    let p = err_from_is_err_and c.from_residual.result c.from_residual.ensures.1 in
    rw (p.1, p.2, sym c.is_visited.ensures ∙ c.if-not-is_visited.false) (lock_off (grid c.args.words.now ts) (look _ _) _ _ c.in_err-look_lock.ensures)

pub returns : goal.returns
unfolding enter_step need and_then tells grid
returns c ts =
    rw (sym c.is_visited.ensures ∙ c.if-not-is_visited.false, (told_done nothing (look _ _) c.in_ok-look_lock.ensures).1)
    (c.enter_free.ensures ts)
