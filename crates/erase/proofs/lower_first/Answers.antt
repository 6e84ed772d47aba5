-- lower_first does what `stage5` says: as lower_count answers.
use mathlib.Core.Path.{◌∙◌}
use Rattle.std.proofs.lemmas.Result.{err_from_is_err_and}
use Rattle.base.proofs.Answer.{gave_corrupt, gave_done}
use Rattle.tables.specs.Grid.{grid}
use Rattle.erase.proofs.Stages.{lower_lost, lower_done}
use Rattle.erase.proofs.lower_first.Goals as goal

pub returns-in_err-unlinked : goal.returns-in_err-unlinked
returns-in_err-unlinked c ts =
    let p = err_from_is_err_and c.from_residual.result c.from_residual.ensures.1 in
    let e = gave_corrupt _ _ _ _ _ (c.lower_count.ensures ts) c.in_err-unlinked.was in
    rw (p.1, p.2) (lower_lost (grid c.args.words.now ts) _ c.args.place c.args.moved e.0 e.1)

pub returns-in-None : goal.returns-in-None
returns-in-None c ts =
    let e = gave_done _ _ _ _ _ (c.lower_count.ensures ts) c.in_ok-unlinked.was in
    lower_done (grid c.args.words.now ts) _ c.args.place c.args.moved _ _ e.1 (e.2 ∙ c.in-None.is) e.3

pub returns-in-Some : goal.returns-in-Some
returns-in-Some c ts =
    let e = gave_done _ _ _ _ _ (c.lower_count.ensures ts) c.in_ok-unlinked.was in
    lower_done (grid c.args.words.now ts) _ c.args.place c.args.moved _ _ e.1 (e.2 ∙ c.in-Some.is) e.3
