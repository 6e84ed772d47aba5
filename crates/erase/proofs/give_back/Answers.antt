-- give_back does what `stage6` says: as return_bucket ends.
use Rattle.std.proofs.lemmas.Result.{err_from_is_err_and}
use Rattle.tables.specs.Tables.{with_pool}
use Rattle.tables.specs.Grid.{grid}
use Rattle.cells.specs.On.{give_back_on}
use Rattle.stage.proofs.After.{change_stopped, change_made}
use Rattle.erase.specs.Erase.{stage6}
use Rattle.erase.proofs.give_back.Goals as goal

pub returns-in_err-return_bucket : goal.returns-in_err-return_bucket
unfolding stage6
returns-in_err-return_bucket c ts =
    let t = grid c.args.words.now ts in
    let p = err_from_is_err_and c.from_residual.result c.from_residual.ensures.1 in
    rw (p.1, p.2) (change_stopped (with_pool t) t _ (give_back_on t c.args.bucket) _ _ (c.in_err-return_bucket.ensures ts))

pub returns : goal.returns
unfolding stage6
returns c ts =
    let t = grid c.args.words.now ts in
    change_made (with_pool t) t _ (give_back_on t c.args.bucket) _ _ (c.in_ok-return_bucket.ensures ts)
