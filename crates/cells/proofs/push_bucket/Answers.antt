-- push_bucket does what `push` says: by the test, then as take_bucket answers and link_bucket does.
use Rattle.std.proofs.Common.{rules}
use Rattle.std.proofs.lemmas.Result.{err_from_is_err_and}
use mathlib.Core.Path.{sym, ap, ◌∙◌}
use borrow.Author.Tests.{le-ltb}
use Rattle.base.specs.Outcome.{need, and_then, tells}
use Rattle.pool.specs.Pool.{take_top}
use Rattle.base.proofs.Answer.{gave_corrupt, gave_done}
use Rattle.pool.proofs.Laws.{take_below}
use Rattle.tables.specs.Tables.{Tables, with_pool}
use Rattle.tables.specs.Grid.{grid}
use Rattle.tables.proofs.Grid.{pool_lent}
use Rattle.cells.specs.Chain.{push}
use Rattle.cells.specs.On.{linked}
use Rattle.base.proofs.Ends.{refuses}
use Rattle.cells.proofs.Doing.{took, pushed, dry}
use Rattle.cells.proofs.Stored.{stored_pool}
use Rattle.cells.proofs.push_bucket.Goals as goal

pub returns-then-cell-ge-CELL_COUNT : goal.returns-then-cell-ge-CELL_COUNT
unfolding push need and_then tells
returns-then-cell-ge-CELL_COUNT c ts = refuses _ _ _ _ (rw (le-ltb _ _ c.if-cell-ge-CELL_COUNT.true))

pub returns-in_err-bucket : goal.returns-in_err-bucket
unfolding tells
returns-in_err-bucket c ts =
    let w = c.args.words.now in
    let e = gave_corrupt _ _ _ _ _ c.take_bucket.ensures c.in_err-bucket.was in
    rw (err_from_is_err_and c.from_residual.result c.from_residual.ensures.1).1
    (dry (grid w ts) c.args.cell c.if-cell-ge-CELL_COUNT.false
    (ap take_top (sym (pool_lent w ts (search rules))) ∙ e.0) _
    (stored_pool w (search rules) c.take_bucket.new.pool c.take_bucket.auto.pool ts ∙ ap (with_pool (grid w ts))
    (e.1 ∙ pool_lent w ts (search rules))))

pub link_bucket-requires : goal.link_bucket-requires
link_bucket-requires c =
    (c.if-cell-ge-CELL_COUNT.false, take_below _ _ (took (gave_done _ _ _ _ _ c.take_bucket.ensures c.in_ok-bucket.was)))

pub returns : goal.returns
unfolding tells
returns c ts =
    let w = c.args.words.now in
    pushed (grid w ts) c.args.cell _ c.take_bucket.new.pool
    c.if-cell-ge-CELL_COUNT.false (ap take_top (sym (pool_lent w ts (search rules))) ∙
    took (gave_done _ _ _ _ _ c.take_bucket.ensures c.in_ok-bucket.was)) _
    (c.link_bucket.ensures ts ∙ ap
    (λ (t : Tables). linked t c.args.cell c.in_ok-bucket.bucket)
    (stored_pool w (search rules) c.take_bucket.new.pool c.take_bucket.auto.pool ts))
