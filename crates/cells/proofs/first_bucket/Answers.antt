-- first_bucket answers what `first_bucket` says: one case for each return, by the tests that led there.
use borrow.Author.Tests.{le-ltb, lt-ltb}
use Rattle.base.specs.Outcome.{need}
use Rattle.tables.proofs.Grid.{first_at}
use Rattle.cells.specs.Chain.{first_bucket}
use Rattle.cells.proofs.first_bucket.Goals as goal

pub returns-then-cell-ge-CELL_COUNT : goal.returns-then-cell-ge-CELL_COUNT
unfolding first_bucket need
returns-then-cell-ge-CELL_COUNT c ts = rw (le-ltb _ _ c.if-cell-ge-CELL_COUNT.true)

pub returns-then-bucket-ge-BUCKET_COUNT : goal.returns-then-bucket-ge-BUCKET_COUNT
unfolding first_bucket need
returns-then-bucket-ge-BUCKET_COUNT c ts =
    rw (
      lt-ltb _ _ c.if-cell-ge-CELL_COUNT.false,
      first_at c.args.words.now ts c.args.cell c.if-cell-ge-CELL_COUNT.false,
      le-ltb _ _ c.if-bucket-ge-BUCKET_COUNT.true,
    )

pub returns : goal.returns
unfolding first_bucket need
returns c ts =
    rw (
      lt-ltb _ _ c.if-cell-ge-CELL_COUNT.false,
      first_at c.args.words.now ts c.args.cell c.if-cell-ge-CELL_COUNT.false,
      lt-ltb _ _ c.if-bucket-ge-BUCKET_COUNT.false,
    )
