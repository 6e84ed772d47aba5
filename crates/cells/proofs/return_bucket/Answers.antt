-- return_bucket does what `give_back` says: by the tests that led to each return, then as give_bucket answers.
use Rattle.std.proofs.Common.{rules}
use Rattle.std.proofs.lemmas.Result.{err_from_is_err_and}
use Prim.Native.Nat.{◌+◌}
use borrow.Author.Tests.{le-leb, le-ltb, lt-leb, lt-ltb, ne_eqb}
use Rattle.base.specs.Outcome.{need, awaits, tells}
use Rattle.base.specs.Table.{at}
use Rattle.words.specs.Map.{READERS}
use Rattle.tables.specs.Grid.{grid}
use Rattle.tables.proofs.Grid.{readers_at, pool_lent}
use Rattle.cells.specs.Chain.{give_back}
use Rattle.base.proofs.Ends.{refuses, waits}
use Rattle.cells.proofs.Doing.{returned}
use Rattle.cells.proofs.Stored.{stored_pool}
use Rattle.cells.proofs.return_bucket.Goals as goal

pub returns-then-bucket-ge-BUCKET_COUNT : goal.returns-then-bucket-ge-BUCKET_COUNT
unfolding give_back need awaits tells
returns-then-bucket-ge-BUCKET_COUNT c ts = refuses _ _ _ _ (rw (le-ltb _ _ c.if-bucket-ge-BUCKET_COUNT.true))

pub returns-then-n-gt-QUERY_COUNT : goal.returns-then-n-gt-QUERY_COUNT
unfolding give_back need awaits tells
returns-then-n-gt-QUERY_COUNT c ts =
    refuses _ _ _ _ (rw (
      lt-ltb _ _ c.if-bucket-ge-BUCKET_COUNT.false,
      readers_at c.args.words.now ts
          c.args.bucket c.if-bucket-ge-BUCKET_COUNT.false,
      lt-leb _ _ c.if-n-gt-QUERY_COUNT.true,
    ))

pub returns-then-n-ne0 : goal.returns-then-n-ne0
unfolding give_back need awaits tells
returns-then-n-ne0 c ts =
    waits _ _ _ _ (rw (
      lt-ltb _ _ c.if-bucket-ge-BUCKET_COUNT.false,
      readers_at c.args.words.now ts c.args.bucket
          c.if-bucket-ge-BUCKET_COUNT.false,
      le-leb _ _ c.if-n-gt-QUERY_COUNT.false,
      ne_eqb _ _ c.if-n-ne0.true,
    ))

pub returns-in_err-give_bucket : goal.returns-in_err-give_bucket
unfolding tells
returns-in_err-give_bucket c ts =
    let w = c.args.words.now in
    let p = err_from_is_err_and c.from_residual.result c.from_residual.ensures.1 in
    rw (p.1, p.2) (returned (grid w ts) c.args.bucket (at w (READERS + c.args.bucket)) c.if-bucket-ge-BUCKET_COUNT.false
    (readers_at w ts c.args.bucket c.if-bucket-ge-BUCKET_COUNT.false) c.if-n-gt-QUERY_COUNT.false c.if-n-ne0.false _
    c.give_bucket.new.pool (rw (pool_lent w ts (search rules)) at c.in_err-give_bucket.ensures) _
    (stored_pool w (search rules) c.give_bucket.new.pool c.give_bucket.auto.pool ts))

pub returns : goal.returns
unfolding tells
returns c ts =
    let w = c.args.words.now in
    returned (grid w ts) c.args.bucket (at w (READERS + c.args.bucket)) c.if-bucket-ge-BUCKET_COUNT.false
    (readers_at w ts c.args.bucket c.if-bucket-ge-BUCKET_COUNT.false) c.if-n-gt-QUERY_COUNT.false c.if-n-ne0.false _
    c.give_bucket.new.pool (rw (pool_lent w ts (search rules)) at c.in_ok-give_bucket.ensures) _
    (stored_pool w (search rules) c.give_bucket.new.pool c.give_bucket.auto.pool ts)
