-- last_tuple answers what `last` says: as first_bucket answers, then by the tests that led to each return.
use Rattle.std.proofs.lemmas.Result.{err_from_is_err_and}
use Prim.Native.Nat.{◌+◌, ◌-◌, ◌*◌}
use native.Mathlib.Omega.{arith}
use borrow.Author.Tests.{eq-eqb, le-leb, lt-leb, ne_eqb}
use Rattle.base.specs.Outcome.{need, and_then}
use mathlib.Core.Path.{sym}
use Rattle.base.specs.Table.{at}
use Rattle.words.specs.Map.{COUNT}
use Rattle.tables.specs.Grid.{grid}
use Rattle.tables.proofs.Grid.{count_at, owner_at}
use Rattle.cells.specs.Chain.{last_in, need_some}
use Rattle.cells.specs.On.{first_on}
use Rattle.cells.proofs.First.{First, found_first}
use Rattle.cells.proofs.Doing.{no_count, lt_last}
use Rattle.cells.proofs.last_tuple.Goals as goal

pub returns-in_err-bucket : goal.returns-in_err-bucket
unfolding last_in and_then
returns-in_err-bucket c ts =
    rw ((err_from_is_err_and c.from_residual.result c.from_residual.ensures.1).1, sym (c.in_err-bucket.ensures ts))

pub bounds-words-bucket : goal.bounds-words-bucket
bounds-words-bucket c =
    let first : First c.args.words.now c.args.cell c.in_ok-bucket.bucket = found_first _ _ _ c.in_ok-bucket.ensures in
    omega (arith, first)

pub returns-then-n-eq0 : goal.returns-then-n-eq0
unfolding last_in and_then
returns-then-n-eq0 c ts =
    let first : First c.args.words.now c.args.cell c.in_ok-bucket.bucket = found_first _ _ _ c.in_ok-bucket.ensures in
    rw (first.is ts, count_at c.args.words.now ts c.in_ok-bucket.bucket first.bucket<, no_count _ _ c.then-n-eq0.either)

pub overflow_mul-oid : goal.overflow_mul-oid
overflow_mul-oid c =
    let first : First c.args.words.now c.args.cell c.in_ok-bucket.bucket = found_first _ _ _ c.in_ok-bucket.ensures in
    omega (arith, first)

pub overflow_add-oid : goal.overflow_add-oid
overflow_add-oid c =
    let first : First c.args.words.now c.args.cell c.in_ok-bucket.bucket = found_first _ _ _ c.in_ok-bucket.ensures in
    omega (arith, first)

pub bounds-words-bucket-2 : goal.bounds-words-bucket-2
bounds-words-bucket-2 c =
    let first : First c.args.words.now c.args.cell c.in_ok-bucket.bucket = found_first _ _ _ c.in_ok-bucket.ensures in
    omega (arith, first)

pub returns : goal.returns
unfolding last_in need_some need and_then
returns c ts =
    let first : First c.args.words.now c.args.cell c.in_ok-bucket.bucket = found_first _ _ _ c.in_ok-bucket.ensures in
    let w = c.args.words.now in
    let b = c.in_ok-bucket.bucket in
    rw (
      first.is ts,
      count_at w ts b first.bucket<,
      ne_eqb _ _ c.if-n-eq0.false,
      le-leb _ _ c.if-n-gt-BUCKET_SLOTS.false,
      owner_at w ts (4 * b + (at w (COUNT + b) - 1))
          (lt_last first.bucket< c.if-n-eq0.false c.if-n-gt-BUCKET_SLOTS.false),
    )
