-- write_tuple does what `write` says: as first_bucket answers, by the test of the count, then as overwrite_slot does.
use Prim.Native.Nat.{◌+◌}
use native.Mathlib.Omega.{arith}
use borrow.Author.Tests.{le-ltb}
use mathlib.Core.Path.{refl, sym}
use Rattle.std.proofs.lemmas.Result.{err_from_is_err_and}
use Rattle.base.specs.Outcome.{need, and_then, outcome_map, leaves}
use Rattle.base.proofs.Answer.{gives_none, changed_in_corrupt, changed_in_done}
use Rattle.base.specs.Table.{at}
use Rattle.words.specs.Map.{COUNT}
use Rattle.tables.specs.Tables.{with_tuples}
use Rattle.tables.specs.Grid.{grid}
use Rattle.tables.proofs.Grid.{count_at}
use Rattle.cells.specs.Chain.{write}
use Rattle.cells.specs.On.{first_on, overwrite_on}
use Rattle.cells.proofs.First.{First, found_first}
use Rattle.cells.proofs.Doing.{written, unwritten}
use Rattle.cells.proofs.write_tuple.Goals as goal

pub returns-in_err-bucket : goal.returns-in_err-bucket
unfolding write and_then outcome_map leaves
returns-in_err-bucket c =
    rw ((err_from_is_err_and c.from_residual.result c.from_residual.ensures.1).1, sym (c.in_err-bucket.ensures c.args.times.now))

pub bounds-words-bucket : goal.bounds-words-bucket
bounds-words-bucket c =
    let first : First c.args.words.now c.args.cell c.in_ok-bucket.bucket = found_first _ _ _ c.in_ok-bucket.ensures in
    omega (arith, first)

pub returns-then-slot-ge-BUCKET_SLOTS : goal.returns-then-slot-ge-BUCKET_SLOTS
unfolding write need and_then
returns-then-slot-ge-BUCKET_SLOTS c =
    let first : First c.args.words.now c.args.cell c.in_ok-bucket.bucket = found_first _ _ _ c.in_ok-bucket.ensures in
    gives_none _ _ _ _ _ (rw (
      first.is c.args.times.now,
      count_at c.args.words.now c.args.times.now c.in_ok-bucket.bucket first.bucket<,
      le-ltb _ _ c.if-slot-ge-BUCKET_SLOTS.true,
    )) refl

pub returns-in_err-overwrite_slot : goal.returns-in_err-overwrite_slot
returns-in_err-overwrite_slot c =
    let first : First c.args.words.now c.args.cell c.in_ok-bucket.bucket = found_first _ _ _ c.in_ok-bucket.ensures in
    let w = c.args.words.now in
    let ts = c.args.times.now in
    let b = c.in_ok-bucket.bucket in
    let e = changed_in_corrupt (with_tuples (grid w ts)) (grid w ts) _ (overwrite_on (grid w ts) _ _ _ _ _ _ _) c.overwrite_slot.ensures c.in_err-overwrite_slot.was in
    rw (err_from_is_err_and c.from_residual-in_err-overwrite_slot.result c.from_residual-in_err-overwrite_slot.ensures.1).1
    (unwritten (grid w ts) c.args.cell b (at w (COUNT + b)) (first.is ts)
    (count_at w ts b first.bucket<) _ _ _ _ _ c.if-slot-ge-BUCKET_SLOTS.false e.0 _ e.1)

pub returns : goal.returns
returns c =
    let first : First c.args.words.now c.args.cell c.in_ok-bucket.bucket = found_first _ _ _ c.in_ok-bucket.ensures in
    let w = c.args.words.now in
    let ts = c.args.times.now in
    let b = c.in_ok-bucket.bucket in
    let e = changed_in_done (with_tuples (grid w ts)) (grid w ts) _ (overwrite_on (grid w ts) _ _ _ _ _ _ _) c.overwrite_slot.ensures c.in_ok-overwrite_slot.was in
    written (grid w ts) c.args.cell b (at w (COUNT + b)) (first.is ts)
    (count_at w ts b first.bucket<) _ _ _ _ _ c.if-slot-ge-BUCKET_SLOTS.false e.0 e.1 _ e.2
