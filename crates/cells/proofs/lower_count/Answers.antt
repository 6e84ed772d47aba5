-- lower_count does what `lower` says: as first_bucket answers, then by the tests that led to each return.
use Rattle.std.proofs.Common.{rules}
use Rattle.std.proofs.lemmas.Result.{err_from_is_err_and}
use Prim.Native.Nat.{◌+◌, ◌-◌}
use native.Mathlib.Omega.{arith}
use lib.ListN.{length-set}
use borrow.Author.Tests.{eq-eqb, le-leb, lt-leb, ne_eqb}
use Rattle.base.specs.Outcome.{need, pick, and_then, outcome_map, leaves}
use mathlib.Core.Path.{refl, sym}
use Rattle.base.specs.Table.{at}
use Rattle.words.specs.Map.{COUNT, NEXT}
use Rattle.tables.specs.Grid.{grid}
use Rattle.tables.proofs.Grid.{count_at, next_at, set_count}
use Rattle.cells.specs.Chain.{lower, need_some}
use Rattle.cells.specs.On.{first_on}
use Rattle.base.proofs.Answer.{gives_none}
use Rattle.cells.proofs.First.{First, found_first}
use Rattle.cells.proofs.Doing.{no_count, kept, unlinked}
use Rattle.cells.proofs.Stored.{stored_unlink}
use Rattle.cells.proofs.lower_count.Goals as goal

pub returns-in_err-bucket : goal.returns-in_err-bucket
unfolding lower and_then outcome_map leaves
returns-in_err-bucket c ts =
    rw ((err_from_is_err_and c.from_residual.result c.from_residual.ensures.1).1, sym (c.in_err-bucket.ensures ts))

pub bounds-words-b : goal.bounds-words-b
bounds-words-b c =
    let first : First c.args.words.now c.args.cell c.in_ok-bucket.bucket = found_first _ _ _ c.in_ok-bucket.ensures in
    omega (arith, first)

pub returns-then-n-eq0 : goal.returns-then-n-eq0
unfolding lower and_then
returns-then-n-eq0 c ts =
    let first : First c.args.words.now c.args.cell c.in_ok-bucket.bucket = found_first _ _ _ c.in_ok-bucket.ensures in
    gives_none _ _ _ _ _ (rw (
      first.is ts,
      count_at c.args.words.now ts c.in_ok-bucket.bucket first.bucket<,
      no_count _ _ c.then-n-eq0.either,
    )) refl

pub bounds-words-b-then-n-ne1 : goal.bounds-words-b-then-n-ne1
bounds-words-b-then-n-ne1 c =
    let first : First c.args.words.now c.args.cell c.in_ok-bucket.bucket = found_first _ _ _ c.in_ok-bucket.ensures in
    omega (arith, first)

pub returns-then-n-ne1 : goal.returns-then-n-ne1
returns-then-n-ne1 c ts =
    let first : First c.args.words.now c.args.cell c.in_ok-bucket.bucket = found_first _ _ _ c.in_ok-bucket.ensures in
    let w = c.args.words.now in
    let b = c.in_ok-bucket.bucket in
    let n = at w (COUNT + b) in
    kept (grid w ts) c.args.cell b n (first.is ts) (count_at w ts b first.bucket<) c.if-n-eq0.false
    c.if-n-gt-BUCKET_SLOTS.false c.if-n-ne1.true _ (set_count w ts (search rules) b (n - 1) first.bucket<)

pub bounds-words-b-2 : goal.bounds-words-b-2
bounds-words-b-2 c =
    let first : First c.args.words.now c.args.cell c.in_ok-bucket.bucket = found_first _ _ _ c.in_ok-bucket.ensures in
    omega (arith, first)

pub returns-then-below-gt-NO_BUCKET : goal.returns-then-below-gt-NO_BUCKET
unfolding lower need_some need pick and_then
returns-then-below-gt-NO_BUCKET c ts =
    let first : First c.args.words.now c.args.cell c.in_ok-bucket.bucket = found_first _ _ _ c.in_ok-bucket.ensures in
    let w = c.args.words.now in
    gives_none _ _ _ _ _ (rw (
      first.is ts,
      count_at w ts c.in_ok-bucket.bucket first.bucket<,
      ne_eqb _ _ c.if-n-eq0.false,
      le-leb _ _ c.if-n-gt-BUCKET_SLOTS.false,
      eq-eqb _ _ c.if-n-ne1.false,
      next_at w ts c.in_ok-bucket.bucket first.bucket<,
      lt-leb _ _ c.if-below-gt-NO_BUCKET.true,
    )) refl

pub bounds-words-cell : goal.bounds-words-cell
bounds-words-cell c =
    let first : First c.args.words.now c.args.cell c.in_ok-bucket.bucket = found_first _ _ _ c.in_ok-bucket.ensures in
    omega (arith, first)

pub returns : goal.returns
returns c ts =
    let first : First c.args.words.now c.args.cell c.in_ok-bucket.bucket = found_first _ _ _ c.in_ok-bucket.ensures in
    let w = c.args.words.now in
    let b = c.in_ok-bucket.bucket in
    let m = at w (NEXT + b) in
    unlinked (grid w ts) c.args.cell b (at w (COUNT + b)) (first.is ts) (count_at w ts b first.bucket<)
    c.if-n-eq0.false c.if-n-gt-BUCKET_SLOTS.false c.if-n-ne1.false m (next_at w ts b first.bucket<) c.if-below-gt-NO_BUCKET.false _
    (stored_unlink w (search rules) ts c.args.cell b m first.cell< first.bucket<)
