-- leave_for does what `leave_for` says, by what room_at and has_reader answered. Where the next bucket is this one, the two stores undo each other.
use Rattle.std.proofs.Common.{arith, rules, ◌+◌, ◌-◌}
use mathlib.Core.Path.{sym}
use Rattle.base.specs.Outcome.{outcome_map, leaves}
use Rattle.base.specs.Table.{at}
use Rattle.base.proofs.Answer.{mapped_corrupt}
use Rattle.words.specs.Map.{READERS}
use Rattle.words.specs.Words.{count_in, readers_in}
use Rattle.words.proofs.Parts.{part_length, put_part}
use Rattle.std.proofs.lemmas.Result.{err_from_is_err_and}
use Rattle.readers.specs.Reader.{add_reader, take_reader}
use Rattle.readers.proofs.Leaving.{added_lem, taken, readers_at, stored_twice, beside, leave_off, leave_same, leave_none, leave_on_lem}
use Rattle.readers.proofs.leave_for.Goals as goal

pub returns-in_err-standing : goal.returns-in_err-standing
unfolding outcome_map leaves
returns-in_err-standing c =
    let w = c.args.words.now in
    let p = err_from_is_err_and c.from_residual.result c.from_residual.ensures.1 in
    rw (p.1, leave_off (count_in w) (readers_in w) c.args.bucket c.args.below (mapped_corrupt _ (add_reader (count_in w) (readers_in w) c.args.below) (sym c.in_err-standing.ensures)))

pub returns-then-bucket-below : goal.returns-then-bucket-below
unfolding outcome_map leaves
returns-then-bucket-below c =
    let w = c.args.words.now in
    let d = added_lem (count_in w) (readers_in w) c.args.below _ c.in_ok-standing.ensures in
    rw (leave_same (count_in w) (readers_in w) c.args.bucket c.args.below _ d.0 d.1 d.2 (part_length w READERS 512 (omega arith)) c.if-bucket-below.true, put_part w READERS 512)

pub returns-in_err-has_reader : goal.returns-in_err-has_reader
unfolding outcome_map leaves
returns-in_err-has_reader c =
    let w = c.args.words.now in
    let d = added_lem (count_in w) (readers_in w) c.args.below _ c.in_ok-standing.ensures in
    let p = err_from_is_err_and c.from_residual-in_err-has_reader.result c.from_residual-in_err-has_reader.ensures.1 in
    rw (p.1, leave_none (count_in w) (readers_in w) c.args.bucket c.args.below _ d.0 d.1 d.2 c.if-bucket-below.false (mapped_corrupt _ (take_reader (readers_in w) c.args.bucket) (sym c.in_err-has_reader.ensures)))

pub overflow_add-words : goal.overflow_add-words
overflow_add-words c =
    let d = added_lem (count_in c.args.words.now) (readers_in c.args.words.now) c.args.below _ c.in_ok-standing.ensures in
    omega (arith, readers_at c.args.words.now c.args.below d.0)

pub overflow_sub-words : goal.overflow_sub-words
overflow_sub-words c =
    let w = c.args.words.now in
    let n = c.args.below in
    let b = c.args.bucket in
    let d = added_lem (count_in w) (readers_in w) n _ c.in_ok-standing.ensures in
    let t = taken (readers_in w) b _ _ c.in_ok-has_reader.ensures in
    rw (beside w n b d.0 t.0 c.if-bucket-below.false) (omega arith)

pub returns : goal.returns
unfolding outcome_map leaves
returns c =
    let w = c.args.words.now in
    let n = c.args.below in
    let b = c.args.bucket in
    let d = added_lem (count_in w) (readers_in w) n _ c.in_ok-standing.ensures in
    let t = taken (readers_in w) b _ _ c.in_ok-has_reader.ensures in
    rw (
      leave_on_lem (count_in w) (readers_in w) b n _ d.0 d.1 d.2 c.if-bucket-below.false t.0 t.1 t.2,
      readers_at w n d.0,
      beside w n b d.0 t.0 c.if-bucket-below.false (at w (READERS + n) + 1),
      stored_twice w n b d.0 t.0 (search rules) (at w (READERS + n) + 1) (at (readers_in w) b - 1),
    )
