-- leave_step does what `leave_step` says: by what the next bucket is, then as after_cell, take_reader or leave_for answered.
use Rattle.std.proofs.Common.{◌≡◌, ◌≢◌, arith, rules}
use mathlib.Core.Path.{refl}
use Rattle.std.proofs.lemmas.Result.{err_from_is_err_and}
use Rattle.base.specs.Step.{turn_tells, turn_leaves, lift}
use Rattle.base.specs.Table.{at}
use Rattle.tables.specs.Grid.{grid}
use Rattle.tables.proofs.Grid.{next_at}
use Rattle.query.proofs.Landing.{stands_off, stands_on, taken_off, taken_on, leave_lost}
use Rattle.query.proofs.Tests.{more, leave_end, leave_there}
use Rattle.query.proofs.leaving.leave_step.Goals as goal

pub returns-in_err-stage : goal.returns-in_err-stage
unfolding turn_tells turn_leaves lift
returns-in_err-stage c ts =
    let t = grid c.args.words.now ts in
    let z : at t.next c.args.bucket ≡ 512 = omega (arith, next_at c.args.words.now ts c.args.bucket (omega arith)) in
    let p = err_from_is_err_and c.from_residual-in_err-stage.result c.from_residual-in_err-stage.ensures.1 in
    rw (p.1, p.2, leave_end _ _ c.in_ok-next.ensures t c.args.cell c.args.bucket (omega arith) z, leave_lost t.readers c.args.q c.args.cell c.args.bucket c.in_err-stage.ensures)

pub returns-in_err-take_reader : goal.returns-in_err-take_reader
unfolding grid
returns-in_err-take_reader c ts =
    let w = c.args.words.now in
    let t = grid w ts in
    let z : at t.next c.args.bucket ≡ 512 = omega (arith, next_at w ts c.args.bucket (omega arith)) in
    let p = err_from_is_err_and c.from_residual-in_err-take_reader.result c.from_residual-in_err-take_reader.ensures.1 in
    rw (p.1, p.2, leave_end _ _ c.in_ok-next.ensures t c.args.cell c.args.bucket (omega arith) z)
    (taken_off w ts (search rules) c.take_reader.new.words (search rules) c.args.q c.args.cell c.args.bucket c.in_err-take_reader.ensures refl)

pub returns-then-below-eq-NO_BUCKET : goal.returns-then-below-eq-NO_BUCKET
unfolding grid
returns-then-below-eq-NO_BUCKET c ts =
    let w = c.args.words.now in
    let t = grid w ts in
    let z : at t.next c.args.bucket ≡ 512 = omega (arith, next_at w ts c.args.bucket (omega arith)) in
    rw (more _ _ c.in_ok-next.ensures, leave_end _ _ c.in_ok-next.ensures t c.args.cell c.args.bucket (omega arith) z)
    (taken_on w ts (search rules) c.take_reader.new.words (search rules) c.args.q c.args.cell c.args.bucket c.in_ok-take_reader.ensures refl _ c.in_ok-stage.ensures)

pub returns-in_err-standing : goal.returns-in_err-standing
unfolding grid
returns-in_err-standing c ts =
    let w = c.args.words.now in
    let t = grid w ts in
    let f = next_at w ts c.args.bucket (omega arith) in
    let z : at t.next c.args.bucket ≢ 512 = λ e. omega arith in
    let p = err_from_is_err_and c.from_residual-in_err-standing.result c.from_residual-in_err-standing.ensures.1 in
    rw (p.1, p.2, leave_there _ _ c.in_ok-next.ensures t c.args.cell c.args.bucket (omega arith) z, f)
    (stands_off w ts (search rules) c.leave_for.new.words (search rules) c.args.q c.args.cell _ c.in_err-standing.ensures refl)

pub returns : goal.returns
unfolding grid
returns c ts =
    let w = c.args.words.now in
    let t = grid w ts in
    let f = next_at w ts c.args.bucket (omega arith) in
    let z : at t.next c.args.bucket ≢ 512 = λ e. omega arith in
    rw (more _ _ c.in_ok-next.ensures, leave_there _ _ c.in_ok-next.ensures t c.args.cell c.args.bucket (omega arith) z, f)
    (stands_on w ts (search rules) c.leave_for.new.words (search rules) c.args.q c.args.cell _ c.in_ok-standing.ensures _ refl)
