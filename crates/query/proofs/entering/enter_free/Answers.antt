-- enter_free does what `enter_free` says: by what the cell's first bucket is, then as after_cell or add_reader answered.
use Rattle.std.proofs.Common.{◌≡◌, ◌≢◌, arith, rules}
use mathlib.Core.Path.{refl}
use Rattle.std.proofs.lemmas.Result.{err_from_is_err_and}
use Rattle.base.specs.Outcome.{and_then}
use Rattle.base.specs.Step.{turn_tells, turn_leaves, lift}
use Rattle.base.specs.Table.{at}
use Rattle.tables.specs.Grid.{grid}
use Rattle.tables.proofs.Grid.{first_at}
use Rattle.query.proofs.Landing.{stands_off, stands_on}
use Rattle.query.proofs.Tests.{more, enter_empty, enter_there, passes}
use Rattle.query.proofs.entering.enter_free.Goals as goal

pub returns-in_err-stage : goal.returns-in_err-stage
unfolding and_then turn_tells turn_leaves lift
returns-in_err-stage c ts =
    let t = grid c.args.words.now ts in
    let z : at t.first c.args.cell ≡ 512 = omega (arith, first_at c.args.words.now ts c.args.cell (omega arith)) in
    let p = err_from_is_err_and c.from_residual-in_err-stage.result c.from_residual-in_err-stage.ensures.1 in
    rw (p.1, p.2, enter_empty _ _ c.in_ok-next.ensures t c.args.cell (omega arith) z, ← c.in_err-stage.ensures)

pub returns-then-bucket-eq-NO_BUCKET : goal.returns-then-bucket-eq-NO_BUCKET
returns-then-bucket-eq-NO_BUCKET c ts =
    let t = grid c.args.words.now ts in
    let z : at t.first c.args.cell ≡ 512 = omega (arith, first_at c.args.words.now ts c.args.cell (omega arith)) in
    rw (more _ _ c.in_ok-next.ensures, enter_empty _ _ c.in_ok-next.ensures t c.args.cell (omega arith) z)
    (passes t c.args.q c.args.cell _ c.in_ok-stage.ensures)

pub returns-in_err-standing : goal.returns-in_err-standing
unfolding grid
returns-in_err-standing c ts =
    let w = c.args.words.now in
    let t = grid w ts in
    let f = first_at w ts c.args.cell (omega arith) in
    let z : at t.first c.args.cell ≢ 512 = λ e. omega arith in
    let p = err_from_is_err_and c.from_residual-in_err-standing.result c.from_residual-in_err-standing.ensures.1 in
    rw (p.1, p.2, enter_there _ _ c.in_ok-next.ensures t c.args.cell (omega arith) z, f)
    (stands_off w ts (search rules) c.add_reader.new.words (search rules) c.args.q c.args.cell _ c.in_err-standing.ensures refl)

pub returns : goal.returns
unfolding grid
returns c ts =
    let w = c.args.words.now in
    let t = grid w ts in
    let f = first_at w ts c.args.cell (omega arith) in
    let z : at t.first c.args.cell ≢ 512 = λ e. omega arith in
    rw (more _ _ c.in_ok-next.ensures, enter_there _ _ c.in_ok-next.ensures t c.args.cell (omega arith) z, f)
    (stands_on w ts (search rules) c.add_reader.new.words (search rules) c.args.q c.args.cell _ c.in_ok-standing.ensures _ refl)
