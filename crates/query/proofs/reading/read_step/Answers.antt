-- read_step does what `read_step` says: by what check_region answered, then as read_tuple and consider_tuple answered.
use Rattle.std.proofs.Common.{◌≡◌, ◌+◌, arith, rules}
use mathlib.Core.Bool.{true, false}
use mathlib.Core.Path.{refl, sym, ◌∙◌}
use Rattle.std.proofs.lemmas.Result.{err_from_is_err_and}
use Rattle.base.specs.Step.{turn_tells, turn_leaves, lift}
use Rattle.regions.specs.Region.{proper}
use Rattle.regions.proofs.Checks.{checked_in_range}
use Rattle.tables.specs.Grid.{grid}
use Rattle.query.specs.Scan.{standing_of, consider}
use Rattle.query.proofs.Landing.{notes_off, notes_on}
use Rattle.query.proofs.Tests.{more, read_stray, read_none, read_there}
use Rattle.query.proofs.reading.read_step.Goals as goal

pub returns-in_err-map_err : goal.returns-in_err-map_err
unfolding turn_tells turn_leaves lift
returns-in_err-map_err c =
    let t = grid c.args.words.now c.args.times.now in
    let z : proper c.args.q.question ≡ false = sym (checked_in_range _ _ c.check_region.ensures) ∙ sym c.in_err-map_err.ensures.variant in
    let p = err_from_is_err_and c.from_residual-in_err-map_err.result c.from_residual-in_err-map_err.ensures.1 in
    rw (p.1, p.2, read_stray _ _ c.in_ok-next.ensures t.tuples t.hits c.args.lane.number c.args.cell c.args.s z)

pub returns-in_err-t : goal.returns-in_err-t
unfolding turn_tells turn_leaves lift grid
returns-in_err-t c =
    let t = grid c.args.words.now c.args.times.now in
    let z : proper c.args.q.question ≡ true = sym (checked_in_range _ _ c.check_region.ensures) ∙ sym c.in_ok-map_err.ensures.variant in
    let p = err_from_is_err_and c.from_residual-in_err-t.result c.from_residual-in_err-t.ensures.1 in
    let n : c.args.s.left ≡ c.in-Some.slot + 1 = omega (arith, c.in-Some.ensures) in
    rw (p.1, p.2, read_none _ _ c.in_ok-next.ensures t.tuples t.hits c.args.lane.number c.args.cell c.args.s c.in-Some.slot z n c.in_err-t.ensures)

pub returns-in_err-hits : goal.returns-in_err-hits
unfolding grid
returns-in_err-hits c =
    let w = c.args.words.now in
    let t = grid w c.args.times.now in
    let z : proper c.args.q.question ≡ true = sym (checked_in_range _ _ c.check_region.ensures) ∙ sym c.in_ok-map_err.ensures.variant in
    let p = err_from_is_err_and c.from_residual-in_err-hits.result c.from_residual-in_err-hits.ensures.1 in
    let n : c.args.s.left ≡ c.in-Some.slot + 1 = omega (arith, c.in-Some.ensures) in
    rw (p.1, p.2, read_there _ _ c.in_ok-next.ensures t.tuples t.hits c.args.lane.number c.args.cell c.args.s c.in-Some.slot z n _ c.in_ok-t.ensures)
    (notes_off w c.args.times.now (search rules) c.consider_tuple.new.list (search rules) c.args.q c.args.cell (standing_of c.args.s.bucket c.in-Some.slot) (consider t.hits c.args.lane.number c.args.q c.in_ok-t.t) c.in_err-hits.ensures refl)

pub returns : goal.returns
unfolding grid
returns c =
    let w = c.args.words.now in
    let t = grid w c.args.times.now in
    let z : proper c.args.q.question ≡ true = sym (checked_in_range _ _ c.check_region.ensures) ∙ sym c.in_ok-map_err.ensures.variant in
    let n : c.args.s.left ≡ c.in-Some.slot + 1 = omega (arith, c.in-Some.ensures) in
    rw (more _ _ c.in_ok-next.ensures, read_there _ _ c.in_ok-next.ensures t.tuples t.hits c.args.lane.number c.args.cell c.args.s c.in-Some.slot z n _ c.in_ok-t.ensures)
    (notes_on w c.args.times.now (search rules) c.consider_tuple.new.list (search rules) c.args.q c.args.cell (standing_of c.args.s.bucket c.in-Some.slot) (consider t.hits c.args.lane.number c.args.q c.in_ok-t.t) c.in_ok-hits.ensures refl)
