-- go_back does what `go_back` says of all tables: one law of Steps.antt for each return.
use mathlib.Core.Path.{◌∙◌}
use native.Mathlib.Omega.{arith}
use Rattle.std.proofs.Common.{rules}
use Rattle.std.proofs.lemmas.Result.{err_from_is_err_and}
use Rattle.words.specs.Map.{INDEX, INDEX-SIZE}
use Rattle.words.proofs.Parts.{part_length}
use Rattle.acquire.proofs.Steps.{back_off, back_kept, back_freed}
use Rattle.acquire.proofs.go_back.Goals as goal

pub returns-then-place-ge-CELL_COUNT : goal.returns-then-place-ge-CELL_COUNT
returns-then-place-ge-CELL_COUNT c ts =
    back_off c.args.words.now ts (search rules) c.args.place c.args.oid c.if-place-ge-CELL_COUNT.true

pub returns-in_err-free_object : goal.returns-in_err-free_object
returns-in_err-free_object c ts =
    let w = c.args.words.now in
    let p = err_from_is_err_and c.from_residual.result c.from_residual.ensures.1 in
    rw (p.1, p.2) (back_kept w ts (search rules) c.args.place c.args.oid
    c.free_object.new.index (c.free_object.auto.index ∙ (part_length w INDEX INDEX-SIZE (omega arith)))
    c.free_object.ensures c.in_err-free_object.was)

pub returns : goal.returns
returns c ts =
    let w = c.args.words.now in
    back_freed w ts (search rules) c.args.place c.args.oid
    c.free_object.new.index (c.free_object.auto.index ∙ (part_length w INDEX INDEX-SIZE (omega arith)))
    c.free_object.ensures c.in_ok-free_object.was c.if-place-ge-CELL_COUNT.false
