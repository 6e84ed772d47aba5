-- make_room_stage does what stage 9 says: on the grid it ends as make_room does.
use mathlib.Core.Path.{sym, ◌∙◌}
use Rattle.std.proofs.lemmas.Result.{err_from_is_err_and}
use Rattle.base.specs.Outcome.{need}
use Rattle.cells.specs.On.{with_chains, make_room_on}
use Rattle.stage.proofs.After.{change_refused, change_made}
use Rattle.stage.specs.declared.Stage.TheVariants.{WriteTuple}
use Rattle.tables.specs.Grid.{grid}
use Rattle.write.specs.Write.{stage9}
use Rattle.write.proofs.make_room_stage.Goals as goal

pub returns-in_err-make_room : goal.returns-in_err-make_room
unfolding stage9 need
returns-in_err-make_room c ts =
    let t = grid c.args.words.now ts in
    let p = err_from_is_err_and c.from_residual.result c.from_residual.ensures.1 in
    rw (p.1, p.2, sym c.on_grid.ensures ∙ c.if-not-on_grid.false, sym c.cell_of.ensures)
    (change_refused (with_chains t) t _ (make_room_on t c.cell_of.result) WriteTuple _ (c.in_err-make_room.ensures ts))

pub returns : goal.returns
unfolding stage9 need
returns c ts =
    let t = grid c.args.words.now ts in
    rw (sym c.on_grid.ensures ∙ c.if-not-on_grid.false, sym c.cell_of.ensures)
    (change_made (with_chains t) t _ (make_room_on t c.cell_of.result) WriteTuple _ (c.in_ok-make_room.ensures ts))
