-- choose_cell does what stage 8 says: one law for each return, by the answer about the current place; then as lock_new and rewrite_tuple do.
use mathlib.Core.Path.{ap, ◌∙◌}
use Rattle.std.proofs.lemmas.Result.{err_from_is_err_and}
use Rattle.base.specs.Outcome.{done}
use Rattle.tables.specs.Grid.{grid}
use Rattle.choose.proofs.Choosing.{choose_corrupt, choose_nowhere, choose_other, choose_same}
use Rattle.choose.proofs.choose_cell.Goals as goal

pub returns-in_err-here : goal.returns-in_err-here
returns-in_err-here c =
    let p = err_from_is_err_and c.from_residual.result c.from_residual.ensures.1 in
    rw (p.1, p.2) (choose_corrupt (grid c.args.words.now c.args.times.now) _ _ _ _ _ (c.in_err-here.ensures c.args.times.now))

pub returns-in_default : goal.returns-in_default
returns-in_default c =
    let ts = c.args.times.now in
    choose_nowhere (grid c.args.words.now ts) _ _ _ _ _ c.cell_of-cell.ensures _ _
    (c.in_ok-here.ensures ts ∙ ap done c.in_default.is) (c.lock_new.ensures ts)

pub returns-then-place-cell : goal.returns-then-place-cell
returns-then-place-cell c =
    let ts = c.args.times.now in
    choose_other (grid c.args.words.now ts) _ _ _ _ _ c.cell_of-cell.ensures _ _ _
    (c.in_ok-here.ensures ts ∙ ap done c.in-Some.is) c.if-place-cell.true (c.lock_new-then-place-cell.ensures ts)

pub returns : goal.returns
returns c =
    let ts = c.args.times.now in
    choose_same (grid c.args.words.now ts) _ _ _ _ _ c.cell_of-cell.ensures _ _ _
    (c.in_ok-here.ensures ts ∙ ap done c.in-Some.is) c.if-place-cell.false c.rewrite_tuple.ensures
