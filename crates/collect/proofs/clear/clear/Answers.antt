-- A clearing that is refused in its lane is refused among all lanes.
use Rattle.std.proofs.lemmas.Result.{err_from_is_err_and}
use Rattle.tables.specs.Grid.{grid}
use Rattle.collect.proofs.Lane.{clear_refuses}
use Rattle.collect.proofs.clear.clear.Goals as goal

pub returns-in_err-next : goal.returns-in_err-next
returns-in_err-next c =
    let p = err_from_is_err_and c.from_residual.result c.from_residual.ensures.1 in
    rw (p.1, p.2) (clear_refuses (grid c.args.words.now c.args.times.now) _ _ _ c.in_err-next.ensures)
