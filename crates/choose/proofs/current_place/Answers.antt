-- current_place reads the current place: by the test of the point and the end of the search, then as read_place answers.
use mathlib.Core.Path.{sym, ◌∙◌}
use Rattle.std.proofs.Common.{rules}
use Rattle.std.proofs.lemmas.Result.{err_from_is_err_and}
use Rattle.tables.specs.Grid.{grid}
use Rattle.choose.proofs.Choosing.{here_off, here_missing, here_read}
use Rattle.choose.proofs.current_place.Goals as goal

pub returns-then-not-on_grid : goal.returns-then-not-on_grid
returns-then-not-on_grid c ts =
    here_off (grid c.args.words.now ts) c.args.oid c.args.x c.args.y
    (sym c.on_grid.ensures ∙ c.if-not-on_grid.true)

pub returns-in_err-i : goal.returns-in_err-i
returns-in_err-i c ts =
    rw (err_from_is_err_and c.from_residual.result c.from_residual.ensures.1).1
    (here_missing c.args.words.now ts (search rules) c.args.oid c.args.x c.args.y
    (sym c.on_grid.ensures ∙ c.if-not-on_grid.false) _ (sym (c.seek_object.ensures ts)) c.in_err-i.ensures)

pub returns : goal.returns
returns c ts =
    here_read c.args.words.now ts (search rules) c.args.oid c.args.x c.args.y
    (sym c.on_grid.ensures ∙ c.if-not-on_grid.false) _ (sym (c.seek_object.ensures ts)) c.in_ok-i.ensures
    ∙ sym c.read_place.ensures
