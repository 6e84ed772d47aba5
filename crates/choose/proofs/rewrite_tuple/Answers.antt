-- rewrite_tuple does what `rewrite` says of all tables: as next_stamp answers, then as overwrite_slot does.
use mathlib.Core.Path.{sym, ap, ◌∙◌}
use Rattle.std.proofs.Common.{rules}
use Rattle.std.proofs.lemmas.Result.{err_from_is_err_and}
use Rattle.base.proofs.Answer.{changed_in_corrupt, changed_in_done}
use Rattle.tables.specs.Tables.{with_tuples}
use Rattle.tables.specs.Grid.{grid}
use Rattle.tables.proofs.Grid.{clock_at, set_clock}
use Rattle.cells.specs.On.{overwrite_on}
use Rattle.stage.specs.Turn.{drawn}
use Rattle.choose.proofs.Choosing.{rewrite_late, rewrite_lost, rewrite_done}
use Rattle.choose.proofs.rewrite_tuple.Goals as goal

pub returns-in_err-time : goal.returns-in_err-time
returns-in_err-time c =
    let t = grid c.args.words.now c.args.times.now in
    let p = err_from_is_err_and c.from_residual.result c.from_residual.ensures.1 in
    rw (p.1, p.2) (rewrite_late t c.args.place _ _ _ _ (c.in_err-time.ensures ∙ ap drawn (sym (clock_at c.args.words.now c.args.times.now))))

pub returns-in_err-overwrite_slot : goal.returns-in_err-overwrite_slot
returns-in_err-overwrite_slot c =
    let t = grid c.args.words.now c.args.times.now in
    let p = err_from_is_err_and c.from_residual-in_err-overwrite_slot.result c.from_residual-in_err-overwrite_slot.ensures.1 in
    rw (p.1, p.2) (rewrite_lost t c.args.place _ _ _ _ c.in_ok-time.time
    (c.in_ok-time.ensures ∙ ap drawn (sym (clock_at c.args.words.now c.args.times.now))) _
    (changed_in_corrupt (with_tuples t) t _ (overwrite_on t _ _ _ _ _ _ _) c.overwrite_slot.ensures c.in_err-overwrite_slot.was))

pub returns : goal.returns
returns c =
    let t = grid c.args.words.now c.args.times.now in
    rewrite_done t c.args.place _ _ _ _ c.in_ok-time.time
    (c.in_ok-time.ensures ∙ ap drawn (sym (clock_at c.args.words.now c.args.times.now))) _
    (changed_in_done (with_tuples t) t _ (overwrite_on t _ _ _ _ _ _ _) c.overwrite_slot.ensures c.in_ok-overwrite_slot.was) _
    (set_clock c.overwrite_slot.new.words c.overwrite_slot.new.times (search rules) c.in_ok-time.time)
