-- copy_last does what `stage4` says: as last_tuple answers, then as copy_slot ends.
use mathlib.Core.Path.{refl, sym}
use Rattle.std.proofs.lemmas.Result.{err_from_is_err_and}
use Rattle.tables.specs.Grid.{grid}
use Rattle.erase.proofs.Stages.{copy_none, copy_lost, copied}
use Rattle.erase.proofs.copy_last.Goals as goal

pub returns-in_err-last : goal.returns-in_err-last
returns-in_err-last c =
    let p = err_from_is_err_and c.from_residual.result c.from_residual.ensures.1 in
    rw (p.1, p.2) (copy_none (grid c.args.words.now c.args.times.now) _ c.args.place c.args.moved (sym (c.in_err-last.ensures c.args.times.now)) refl)

pub returns-in_err-copy_slot : goal.returns-in_err-copy_slot
returns-in_err-copy_slot c =
    let p = err_from_is_err_and c.from_residual-in_err-copy_slot.result c.from_residual-in_err-copy_slot.ensures.1 in
    rw (p.1, p.2) (copy_lost (grid c.args.words.now c.args.times.now) (grid c.copy_slot.new.words c.copy_slot.new.times) c.args.place c.args.moved _
    (sym (c.in_ok-last.ensures c.args.times.now)) c.in_err-copy_slot.ensures)

pub returns : goal.returns
returns c =
    copied (grid c.args.words.now c.args.times.now) (grid c.copy_slot.new.words c.copy_slot.new.times) c.args.place c.args.moved _
    (sym (c.in_ok-last.ensures c.args.times.now)) c.in_ok-copy_slot.ensures
