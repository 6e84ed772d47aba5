-- overwrite_tuple does what `overwrite` says: one case for each return, by the slot and the stamp's magnitude.
use mathlib.Core.Path.{sym, ◌∙◌}
use mir.Syntax.{w32}
use mir.ValLaws.{to_z-of_z}
use borrow.Author.Tests.{lt-ltb}
use Rattle.std.proofs.lemmas.Result.{err_from_is_err_and}
use Rattle.base.specs.Outcome.{need, tells, leaves}
use Rattle.slots.specs.Tuple.{overwrite, need_slot}
use Rattle.slots.proofs.Written.{slot_lost, slot_found, overwritten}
use Rattle.slots.proofs.tuple.overwrite_tuple.Goals as goal

pub returns-in_err-i : goal.returns-in_err-i
unfolding overwrite tells leaves
returns-in_err-i c =
    rw ((err_from_is_err_and c.from_residual.result c.from_residual.ensures.1).1, slot_lost c.args.bucket c.args.slot _ c.in_err-i.ensures)

pub returns-then-not-in_range : goal.returns-then-not-in_range
unfolding overwrite need_slot need tells leaves
returns-then-not-in_range c =
    let s = slot_found c.args.bucket c.args.slot c.in_ok-i.ensures in
    rw (lt-ltb _ _ s.0, lt-ltb _ _ s.1, sym c.if-not-in_range.ensures)

pub returns : goal.returns
unfolding tells
returns c =
    let s = slot_found c.args.bucket c.args.slot c.in_ok-i.ensures in
    rw s.2 (overwritten c.args.tuples.now c.put_tuple.new.tuples c.args.times.now _ _ _ s.0 s.1 _ _ _ _ _ (sym c.if-not-in_range.ensures)
    (to_z-of_z w32 _ (record { sfits = c.current_stamp.type_inv }) ∙ c.current_stamp.ensures) (rw s.2 at c.put_tuple.ensures))
