-- copy_tuple does what `copy` says: one case for each return, by the two slots.
use Rattle.std.proofs.Common.{rules}
use mir.ValLaws.{to_z-of_z}
use borrow.Author.Tests.{lt-ltb}
use Rattle.std.proofs.lemmas.Result.{err_from_is_err_and}
use Rattle.base.specs.Outcome.{need, tells, leaves}
use Rattle.slots.specs.Tuple.{copy, need_slot}
use Rattle.slots.proofs.Written.{slot_lost, slot_found, copied_at}
use Rattle.slots.proofs.tuple.copy_tuple.Goals as goal

pub returns-in_err-from : goal.returns-in_err-from
unfolding copy tells leaves
returns-in_err-from c =
    rw ((err_from_is_err_and c.from_residual.result c.from_residual.ensures.1).1, slot_lost c.args.bucket c.args.slot _ c.in_err-from.ensures)

pub returns-in_err-to : goal.returns-in_err-to
unfolding copy need_slot need tells leaves
returns-in_err-to c =
    let s = slot_found c.args.bucket c.args.slot c.in_ok-from.ensures in
    rw (
      (err_from_is_err_and c.from_residual-in_err-to.result c.from_residual-in_err-to.ensures.1).1,
      lt-ltb _ _ s.0,
      lt-ltb _ _ s.1,
      slot_lost c.args.bucket2 c.args.slot2 _ c.in_err-to.ensures,
    )

pub returns : goal.returns
unfolding tells
returns c =
    let s = slot_found c.args.bucket c.args.slot c.in_ok-from.ensures in
    let t = slot_found c.args.bucket2 c.args.slot2 c.in_ok-to.ensures in
    copied_at c.args.tuples.now c.put_tuple.new.tuples c.args.times.now _ _ _ s.0 s.1 _ _ t.0 t.1 s.2 t.2
    (search (rules, to_z-of_z)) c.put_tuple.ensures
