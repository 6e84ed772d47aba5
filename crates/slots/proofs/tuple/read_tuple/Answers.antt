-- read_tuple answers what `read` says, by the slot and its stamp.
use mathlib.Core.Path.{◌≡◌, ap}
use borrow.Author.Tests.{lt-ltb}
use Rattle.std.proofs.Common.{rules}
use lib.IntN.{pos}
use lib.ListN.{get_or}
use Rattle.slots.specs.Stamp.{stamp_of}
use Rattle.slots.specs.declared.stamp.Stamp.TheVariants.{Current, Deleted}
use Rattle.base.specs.Outcome.{done, need}
use Rattle.slots.specs.Tuple.{read, need_slot, seen}
use Rattle.slots.proofs.Written.{slot_found}
use Rattle.slots.proofs.tuple.read_tuple.Goals as goal

pub returns-in-Current : goal.returns-in-Current
unfolding read need_slot need seen
returns-in-Current c =
    let s = slot_found c.args.bucket c.args.slot c.in_ok-i.ensures in
    let r : stamp_of (get_or c.args.times.now c.in_ok-i.i (pos 0)) ≡ Current c.in-Current.time = search rules in
    rw (lt-ltb _ _ s.0, lt-ltb _ _ s.1, ← s.2, r) (ap done (c.seen_at.ensures c.args.times.now))

pub returns-in-Deleted : goal.returns-in-Deleted
unfolding read need_slot need seen
returns-in-Deleted c =
    let s = slot_found c.args.bucket c.args.slot c.in_ok-i.ensures in
    let r : stamp_of (get_or c.args.times.now c.in_ok-i.i (pos 0)) ≡ Deleted c.in-Deleted.time = search rules in
    rw (lt-ltb _ _ s.0, lt-ltb _ _ s.1, ← s.2, r) (ap done (c.seen_at-in-Deleted.ensures c.args.times.now))
