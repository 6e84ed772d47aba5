-- next_line makes room and reads a line. Where the input has ended, the law is `next_ended`.
use Rattle.std.proofs.Common.{rules, sym, ◌∙◌}
use Rattle.streams.proofs.Ahead.{next_ended, last_none, last_some}
use Rattle.streams.proofs.progress.next_line.Goals as goal

pub returns-then-is_empty : goal.returns-then-is_empty
returns-then-is_empty g c =
    next_ended _ _ _ c.make_room.ensures c.clear.ensures c.fetch_line.ensures _ c.in-Open-p.is (search rules)
    (last_none _ (sym c.is_empty.ensures ∙ c.if-is_empty.true))

pub returns-else-is_empty : goal.returns-else-is_empty
returns-else-is_empty g c =
    next_ended _ _ _ c.make_room.ensures c.clear.ensures c.fetch_line.ensures _ c.in-Open-p.is (search rules)
    (last_some _ (sym c.is_empty.ensures ∙ c.if-is_empty.false))
