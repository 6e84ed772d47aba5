-- print_row prints `row`: each number behind the ones before it, for which there is room.
use Rattle.std.proofs.Common.{rules}
use Rattle.answers.proofs.Printing.{row_empty, row_room, row_room_last, row_comma, row_last}
use Rattle.answers.proofs.rows.print_row.Goals as goal

pub returns-in_default : goal.returns-in_default
returns-in_default g c = row_empty _ _ c.in_default.ensures.cases

pub print_closed-requires : goal.print_closed-requires
print_closed-requires g c = (search rules, row_room _ _ _ _ c.loop-n.invariant c.in-Some.ensures.cases.0 c.requires c.loop-n-test.true)

pub loop-n-preserved : goal.loop-n-preserved
loop-n-preserved g c = row_comma _ _ _ c.loop-n.invariant c.loop-n-test.true c.print_closed.ensures

pub print_closed-requires-2 : goal.print_closed-requires-2
print_closed-requires-2 g c = (search rules, row_room_last _ _ _ _ c.loop-n.invariant c.in-Some.ensures.cases.0 c.requires c.loop-n-test.false)

pub returns : goal.returns
returns g c = row_last _ _ _ _ c.loop-n.invariant c.in-Some.ensures.cases.0 c.loop-n-test.false c.print_closed-2.ensures
