-- The numbers so far are printed with a comma behind each.
use Rattle.std.proofs.Common.{◌≡◌, ◌++◌, take}
use Rattle.answers.proofs.Printing.{commas}
use Rattle.answers.proofs.rows.print_row.Given as goal

abbrev pub invariant-loop-n : goal.invariant-loop-n
invariant-loop-n g l = l.out.items ≡ l.initial.out.items ++ commas (take l.n-index l.front)
