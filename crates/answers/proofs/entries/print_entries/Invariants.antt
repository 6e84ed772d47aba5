-- The lines of the entries so far are printed, at most 44 bytes for each.
use Rattle.std.proofs.Common.{◌≡◌, ◌++◌, ◌+◌, ◌*◌, ◌≤◌, length}
use Rattle.answers.specs.Answer.{entry_lines}
use Rattle.answers.proofs.entries.print_entries.Given as goal

abbrev pub invariant-loop-oid : goal.invariant-loop-oid
invariant-loop-oid g l = record {
  short : length l.out.items ≤ length l.initial.out.items + 44 * l.oid-index;
  text : l.out.items ≡ l.initial.out.items ++ entry_lines l.list l.oid-index;
}
