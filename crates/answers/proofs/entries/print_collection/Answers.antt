-- print_collection prints `collection`: its first line, behind which the entries have room, and then the entries.
use Rattle.std.proofs.Common.{ap, arith, rules, ◌∙◌, length, length-append}
use Rattle.answers.proofs.Printing.{collected_short}
use Rattle.answers.proofs.entries.print_collection.Goals as goal

pub print_entries-requires : goal.print_entries-requires
print_entries-requires g c =
    (search rules, (omega (arith, ap length c.print_collected.ensures ∙ length-append c.args.out.now.items _, collected_short c.args.line c.args.steps c.args.entries), c.requires.1))
