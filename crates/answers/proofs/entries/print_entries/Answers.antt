-- print_entries prints `entry_lines`, an entry behind the other.
use Rattle.std.proofs.Common.{rules, arith}
use Rattle.answers.proofs.Chunks.{no_entry, entry_printed, entry_room}
use Rattle.answers.proofs.entries.print_entries.Goals as goal

pub loop-oid-init : goal.loop-oid-init
loop-oid-init g c = record { short = omega arith; text = no_entry _ _ }

pub loop-oid-preserved : goal.loop-oid-preserved
loop-oid-preserved g c =
    let known = c.type_inv.list in
    let chunks = c.as_chunks.ensures in
    record {
      short = omega (arith, entry_room _ _ _ _ chunks.front chunks.front_len c.requires.1 c.loop-oid-test.true _ c.print_entry.ensures (λ x. search (rules, known x)));
      text = entry_printed _ _ _ _ chunks.front chunks.front_len c.requires.1 c.loop-oid-test.true _ c.print_entry.ensures c.loop-oid.invariant.text;
    }
