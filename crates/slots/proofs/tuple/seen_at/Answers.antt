-- seen_at reads the four columns of the one list.
use native.Mathlib.Nat.{zero-add}
use Rattle.words.specs.Map.{TUPLE-XS, TUPLE-YS, TUPLE-TAGS}
use Rattle.words.proofs.Parts.{part_at}
use Rattle.slots.proofs.tuple.seen_at.Goals as goal

pub returns : goal.returns
returns c ts =
    let l = c.args.tuples.now in
    let i = c.args.at in
    rw (
      part_at l 0 2048 i 0 c.requires.1,
      zero-add i,
      part_at l TUPLE-XS 2048 i 0 c.requires.1,
      part_at l TUPLE-YS 2048 i 0 c.requires.1,
      part_at l TUPLE-TAGS 2048 i 0 c.requires.1,
    )
