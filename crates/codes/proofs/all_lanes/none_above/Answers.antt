use Rattle.std.proofs.Common.{rules, leb}
use Rattle.codes.proofs.Chunks.{all_chunks}
use Rattle.codes.proofs.all_lanes.none_above.Goals as goal

pub returns : goal.returns
returns c =
    let chunks = c.chunks_exact.ensures in
    all_chunks (λ n. leb n c.args.last) c.args.numbers c.args.at c.args.lanes.now c.requires (λ x b q k. search rules) _ _ chunks.rest chunks.size chunks.runs c.all.ensures.runs
