-- How many numbers are filled fits.
use Rattle.std.proofs.Common.{arith, rules}
use Rattle.gurtheddu.proofs.OfQueries.{filled_fits}
use Rattle.gurtheddu.proofs.of_queries.gurtheddu_read.Goals as goal

pub overflow_cast-filled : goal.overflow_cast-filled
overflow_cast-filled c =
    let few = filled_fits _ _ _ _ _ _ _ c.read_lane-answer.ensures (λ d h. search rules) _ c.unwrap_or_default-reading.ensures in
    omega arith
