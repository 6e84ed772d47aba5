-- read_lane does what `read_from` says: a law of OfQueries.antt for each return, by what read_one answered.
use Rattle.std.proofs.Common.{rules}
use Rattle.std.proofs.lemmas.Result.{err_from_is_err_and}
use Rattle.gurtheddu.proofs.OfQueries.{query_found, query_lost, read_lost, read_there}
use Rattle.gurtheddu.proofs.of_queries.read_lane.Goals as goal

pub returns-in_err-numbers : goal.returns-in_err-numbers
returns-in_err-numbers c =
    let p = err_from_is_err_and c.from_residual.result c.from_residual.ensures.1 in
    let w = c.as_chunks.ensures in
    rw (p.1, p.2) (read_lost _ c.args.queries.now _ _ _
    (query_lost (λ s b h. h) _ (search rules) _ w.front w.front_len _ _ c.in_err-numbers.ensures))

pub returns : goal.returns
returns c =
    let w = c.as_chunks.ensures in
    read_there _ c.args.queries.now _ _ _
    (query_found (λ s b h. h) _ (search rules) _ w.front w.front_len _ _ c.in_ok-numbers.ensures)
    _ c.decode_query.ensures _ c.read_one.ensures
