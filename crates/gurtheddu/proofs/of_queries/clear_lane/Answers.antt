-- clear_lane does what `clear_lane` says: a law of OfQueries.antt for each return, by what clear_one answered.
use Rattle.std.proofs.Common.{rules}
use Rattle.std.proofs.lemmas.Result.{err_from_is_err_and}
use Rattle.gurtheddu.proofs.OfQueries.{query_found, query_lost, clear_lost, clear_refused, clear_done}
use Rattle.gurtheddu.proofs.of_queries.clear_lane.Goals as goal

pub returns-in_err-numbers : goal.returns-in_err-numbers
returns-in_err-numbers c =
    let p = err_from_is_err_and c.from_residual.result c.from_residual.ensures.1 in
    let w = c.as_chunks.ensures in
    rw (p.1, p.2) (clear_lost _ c.args.queries.now _ _
    (query_lost (λ s b h. h) _ (search rules) _ w.front w.front_len _ _ c.in_err-numbers.ensures))

pub returns-in_err-cleared : goal.returns-in_err-cleared
returns-in_err-cleared c =
    let p = err_from_is_err_and c.from_residual-in_err-cleared.result c.from_residual-in_err-cleared.ensures.1 in
    let w = c.as_chunks.ensures in
    rw (p.1, p.2) (clear_refused _ c.args.queries.now _ _
    (query_found (λ s b h. h) _ (search rules) _ w.front w.front_len _ _ c.in_ok-numbers.ensures)
    _ c.decode_query.ensures _ _ c.in_err-cleared.ensures)

pub returns : goal.returns
returns c =
    let w = c.as_chunks.ensures in
    clear_done _ c.args.queries.now _ _
    (query_found (λ s b h. h) _ (search rules) _ w.front w.front_len _ _ c.in_ok-numbers.ensures)
    _ c.decode_query.ensures _ _ c.in_ok-cleared.ensures
    _ c.code_query.ensures _ c.store_lane.ensures
