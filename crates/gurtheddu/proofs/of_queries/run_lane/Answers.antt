-- run_lane does what `run_sweep` says: a law of OfQueries.antt for each return, by what run_query answered.
use Rattle.std.proofs.Common.{rules}
use Rattle.std.proofs.lemmas.Result.{err_from_is_err_and}
use Rattle.gurtheddu.proofs.OfQueries.{query_found, query_lost, run_lost, run_unmade, run_made}
use Rattle.gurtheddu.proofs.of_queries.run_lane.Goals as goal

pub returns-in_err-numbers : goal.returns-in_err-numbers
returns-in_err-numbers c =
    let p = err_from_is_err_and c.from_residual.result c.from_residual.ensures.1 in
    let w = c.as_chunks.ensures in
    rw (p.1, p.2) (run_lost _ c.args.queries.now _ _ c.if-budget-eq0.false _
    (query_lost (λ s b h. h) _ (search rules) _ w.front w.front_len _ _ c.in_err-numbers.ensures))

pub returns-then-ran-gt0 : goal.returns-then-ran-gt0
returns-then-ran-gt0 c =
    let w = c.as_chunks.ensures in
    run_made _ c.args.queries.now _ _ c.if-budget-eq0.false _
    (query_found (λ s b h. h) _ (search rules) _ w.front w.front_len _ _ c.in_ok-numbers.ensures)
    _ c.decode_query.ensures _ _ _ _ c.run_query-ran.ensures c.if-ran-gt0.true
    _ c.code_query.ensures _ c.store_lane.ensures

pub returns-else-ran-gt0 : goal.returns-else-ran-gt0
returns-else-ran-gt0 c =
    let w = c.as_chunks.ensures in
    run_unmade _ c.args.queries.now _ _ c.if-budget-eq0.false _
    (query_found (λ s b h. h) _ (search rules) _ w.front w.front_len _ _ c.in_ok-numbers.ensures)
    _ c.decode_query.ensures _ _ _ _ c.run_query-ran.ensures c.if-ran-gt0.false
