-- start_lane does what `start_sweep` says: a law of OfQueries.antt for each return, by what start_one answered.
use Rattle.std.proofs.Common.{rules}
use Rattle.std.proofs.lemmas.Result.{err_from_is_err_and}
use Rattle.gurtheddu.proofs.OfQueries.{query_found, query_lost}
use Rattle.gurtheddu.proofs.OfQueries.{start_lost, start_unasked, start_refused, start_accepted}
use Rattle.gurtheddu.proofs.of_queries.start_lane.Goals as goal

pub returns-in_err-numbers : goal.returns-in_err-numbers
returns-in_err-numbers c =
    let p = err_from_is_err_and c.from_residual.result c.from_residual.ensures.1 in
    let w = c.as_chunks.ensures in
    rw (p.1, p.2) (start_lost _ c.args.queries.now _ _ _ _ _
    (query_lost (λ s b h. h) _ (search rules) _ w.front w.front_len _ _ c.in_err-numbers.ensures))

pub returns-then-kind-gt-LAST_KIND : goal.returns-then-kind-gt-LAST_KIND
returns-then-kind-gt-LAST_KIND c =
    let w = c.as_chunks.ensures in
    start_unasked _ c.args.queries.now _ _ _ _ _
    (query_found (λ s b h. h) _ (search rules) _ w.front w.front_len _ _ c.in_ok-numbers.ensures)
    c.if-kind-gt-LAST_KIND.true

pub returns-in_err-started : goal.returns-in_err-started
returns-in_err-started c =
    let p = err_from_is_err_and c.from_residual-in_err-started.result c.from_residual-in_err-started.ensures.1 in
    let w = c.as_chunks.ensures in
    rw (p.1, p.2) (start_refused _ c.args.queries.now _ _ _ _ _
    (query_found (λ s b h. h) _ (search rules) _ w.front w.front_len _ _ c.in_ok-numbers.ensures)
    c.if-kind-gt-LAST_KIND.false _ c.kind_of.ensures _ c.seen_query-q.ensures _ _ c.in_err-started.ensures)

pub returns : goal.returns
returns c =
    let w = c.as_chunks.ensures in
    start_accepted _ c.args.queries.now _ _ _ _ _
    (query_found (λ s b h. h) _ (search rules) _ w.front w.front_len _ _ c.in_ok-numbers.ensures)
    c.if-kind-gt-LAST_KIND.false _ c.kind_of.ensures _ c.seen_query-q.ensures _ _ c.in_ok-started.ensures
    _ c.code_query.ensures _ c.store_lane.ensures
