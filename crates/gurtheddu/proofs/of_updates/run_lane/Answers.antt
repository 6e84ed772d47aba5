-- run_lane does what `run_update` says: a law of OfUpdates.antt for each return, by what run_update answered.
use Rattle.std.proofs.Common.{rules}
use Rattle.std.proofs.lemmas.Result.{err_from_is_err_and}
use Rattle.gurtheddu.proofs.OfUpdates.{updater_found, updater_lost, run_lost, run_unmade, run_made}
use Rattle.gurtheddu.proofs.of_updates.run_lane.Goals as goal

pub returns-in_err-numbers : goal.returns-in_err-numbers
returns-in_err-numbers c =
    let p = err_from_is_err_and c.from_residual.result c.from_residual.ensures.1 in
    let w = c.as_chunks.ensures in
    rw (p.1, p.2) (run_lost _ c.args.updaters.now _ _ c.if-budget-eq0.false _
    (updater_lost (λ s b h. h) _ (search rules) _ w.front w.front_len _ _ c.in_err-numbers.ensures))

pub returns-then-ran-gt0 : goal.returns-then-ran-gt0
returns-then-ran-gt0 c =
    let w = c.as_chunks.ensures in
    run_made _ c.args.updaters.now _ _ c.if-budget-eq0.false _
    (updater_found (λ s b h. h) _ (search rules) _ w.front w.front_len _ _ c.in_ok-numbers.ensures)
    _ c.decode_updater.ensures _ _ _ _ c.run_update-ran.ensures c.if-ran-gt0.true
    _ c.code_updater.ensures _ c.store_lane.ensures

pub returns-else-ran-gt0 : goal.returns-else-ran-gt0
returns-else-ran-gt0 c =
    let w = c.as_chunks.ensures in
    run_unmade _ c.args.updaters.now _ _ c.if-budget-eq0.false _
    (updater_found (λ s b h. h) _ (search rules) _ w.front w.front_len _ _ c.in_ok-numbers.ensures)
    _ c.decode_updater.ensures _ _ _ _ c.run_update-ran.ensures c.if-ran-gt0.false
