-- collect does what `collect_into` says: by the laws of Both.antt, from what the reading and the clearing ensure.
use Rattle.std.proofs.Common.{refl}
use Rattle.std.proofs.lemmas.Result.{err_from_is_err_and}
use Rattle.tables.specs.Grid.{grid}
use Rattle.calls.proofs.Runs.{no_step}
use Rattle.collect.proofs.Both.{both_refused, both_ok, both_accepted}
use Rattle.collect.proofs.whole.collect.Goals as goal

pub returns-in_err-reading : goal.returns-in_err-reading
returns-in_err-reading c =
    let p = err_from_is_err_and c.from_residual.result c.from_residual.ensures.1 in
    rw (p.1, p.2) (both_refused (grid c.args.words.now c.args.times.now) _ _ _
    c.in_err-reading.ensures (no_step _).0)

pub unwrap-queries-requires : goal.unwrap-queries-requires
unwrap-queries-requires c =
    both_ok (grid c.args.words.now c.args.times.now) _ _ _ c.in_ok-reading.ensures _ c.clear.ensures

pub returns : goal.returns
returns c =
    both_accepted (grid c.args.words.now c.args.times.now) _ _ _ c.in_ok-reading.ensures refl
    (rw c.unwrap-queries.ensures at c.clear.ensures)
