-- release_object does what `stage14` says of the index: as free_object answers.
use Rattle.std.proofs.lemmas.Result.{err_from_is_err_and}
use Rattle.base.proofs.Answer.{changed_in_corrupt, changed_in_done}
use Rattle.base.specs.Step.{turn_tells, turn_leaves}
use Rattle.index.specs.Index.{index_at, with_lock}
use Rattle.acquire.specs.On.{free_object}
use Rattle.acquire.proofs.Laws.{end_lost, end_done}
use Rattle.acquire.proofs.release_object.Goals as goal

pub returns-in_err-free_object : goal.returns-in_err-free_object
unfolding turn_tells turn_leaves
returns-in_err-free_object c =
    let p = err_from_is_err_and c.from_residual.result c.from_residual.ensures.1 in
    let f = changed_in_corrupt (with_lock (index_at c.args.index.now)) _ _ (free_object _ _) c.free_object.ensures c.in_err-free_object.was in
    rw (p.1, p.2, end_lost (index_at c.args.index.now) c.args.oid f.0, f.1)

pub returns : goal.returns
unfolding turn_tells turn_leaves
returns c =
    let f = changed_in_done (with_lock (index_at c.args.index.now)) _ _ (free_object _ _) c.free_object.ensures c.in_ok-free_object.was in
    rw (end_done (index_at c.args.index.now) c.args.oid f.0 f.1, f.2)
