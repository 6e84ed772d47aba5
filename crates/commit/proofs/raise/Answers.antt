-- raise does what stage 11 says: as raise_count ends on the counts, seen on all tables.
use mathlib.Core.Path.{◌∙◌}
use Rattle.std.proofs.Common.{rules}
use Rattle.std.proofs.lemmas.Result.{err_from_is_err_and}
use Rattle.base.specs.Outcome.{nothing}
use Rattle.base.proofs.Ends.{within}
use Rattle.tables.specs.Tables.{with_count}
use Rattle.tables.specs.Grid.{grid}
use Rattle.tables.proofs.Grid.{put_count}
use Rattle.cells.specs.Chain.{raise as raising}
use Rattle.cells.proofs.Stored.{count#}
use Rattle.stage.specs.declared.Stage.TheVariants.{SwitchPlace}
use Rattle.stage.proofs.After.{change_refused, change_made}
use Rattle.commit.specs.Commit.{stage11}
use Rattle.commit.proofs.raise.Goals as goal

pub returns-in_err-raise_count : goal.returns-in_err-raise_count
unfolding stage11 grid
returns-in_err-raise_count c ts =
    let w = c.args.words.now in
    let t = grid w ts in
    let n = c.raise_count.new.count in
    let o = raising t.count c.args.place.bucket in
    let p = err_from_is_err_and c.from_residual.result c.from_residual.ensures.1 in
    rw (p.1, p.2) (change_refused (with_count t) t _ o (SwitchPlace c.args.place) _
    (within nothing (with_count t) t.count o _ n _ c.in_err-raise_count.ensures
    (put_count w ts (search rules) n (c.raise_count.auto.count ∙ count# w (search rules)))))

pub returns : goal.returns
unfolding stage11 grid
returns c ts =
    let w = c.args.words.now in
    let t = grid w ts in
    let n = c.raise_count.new.count in
    let o = raising t.count c.args.place.bucket in
    change_made (with_count t) t _ o (SwitchPlace c.args.place) _
    (within nothing (with_count t) t.count o _ n _ c.in_ok-raise_count.ensures
    (put_count w ts (search rules) n (c.raise_count.auto.count ∙ count# w (search rules))))
