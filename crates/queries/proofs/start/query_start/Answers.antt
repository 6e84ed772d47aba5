-- query_start does what start_one does in its lane: the laws of Lane.antt.
use mathlib.Core.Path.{ap, ◌∙◌}
use mathlib.Core.Bool.{Bool}
use Rattle.std.proofs.lemmas.Result.{err_from_is_err_and}
use Rattle.base.specs.Outcome.{pick}
use Rattle.tables.specs.Grid.{grid}
use Rattle.tables.proofs.Grid.{grid_lengths}
use Rattle.calls.specs.Call.{placed}
use Rattle.queries.proofs.Lane.{start_in, start_kept, start_none}
use Rattle.queries.proofs.start.query_start.Goals as goal

pub returns-then-lane-ge-QUERY_COUNT : goal.returns-then-lane-ge-QUERY_COUNT
returns-then-lane-ge-QUERY_COUNT c =
    let w = c.args.words.now in
    let ts = c.args.times.now in
    start_none (grid w ts) c.args.queries c.args.lane c.if-lane-ge-QUERY_COUNT.true _
    (c.no_lane.ensures ∙ ap (λ (b : Bool). pick b 1 12) (grid_lengths w ts)) _

pub returns-in_err-next : goal.returns-in_err-next
returns-in_err-next c =
    let p = err_from_is_err_and c.from_residual.result c.from_residual.ensures.1 in
    rw (p.1, p.2) (start_kept (grid c.args.words.now c.args.times.now) c.args.queries c.args.lane _ _ _ c.in_err-next.ensures)

pub returns : goal.returns
returns c =
    start_in (grid c.args.words.now c.args.times.now) c.args.queries c.args.lane _
    ∙ ap (placed c.args.queries c.args.lane) c.in_ok-next.ensures
