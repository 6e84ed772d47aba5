-- run_on does what `run_one` says: a step that ends the run, one that is refused, one that moves on, and no step left.
use native.Mathlib.Omega.{arith}
use Rattle.update_run.proofs.Runs.{loop_out, loop_ends, loop_refused, loop_more}
use Rattle.update_run.proofs.run_on.Goals as goal

pub returns-in_default : goal.returns-in_default
returns-in_default c =
    loop_ends c.args.lane c.args.words.now c.args.times.now _ _ c.loop-made.words c.loop-made.times c.loop-made.lanes
    c.loop-made.made c.loop-made.invariant c.requires.0 c.step_stage-turn.result _ _ _ c.step_stage-turn.ensures
    c.end_step.ensures (omega arith) c.in-Ok.is c.in_default.not-Moved _ c.carried_out.ensures.0

pub returns-in-Err : goal.returns-in-Err
returns-in-Err c =
    loop_refused c.args.lane c.args.words.now c.args.times.now _ _ c.loop-made.words c.loop-made.times c.loop-made.lanes
    c.loop-made.made c.loop-made.invariant c.requires.0 c.step_stage-turn.result _ _ _ c.step_stage-turn.ensures
    c.end_step.ensures (omega arith) c.in-Err.is

pub loop-made-preserved : goal.loop-made-preserved
loop-made-preserved c =
    loop_more c.args.lane c.args.words.now c.args.times.now _ _ c.loop-made.words c.loop-made.times c.loop-made.lanes
    c.loop-made.made c.loop-made.invariant c.requires.0 c.step_stage-turn.result _ _ _ c.step_stage-turn.ensures
    c.end_step.ensures (omega arith) c.step_stage-turn.array_long c.step_stage-turn.array_long2 c.in-Ok.is c.in-Moved.is

pub returns : goal.returns
returns c =
    loop_out c.args.lane c.args.words.now c.args.times.now _ _ c.loop-made.words c.loop-made.times c.loop-made.lanes
    c.loop-made.made c.loop-made.invariant (omega arith)
