-- run_on does what `run_one` says. The loop's invariant: the whole run is what is left of it, after the steps that are made.
use Rattle.query_run.proofs.Runs.{loop_first, loop_out, loop_ends, loop_refused, loop_more}
use Rattle.query_run.proofs.run_on.Goals as goal

pub loop-made-init : goal.loop-made-init
loop-made-init c = loop_first _ _ _ _ _ c.requires.0 c.requires.1

pub returns-in_default : goal.returns-in_default
returns-in_default c =
    loop_ends c.args.lane.number c.args.times.now c.args.words.now _ _ c.loop-made.words c.loop-made.lanes c.loop-made.made
    c.loop-made.invariant c.told-words c.told-times c.args.lane.in_range c.scan_step-progress.result c.scan_step-progress.new.words _
    c.scan_step-progress.ensures c.end_step.ensures c.loop-made-test.true c.in-Ok.is c.in_default.not-Moved _ c.carried_out.ensures.0

pub returns-in-Err : goal.returns-in-Err
returns-in-Err c =
    loop_refused c.args.lane.number c.args.times.now c.args.words.now _ _ c.loop-made.words c.loop-made.lanes c.loop-made.made
    c.loop-made.invariant c.told-words c.told-times c.args.lane.in_range c.scan_step-progress.result c.scan_step-progress.new.words _
    c.scan_step-progress.ensures c.end_step.ensures c.loop-made-test.true c.in-Err.is

pub loop-made-preserved : goal.loop-made-preserved
loop-made-preserved c =
    loop_more c.args.lane.number c.args.times.now c.args.words.now _ _ c.loop-made.words c.loop-made.lanes c.loop-made.made
    c.loop-made.invariant c.told-words c.told-times c.args.lane.in_range c.scan_step-progress.result c.scan_step-progress.new.words _
    c.scan_step-progress.ensures c.end_step.ensures c.loop-made-test.true c.scan_step-progress.array_long c.in-Ok.is c.in-Moved.is

pub returns : goal.returns
returns c =
    loop_out c.args.lane.number c.args.times.now c.args.words.now _ _ c.loop-made.words c.loop-made.lanes c.loop-made.made c.loop-made.invariant
    c.loop-made-test.false
