-- run_on does what `run_one` says. The loop's invariant: the whole run is what is left of it, after the steps that are made.
use Rattle.query_run.proofs.Runs.{Loop}
use Rattle.query_run.proofs.run_on.Given as goal

abbrev pub invariant-loop-made : goal.invariant-loop-made
invariant-loop-made l = Loop l.lane.number l.times l.initial.words l.budget l.initial.lanes l.words l.lanes l.made
