-- run_on does what `run_one` says. The loop's invariant: the whole run is what is left of it, after the steps that are made.
use Rattle.update_run.proofs.Runs.{Loop}
use Rattle.update_run.proofs.run_on.Given as goal

abbrev pub invariant-loop-made : goal.invariant-loop-made
invariant-loop-made l = Loop l.lane l.initial.words l.initial.times l.budget l.initial.lanes l.words l.times l.lanes l.made
