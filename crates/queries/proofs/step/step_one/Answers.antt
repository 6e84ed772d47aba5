-- step_one does what `step_one` says: one law of Steps.antt for each return, on the tables that were lent.
use mathlib.Core.Path.{ap}
use Rattle.tables.specs.Grid.{grid}
use Rattle.tables.proofs.Grid.{right_words_lem, wrong_words, wrong_times}
use Rattle.queries.specs.Query.{is_idle, is_finished}
use Rattle.queries.proofs.Cases.{busy, not_over}
use Rattle.queries.proofs.Steps.{step_sizes, step_lane, step_idle, step_finished, step_scan}
use Rattle.queries.proofs.step.step_one.Goals as goal

pub returns-in_default : goal.returns-in_default
returns-in_default c =
    let w = c.args.words.now in
    let ts = c.args.times.now in
    step_sizes (grid w ts) _ _ (wrong_words w ts c.in_default.ensures.cases)

pub returns-in_default-as_array : goal.returns-in_default-as_array
returns-in_default-as_array c =
    let w = c.args.words.now in
    let ts = c.args.times.now in
    rw c.in-Some.ensures.cases.same (step_sizes (grid w ts) _ _ (wrong_times w ts c.in_default-as_array.ensures.cases))

pub returns-in_default-new : goal.returns-in_default-new
returns-in_default-new c =
    let w = c.args.words.now in
    let ts = c.args.times.now in
    let s = right_words_lem w ts c.in-Some.ensures.cases.long c.in-Some-as_array.ensures.cases.long in
    rw c.in-Some.ensures.cases.same (step_lane (grid w ts) _ _ s c.in_default-new.ensures.above)

pub returns-in-Idle : goal.returns-in-Idle
unfolding is_idle
returns-in-Idle c =
    let w = c.args.words.now in
    let ts = c.args.times.now in
    let s = right_words_lem w ts c.in-Some.ensures.cases.long c.in-Some-as_array.ensures.cases.long in
    rw c.in-Some.ensures.cases.same (step_idle (grid w ts) _ _ s (rw c.in-Some-new.ensures.same at c.in-Some-new.at.in_range) (ap is_idle c.in-Idle.is))

pub returns-in-Finished : goal.returns-in-Finished
unfolding is_idle is_finished
returns-in-Finished c =
    let w = c.args.words.now in
    let ts = c.args.times.now in
    let s = right_words_lem w ts c.in-Some.ensures.cases.long c.in-Some-as_array.ensures.cases.long in
    rw c.in-Some.ensures.cases.same (step_finished (grid w ts) _ _ s (rw c.in-Some-new.ensures.same at c.in-Some-new.at.in_range) (ap is_idle c.in-Finished.is) (ap is_finished c.in-Finished.is))

pub returns-in_default-stage : goal.returns-in_default-stage
returns-in_default-stage c =
    let w = c.args.words.now in
    let ts = c.args.times.now in
    let s = right_words_lem w ts c.in-Some.ensures.cases.long c.in-Some-as_array.ensures.cases.long in
    let e = rw (c.in-Some.ensures.cases.same, c.in-Some-as_array.ensures.cases.same, c.in-Some-new.ensures.same) at c.scan_step.ensures in
    step_scan (grid w ts) _ _ s (rw c.in-Some-new.ensures.same at c.in-Some-new.at.in_range) (busy _ c.in_default-stage.not-Idle)
    (not_over _ c.in_default-stage.not-Finished) c.scan_step.result _ _ e c.end_step.ensures
