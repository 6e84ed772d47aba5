-- step_one does what `step_one` says: one law of Steps.antt for each return, on the tables that were lent.
use Rattle.tables.specs.Grid.{grid}
use Rattle.tables.proofs.Grid.{right_words_lem, wrong_words, wrong_times}
use Rattle.updates.proofs.Busy.{at_rest, busy}
use Rattle.updates.proofs.Steps.{step_sizes, step_lane, step_idle, step_stage}
use Rattle.updates.proofs.step.step_one.Goals as goal

pub returns-in_default : goal.returns-in_default
returns-in_default c =
    step_sizes (grid c.args.words.now c.args.times.now) _ _ (wrong_words c.args.words.now c.args.times.now c.in_default.ensures.cases)

pub returns-in_default-as_mut_array : goal.returns-in_default-as_mut_array
returns-in_default-as_mut_array c =
    rw c.in-Some.ensures.cases.same (step_sizes (grid c.args.words.now c.args.times.now) _ _
    (wrong_times c.args.words.now c.args.times.now c.in_default-as_mut_array.ensures.cases))

pub returns-then-lane-ge-UPDATER_COUNT : goal.returns-then-lane-ge-UPDATER_COUNT
returns-then-lane-ge-UPDATER_COUNT c =
    let w = c.args.words.now in
    let ts = c.args.times.now in
    let s = right_words_lem w ts c.in-Some.ensures.cases.long c.in-Some-as_mut_array.ensures.cases.long in
    rw (c.in-Some.ensures.cases.same, c.in-Some-as_mut_array.ensures.cases.same) (step_lane (grid w ts) _ _ s c.if-lane-ge-UPDATER_COUNT.true)

pub returns-in-Idle : goal.returns-in-Idle
returns-in-Idle c =
    let w = c.args.words.now in
    let ts = c.args.times.now in
    let s = right_words_lem w ts c.in-Some.ensures.cases.long c.in-Some-as_mut_array.ensures.cases.long in
    rw (c.in-Some.ensures.cases.same, c.in-Some-as_mut_array.ensures.cases.same)
    (step_idle (grid w ts) _ _ s c.if-lane-ge-UPDATER_COUNT.false (at_rest _ c.in-Idle.is))

pub returns : goal.returns
returns c =
    let w = c.args.words.now in
    let ts = c.args.times.now in
    let s = right_words_lem w ts c.in-Some.ensures.cases.long c.in-Some-as_mut_array.ensures.cases.long in
    let e = rw (c.in-Some.ensures.cases.same, c.in-Some-as_mut_array.ensures.cases.same) at c.step_stage.ensures in
    step_stage (grid w ts) _ _ s c.if-lane-ge-UPDATER_COUNT.false (busy _ c.in_default-stage.not-Idle) c.step_stage.result _ _ e c.end_step.ensures
