-- run_update does what `run_one` says: one law of Runs.antt for each run that makes no step, else as run_on does.
use Rattle.tables.specs.Grid.{grid}
use Rattle.tables.proofs.Grid.{right_words_lem, wrong_words, wrong_times}
use Rattle.updates.proofs.Busy.{at_rest, busy}
use Rattle.update_run.proofs.Runs.{run_nothing, run_sizes, run_lane, run_idle}
use Rattle.update_run.proofs.run_update.Goals as goal

pub returns-then-budget-eq0 : goal.returns-then-budget-eq0
returns-then-budget-eq0 c =
    let e = c.unmade.ensures in
    rw (e.0, e.1, e.2) (run_nothing _ _ (grid c.args.words.now c.args.times.now) _ c.if-budget-eq0.true)

pub returns-in_default : goal.returns-in_default
returns-in_default c =
    let e = c.unmade-in_default.ensures in
    let w = c.args.words.now in
    let ts = c.args.times.now in
    rw (e.0, e.1, e.2) (run_sizes _ _ (grid w ts) _ c.if-budget-eq0.false (wrong_words w ts c.in_default.ensures.cases))

pub returns-in_default-as_mut_array : goal.returns-in_default-as_mut_array
returns-in_default-as_mut_array c =
    let e = c.unmade-in_default-as_mut_array.ensures in
    let w = c.args.words.now in
    let ts = c.args.times.now in
    rw (e.0, e.1, e.2, c.in-Some.ensures.cases.same) (run_sizes _ _ (grid w ts) _ c.if-budget-eq0.false (wrong_times w ts c.in_default-as_mut_array.ensures.cases))

pub returns-then-lane-ge-UPDATER_COUNT : goal.returns-then-lane-ge-UPDATER_COUNT
returns-then-lane-ge-UPDATER_COUNT c =
    let e = c.unmade-then-lane-ge-UPDATER_COUNT.ensures in
    let w = c.args.words.now in
    let ts = c.args.times.now in
    let s = right_words_lem w ts c.in-Some.ensures.cases.long c.in-Some-as_mut_array.ensures.cases.long in
    rw (e.0, e.1, e.2, c.in-Some.ensures.cases.same, c.in-Some-as_mut_array.ensures.cases.same) (run_lane _ _ (grid w ts) _ c.if-budget-eq0.false s c.if-lane-ge-UPDATER_COUNT.true)

pub returns-in-Idle : goal.returns-in-Idle
returns-in-Idle c =
    let e = c.unmade-in-Idle.ensures in
    let w = c.args.words.now in
    let ts = c.args.times.now in
    let s = right_words_lem w ts c.in-Some.ensures.cases.long c.in-Some-as_mut_array.ensures.cases.long in
    rw (e.0, e.1, e.2, c.in-Some.ensures.cases.same, c.in-Some-as_mut_array.ensures.cases.same)
    (run_idle _ _ (grid w ts) _ c.if-budget-eq0.false s c.if-lane-ge-UPDATER_COUNT.false (at_rest _ c.in-Idle.is))

pub run_on-requires : goal.run_on-requires
run_on-requires c = (c.if-lane-ge-UPDATER_COUNT.false, busy _ c.in_default-stage.not-Idle)
