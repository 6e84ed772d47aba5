-- run_query does what `run_one` says: one law of Runs.antt for each run that makes no step, else as run_on does.
use mathlib.Core.Path.{ap}
use Rattle.tables.specs.Grid.{grid}
use Rattle.tables.proofs.Grid.{right_words_lem, wrong_words, wrong_times}
use Rattle.queries.specs.Query.{is_idle, is_finished}
use Rattle.queries.proofs.Cases.{busy, not_over}
use Rattle.query_run.proofs.Runs.{run_nothing, run_sizes, run_lane, run_idle, run_finished}
use Rattle.query_run.proofs.run_query.Goals as goal

pub returns-then-budget-eq0 : goal.returns-then-budget-eq0
returns-then-budget-eq0 c =
    rw (c.unmade.ensures.0, c.unmade.ensures.1, c.unmade.ensures.2) (run_nothing _ _ (grid c.args.words.now c.args.times.now) _ c.if-budget-eq0.true)

pub returns-in_default : goal.returns-in_default
returns-in_default c =
    let w = c.args.words.now in
    let ts = c.args.times.now in
    rw (c.unmade-in_default.ensures.0, c.unmade-in_default.ensures.1, c.unmade-in_default.ensures.2) (run_sizes _ _ (grid w ts) _ c.if-budget-eq0.false (wrong_words w ts c.in_default.ensures.cases))

pub returns-in_default-as_array : goal.returns-in_default-as_array
returns-in_default-as_array c =
    let w = c.args.words.now in
    let ts = c.args.times.now in
    rw (c.in-Some.ensures.cases.same, c.unmade-in_default-as_array.ensures.0, c.unmade-in_default-as_array.ensures.1, c.unmade-in_default-as_array.ensures.2)
    (run_sizes _ _ (grid w ts) _ c.if-budget-eq0.false (wrong_times w ts c.in_default-as_array.ensures.cases))

pub returns-in_default-new : goal.returns-in_default-new
returns-in_default-new c =
    let w = c.args.words.now in
    let ts = c.args.times.now in
    let s = right_words_lem w ts c.in-Some.ensures.cases.long c.in-Some-as_array.ensures.cases.long in
    rw (c.in-Some.ensures.cases.same, c.unmade-in_default-new.ensures.0, c.unmade-in_default-new.ensures.1, c.unmade-in_default-new.ensures.2)
    (run_lane _ _ (grid w ts) _ c.if-budget-eq0.false s c.in_default-new.ensures.above)

pub run_on-requires : goal.run_on-requires
run_on-requires c =
    (busy _ c.in_default-stage.not-Idle, not_over _ c.in_default-stage.not-Finished)

pub returns-in-Idle : goal.returns-in-Idle
unfolding is_idle
returns-in-Idle c =
    let w = c.args.words.now in
    let ts = c.args.times.now in
    let s = right_words_lem w ts c.in-Some.ensures.cases.long c.in-Some-as_array.ensures.cases.long in
    rw (c.in-Some.ensures.cases.same, c.unmade-in-Idle.ensures.0, c.unmade-in-Idle.ensures.1, c.unmade-in-Idle.ensures.2)
    (run_idle _ _ (grid w ts) _ c.if-budget-eq0.false s (rw c.in-Some-new.ensures.same at c.in-Some-new.at.in_range) (ap is_idle c.in-Idle.is))

pub returns-in-Finished : goal.returns-in-Finished
unfolding is_idle is_finished
returns-in-Finished c =
    let w = c.args.words.now in
    let ts = c.args.times.now in
    let s = right_words_lem w ts c.in-Some.ensures.cases.long c.in-Some-as_array.ensures.cases.long in
    rw (c.in-Some.ensures.cases.same, c.unmade-in-Finished.ensures.0, c.unmade-in-Finished.ensures.1, c.unmade-in-Finished.ensures.2)
    (run_finished _ _ (grid w ts) _ c.if-budget-eq0.false s (rw c.in-Some-new.ensures.same at c.in-Some-new.at.in_range) (ap is_idle c.in-Finished.is) (ap is_finished c.in-Finished.is))
