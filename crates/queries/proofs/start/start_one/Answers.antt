-- start_one does what `start_one` says: one law of Steps.antt for each return, on the tables that were lent.
use mathlib.Core.Path.{sym, ap, ◌∙◌}
use native.Mathlib.Omega.{arith}
use Rattle.std.proofs.lemmas.Result.{err_from_is_err_and}
use Rattle.tables.specs.Grid.{grid}
use Rattle.tables.proofs.Grid.{set_clock}
use Rattle.regions.specs.Region.{checked_says}
use Rattle.regions.proofs.Checks.{checked_accepted}
use Rattle.queries.specs.Query.{is_idle}
use Rattle.queries.proofs.Cases.{busy}
use Rattle.queries.proofs.Steps.{start_sizes, start_lane, start_taken, start_region, start_spent, start_done, as_tables}
use Rattle.calls.proofs.Sized.{sized, as_long}
use Rattle.queries.proofs.start.start_one.Goals as goal

pub returns-then-not-right_words : goal.returns-then-not-right_words
returns-then-not-right_words c =
    let w = c.args.words.now in
    let ts = c.args.times.now in
    start_sizes (grid w ts) c.args.lane c.args.q c.args.question (sized w ts c.right_words.ensures ∙ c.if-not-right_words.true)

pub returns-then-lane-ge-QUERY_COUNT : goal.returns-then-lane-ge-QUERY_COUNT
returns-then-lane-ge-QUERY_COUNT c =
    let w = c.args.words.now in
    let ts = c.args.times.now in
    let s = sized w ts c.right_words.ensures ∙ c.if-not-right_words.false in
    start_lane (grid w ts) c.args.lane c.args.q c.args.question s c.if-lane-ge-QUERY_COUNT.true

pub returns-in_default : goal.returns-in_default
returns-in_default c =
    let w = c.args.words.now in
    let ts = c.args.times.now in
    let s = sized w ts c.right_words.ensures ∙ c.if-not-right_words.false in
    start_taken (grid w ts) c.args.lane c.args.q c.args.question s c.if-lane-ge-QUERY_COUNT.false
    (busy _ c.in_default.not-Idle)

pub returns-in_err-check_region : goal.returns-in_err-check_region
unfolding is_idle
returns-in_err-check_region c =
    let w = c.args.words.now in
    let ts = c.args.times.now in
    let s = sized w ts c.right_words.ensures ∙ c.if-not-right_words.false in
    let p = err_from_is_err_and c.from_residual.result c.from_residual.ensures.1 in
    rw (p.1, p.2) (start_region (grid w ts) c.args.lane c.args.q c.args.question s c.if-lane-ge-QUERY_COUNT.false
    (ap is_idle c.in-Idle.is) _ (c.check_region.ensures ∙ ap checked_says c.in_err-check_region.was))

pub bounds-words-16384 : goal.bounds-words-16384
bounds-words-16384 c =
    omega (arith, (as_long c.args.words.now c.args.times.now c.right_words.ensures c.if-not-right_words.false).0)

pub returns-then-clock-ge-CLOCK_SPENT : goal.returns-then-clock-ge-CLOCK_SPENT
unfolding grid is_idle
returns-then-clock-ge-CLOCK_SPENT c =
    let w = c.args.words.now in
    let ts = c.args.times.now in
    let s = sized w ts c.right_words.ensures ∙ c.if-not-right_words.false in
    start_spent (grid w ts) c.args.lane c.args.q c.args.question s c.if-lane-ge-QUERY_COUNT.false
    (ap is_idle c.in-Idle.is)
    (checked_accepted _ c.check_region.ensures c.in_ok-check_region.was)
    c.if-clock-ge-CLOCK_SPENT.true

pub bounds-words-16384-2 : goal.bounds-words-16384-2
bounds-words-16384-2 c =
    omega (arith, (as_long c.args.words.now c.args.times.now c.right_words.ensures c.if-not-right_words.false).0)

pub returns : goal.returns
unfolding grid is_idle
returns c =
    let w = c.args.words.now in
    let ts = c.args.times.now in
    let s = sized w ts c.right_words.ensures ∙ c.if-not-right_words.false in
    start_done (grid w ts) c.args.lane c.args.q c.args.question s c.if-lane-ge-QUERY_COUNT.false (ap is_idle c.in-Idle.is)
    (checked_accepted _ c.check_region.ensures c.in_ok-check_region.was)
    c.if-clock-ge-CLOCK_SPENT.false _ c.first_cell.ensures ∙ as_tables 0 _
    (sym (set_clock w ts
    (as_long w ts c.right_words.ensures c.if-not-right_words.false).0 _))
