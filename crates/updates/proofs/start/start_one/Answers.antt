-- start_one does what `start_one` says: one law of Steps.antt for each return, on the tables that were lent.
use mathlib.Core.Path.{◌≡◌, sym, ◌∙◌}
use mathlib.Core.Bool.{true}
use mathlib.Core.List.{List}
use Prim.Native.Nat.{ℕ}
use native.Mathlib.Omega.{arith}
use lib.IntN.{ℤ}
use lib.ListN.{length}
use Rattle.std.proofs.lemmas.Result.{err_from_is_err_and}
use Rattle.std.specs.Array.{IsWholeChunk}
use Rattle.words.specs.Map.{WORDS, TIMES}
use Rattle.tables.specs.Tables.{right_lengths}
use Rattle.tables.specs.Grid.{grid}
use Rattle.tables.proofs.Grid.{right_words_lem, wrong_words, wrong_times, clock_at}
use Rattle.updates.proofs.Busy.{at_rest, busy}
use Rattle.updates.proofs.Steps.{room_told, start_sizes, start_lane, start_taken, start_nobody, start_off, start_over, start_full, start_spent, start_corrupt, start_done}
use Rattle.updates.proofs.start.start_one.Goals as goal

-- the words that were lent are as many as they have to be, and the stamps too
sized : (w v : List ℕ) (ts : List ℤ) → IsWholeChunk w v WORDS → length ts ≡ TIMES → right_lengths (grid v ts) ≡ true
sized w v ts h e = right_words_lem v ts (rw h.same h.long) e

pub returns-in_default : goal.returns-in_default
returns-in_default c =
    start_sizes (grid c.args.words.now c.args.times.now) _ _ _ _ _ _
    (wrong_words c.args.words.now c.args.times.now c.in_default.ensures.cases)

pub returns-then-times-ne-TIMES : goal.returns-then-times-ne-TIMES
returns-then-times-ne-TIMES c =
    rw (← c.in-Some.ensures.cases.same) (start_sizes (grid c.in-Some.words.now c.args.times.now) _ _ _ _ _ _
    (wrong_times c.in-Some.words.now c.args.times.now c.if-times-ne-TIMES.true))

pub returns-then-lane-ge-UPDATER_COUNT : goal.returns-then-lane-ge-UPDATER_COUNT
returns-then-lane-ge-UPDATER_COUNT c =
    rw (← c.in-Some.ensures.cases.same) (start_lane (grid c.in-Some.words.now c.args.times.now) _ _ _ _ _ _ (sized _ _ _ c.in-Some.ensures.cases c.if-times-ne-TIMES.false)
    c.if-lane-ge-UPDATER_COUNT.true)

pub returns-in_default-stage : goal.returns-in_default-stage
returns-in_default-stage c =
    rw (← c.in-Some.ensures.cases.same) (start_taken (grid c.in-Some.words.now c.args.times.now) _ _ _ _ _ _ (sized _ _ _ c.in-Some.ensures.cases c.if-times-ne-TIMES.false)
    c.if-lane-ge-UPDATER_COUNT.false (busy _ c.in_default-stage.not-Idle))

pub returns-then-oid-eq0 : goal.returns-then-oid-eq0
returns-then-oid-eq0 c =
    rw (← c.in-Some.ensures.cases.same) (start_nobody (grid c.in-Some.words.now c.args.times.now) _ _ _ _ _ _ (sized _ _ _ c.in-Some.ensures.cases c.if-times-ne-TIMES.false)
    c.if-lane-ge-UPDATER_COUNT.false (at_rest _ c.in-Idle.is) c.if-oid-eq0.true)

pub returns-then-not-on_grid : goal.returns-then-not-on_grid
returns-then-not-on_grid c =
    rw (← c.in-Some.ensures.cases.same) (start_off (grid c.in-Some.words.now c.args.times.now) _ _ _ _ _ _ (sized _ _ _ c.in-Some.ensures.cases c.if-times-ne-TIMES.false)
    c.if-lane-ge-UPDATER_COUNT.false (at_rest _ c.in-Idle.is) c.if-oid-eq0.false
    (sym c.on_grid.ensures ∙ c.if-not-on_grid.true))

pub returns-then-tag-gt-LAST_TAG : goal.returns-then-tag-gt-LAST_TAG
returns-then-tag-gt-LAST_TAG c =
    rw (← c.in-Some.ensures.cases.same) (start_over (grid c.in-Some.words.now c.args.times.now) _ _ _ _ _ _ (sized _ _ _ c.in-Some.ensures.cases c.if-times-ne-TIMES.false)
    c.if-lane-ge-UPDATER_COUNT.false (at_rest _ c.in-Idle.is) c.if-oid-eq0.false
    (sym c.on_grid.ensures ∙ c.if-not-on_grid.false) c.if-tag-gt-LAST_TAG.true)

pub returns-then-not-has_room : goal.returns-then-not-has_room
returns-then-not-has_room c =
    rw (← c.in-Some.ensures.cases.same) (start_full (grid c.in-Some.words.now c.args.times.now) _ _ _ _ _ _ (sized _ _ _ c.in-Some.ensures.cases c.if-times-ne-TIMES.false)
    c.if-lane-ge-UPDATER_COUNT.false (at_rest _ c.in-Idle.is) c.if-oid-eq0.false
    (sym c.on_grid.ensures ∙ c.if-not-on_grid.false) (omega arith)
    (room_told (grid c.in-Some.words.now c.args.times.now) _ c.seek_object-place.result (c.seek_object-place.ensures c.args.times.now) (c.has_room.ensures c.args.times.now ∙ c.if-not-has_room.true)))

pub returns-then-words-ge-CLOCK_SPENT : goal.returns-then-words-ge-CLOCK_SPENT
returns-then-words-ge-CLOCK_SPENT c =
    rw (← c.in-Some.ensures.cases.same) (start_spent (grid c.in-Some.words.now c.args.times.now) _ _ _ _ _ _ (sized _ _ _ c.in-Some.ensures.cases c.if-times-ne-TIMES.false)
    c.if-lane-ge-UPDATER_COUNT.false (at_rest _ c.in-Idle.is) c.if-oid-eq0.false
    (sym c.on_grid.ensures ∙ c.if-not-on_grid.false) (omega arith)
    (room_told (grid c.in-Some.words.now c.args.times.now) _ c.seek_object-place.result (c.seek_object-place.ensures c.args.times.now) (c.has_room.ensures c.args.times.now ∙ c.if-not-has_room.false))
    (omega (arith, clock_at c.in-Some.words.now c.args.times.now)))

pub returns-in_err-enter_there : goal.returns-in_err-enter_there
returns-in_err-enter_there c =
    let p = err_from_is_err_and c.from_residual.result c.from_residual.ensures.1 in
    rw (p.1, p.2, ← c.in-Some.ensures.cases.same) (start_corrupt (grid c.in-Some.words.now c.args.times.now) _ _ _ _ _ _ (sized _ _ _ c.in-Some.ensures.cases c.if-times-ne-TIMES.false)
    c.if-lane-ge-UPDATER_COUNT.false (at_rest _ c.in-Idle.is) c.if-oid-eq0.false
    (sym c.on_grid.ensures ∙ c.if-not-on_grid.false) (omega arith)
    (room_told (grid c.in-Some.words.now c.args.times.now) _ c.seek_object-place.result (c.seek_object-place.ensures c.args.times.now) (c.has_room.ensures c.args.times.now ∙ c.if-not-has_room.false))
    (omega (arith, clock_at c.in-Some.words.now c.args.times.now))
    c.enter_there.result _ (c.enter_there.ensures c.args.times.now) c.in_err-enter_there.was)

pub returns : goal.returns
returns c =
    rw (← c.in-Some.ensures.cases.same) (start_done (grid c.in-Some.words.now c.args.times.now) _ _ _ _ _ _ (sized _ _ _ c.in-Some.ensures.cases c.if-times-ne-TIMES.false)
    c.if-lane-ge-UPDATER_COUNT.false (at_rest _ c.in-Idle.is) c.if-oid-eq0.false
    (sym c.on_grid.ensures ∙ c.if-not-on_grid.false) (omega arith)
    (room_told (grid c.in-Some.words.now c.args.times.now) _ c.seek_object-place.result (c.seek_object-place.ensures c.args.times.now) (c.has_room.ensures c.args.times.now ∙ c.if-not-has_room.false))
    (omega (arith, clock_at c.in-Some.words.now c.args.times.now))
    c.enter_there.result _ (c.enter_there.ensures c.args.times.now) c.in_ok-enter_there.was)
