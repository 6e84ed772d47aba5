-- erase_entry does what `stage7` says of all tables: one law for each return, by the search's end and the tests, and where another object's tuple moved, as correct_moved does.
-- The search ends at one of the 512 entries, so that every access is in range.
use mathlib.Core.Path.{sym, ◌∙◌}
use mathlib.Core.List.{[]}
use native.Mathlib.Omega.{arith}
use Rattle.std.proofs.Common.{rules}
use Rattle.std.proofs.lemmas.Result.{err_from_is_err_and}
use Rattle.index.proofs.Probe.{found_below}
use Rattle.tables.specs.Grid.{grid}
use Rattle.erase.proofs.Erasing.{unknown, another, outside, alone}
use Rattle.erase.proofs.Stored.{sized, stored_own}
use Rattle.erase.proofs.erase_entry.Goals as goal

pub returns-in_default : goal.returns-in_default
returns-in_default c =
    unknown (grid c.args.words.now c.args.times.now) c.args.place c.args.moved c.args.oid (c.seek_object.ensures c.args.times.now ∙ c.in_default.is)

pub correct_moved-requires : goal.correct_moved-requires
correct_moved-requires c = found_below _ _ (c.seek_object.ensures [] ∙ c.in-Found.is)

pub returns-then-moved-oid : goal.returns-then-moved-oid
returns-then-moved-oid c =
    another (grid c.args.words.now c.args.times.now) c.args.place c.args.moved c.args.oid _
    (c.seek_object.ensures c.args.times.now ∙ c.in-Found.is) c.if-moved-oid.true _ _
    c.correct_moved.ensures

pub returns-then-place-ge-CELL_COUNT : goal.returns-then-place-ge-CELL_COUNT
returns-then-place-ge-CELL_COUNT c =
    let f = c.seek_object.ensures c.args.times.now ∙ c.in-Found.is in
    outside (grid c.args.words.now c.args.times.now) c.args.place c.args.moved c.args.oid _ f
    (sized c.args.words.now c.args.times.now (search rules)) c.if-moved-oid.false (found_below _ _ f) c.if-place-ge-CELL_COUNT.true

pub overflow_add-words : goal.overflow_add-words
overflow_add-words c = omega (arith, found_below _ _ (c.seek_object.ensures [] ∙ c.in-Found.is))

pub offset_bounds-words-i : goal.offset_bounds-words-i
offset_bounds-words-i c = omega (arith, found_below _ _ (c.seek_object.ensures [] ∙ c.in-Found.is))

pub bounds-words-i : goal.bounds-words-i
bounds-words-i c = omega (arith, found_below _ _ (c.seek_object.ensures [] ∙ c.in-Found.is))

pub returns : goal.returns
returns c =
    let f = c.seek_object.ensures c.args.times.now ∙ c.in-Found.is in
    alone (grid c.args.words.now c.args.times.now) c.args.place c.args.moved c.args.oid _ f
    (sized c.args.words.now c.args.times.now (search rules)) c.if-moved-oid.false (found_below _ _ f) c.if-place-ge-CELL_COUNT.false _
    (stored_own c.args.words.now c.args.times.now (search rules) _ _ (found_below _ _ f) c.if-place-ge-CELL_COUNT.false)
