-- correct_moved does what stage 7 says of all tables from the object's entry on, where the tuple that moved is another object's: one law for each return, by what the search, read_sign and encode_place answered.
-- The search ends at one of the 512 entries and a place that has a number is in a cell, so that every access is in range.
use mathlib.Core.Path.{sym, ◌∙◌}
use mathlib.Core.List.{[]}
use native.Mathlib.Omega.{arith}
use Rattle.std.proofs.Common.{rules}
use Rattle.std.proofs.lemmas.Result.{err_from_is_err_and}
use Rattle.index.proofs.Probe.{found_below}
use Rattle.tables.specs.Grid.{grid}
use Rattle.erase.proofs.Entries.{numbered_cell}
use Rattle.erase.proofs.Erasing.{moved_unknown, moved_unsigned, moved_outside, moved_current_lem, moved_deleted}
use Rattle.erase.proofs.Stored.{signed_in, sized, stored_current, stored_previous}
use Rattle.erase.proofs.correct_moved.Goals as goal

pub returns-in_default : goal.returns-in_default
returns-in_default c =
    moved_unknown (grid c.args.words.now c.args.times.now) c.args.place c.args.moved c.args.i
    (sized c.args.words.now c.args.times.now (search rules)) c.requires (c.seek_object.ensures c.args.times.now ∙ c.in_default.is)

pub returns-in_err-deleted : goal.returns-in_err-deleted
returns-in_err-deleted c =
    let p = err_from_is_err_and c.from_residual.result c.from_residual.ensures.1 in
    let f = c.seek_object.ensures c.args.times.now ∙ c.in-Found.is in
    rw (p.1, p.2) (moved_unsigned (grid c.args.words.now c.args.times.now) c.args.place c.args.moved c.args.i
    (sized c.args.words.now c.args.times.now (search rules)) c.requires _ (found_below _ _ f) f
    (signed_in c.args.words.now c.args.times.now (search rules) c.args.place.bucket c.args.place.slot (sym c.in_err-deleted.ensures)))

pub returns-in_err-number : goal.returns-in_err-number
returns-in_err-number c =
    let p = err_from_is_err_and c.from_residual-in_err-number.result c.from_residual-in_err-number.ensures.1 in
    let f = c.seek_object.ensures c.args.times.now ∙ c.in-Found.is in
    rw (p.1, p.2) (moved_outside (grid c.args.words.now c.args.times.now) c.args.place c.args.moved c.args.i
    (sized c.args.words.now c.args.times.now (search rules)) c.requires _ (found_below _ _ f) f _
    (signed_in c.args.words.now c.args.times.now (search rules) c.args.place.bucket c.args.place.slot (sym c.in_ok-deleted.ensures))
    (sym c.in_err-number.ensures))

pub returns-then-deleted : goal.returns-then-deleted
returns-then-deleted c =
    let f = c.seek_object.ensures c.args.times.now ∙ c.in-Found.is in
    let e = sym c.in_ok-number.ensures in
    moved_deleted (grid c.args.words.now c.args.times.now) c.args.place c.args.moved c.args.i
    (sized c.args.words.now c.args.times.now (search rules)) c.requires _ (found_below _ _ f) f _ e _
    (signed_in c.args.words.now c.args.times.now (search rules) c.args.place.bucket c.args.place.slot (search rules))
    (stored_previous c.args.words.now c.args.times.now (search rules) c.args.i c.args.place.cell c.requires
    (numbered_cell c.args.place _ e) _ _ (found_below _ _ f))

pub returns : goal.returns
returns c =
    let f = c.seek_object.ensures c.args.times.now ∙ c.in-Found.is in
    let e = sym c.in_ok-number.ensures in
    moved_current_lem (grid c.args.words.now c.args.times.now) c.args.place c.args.moved c.args.i
    (sized c.args.words.now c.args.times.now (search rules)) c.requires _ (found_below _ _ f) f _ e _
    (signed_in c.args.words.now c.args.times.now (search rules) c.args.place.bucket c.args.place.slot (search rules))
    (stored_current c.args.words.now c.args.times.now (search rules) c.args.i c.args.place.cell c.requires
    (numbered_cell c.args.place _ e) _ _ (found_below _ _ f))

pub overflow_add-words-2 : goal.overflow_add-words-2
overflow_add-words-2 c = omega (arith, found_below _ _ (c.seek_object.ensures [] ∙ c.in-Found.is))

pub offset_bounds-words-j : goal.offset_bounds-words-j
offset_bounds-words-j c = omega (arith, found_below _ _ (c.seek_object.ensures [] ∙ c.in-Found.is))

pub bounds-words-j : goal.bounds-words-j
bounds-words-j c = omega (arith, found_below _ _ (c.seek_object.ensures [] ∙ c.in-Found.is))

pub overflow_add-words-then-deleted : goal.overflow_add-words-then-deleted
overflow_add-words-then-deleted c = omega (arith, found_below _ _ (c.seek_object.ensures [] ∙ c.in-Found.is))

pub offset_bounds-words-j-then-deleted : goal.offset_bounds-words-j-then-deleted
offset_bounds-words-j-then-deleted c = omega (arith, found_below _ _ (c.seek_object.ensures [] ∙ c.in-Found.is))

pub bounds-words-j-then-deleted : goal.bounds-words-j-then-deleted
bounds-words-j-then-deleted c = omega (arith, found_below _ _ (c.seek_object.ensures [] ∙ c.in-Found.is))

pub overflow_add-words-4 : goal.overflow_add-words-4
overflow_add-words-4 c = omega (arith, found_below _ _ (c.seek_object.ensures [] ∙ c.in-Found.is))

pub offset_bounds-words-j-2 : goal.offset_bounds-words-j-2
offset_bounds-words-j-2 c = omega (arith, found_below _ _ (c.seek_object.ensures [] ∙ c.in-Found.is))

pub bounds-words-j-2 : goal.bounds-words-j-2
bounds-words-j-2 c = omega (arith, found_below _ _ (c.seek_object.ensures [] ∙ c.in-Found.is))

pub bounds-words-place : goal.bounds-words-place
bounds-words-place c = omega (arith, numbered_cell c.args.place _ (sym c.in_ok-number.ensures))
