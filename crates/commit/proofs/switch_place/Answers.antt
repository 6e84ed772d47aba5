-- switch_place does what stage 12 says: as the search ends, by the test of the cell, then as shift_entry answers.
use mathlib.Core.Path.{◌≡◌, sym}
use Rattle.std.proofs.Common.{rules}
use Rattle.std.proofs.lemmas.Result.{err_from_is_err_and}
use Rattle.tables.specs.Grid.{grid}
use Rattle.tables.proofs.Grid.{set_cells}
use Rattle.stage.proofs.Entry.{entry_is, entry_lost}
use Rattle.commit.specs.Commit.{after_switching}
use Rattle.commit.proofs.Switching.{cells_there, switch_missing, switch_far, switch_lost, switch_made}
use Rattle.commit.proofs.switch_place.Goals as goal
use Rattle.commit.proofs.switch_place.Goals.{in-None, in-Some}

pub returns-in_err-i : goal.returns-in_err-i
returns-in_err-i c ts =
    let p = err_from_is_err_and c.from_residual.result c.from_residual.ensures.1 in
    rw (p.1, p.2) (switch_missing (grid c.args.words.now ts) c.args.place c.args.oid
    (entry_lost _ _ (sym (c.seek_object.ensures ts)) c.in_err-i.ensures).1)

pub returns-then-place-ge-CELL_COUNT : goal.returns-then-place-ge-CELL_COUNT
returns-then-place-ge-CELL_COUNT c ts =
    switch_far (grid c.args.words.now ts) c.args.place c.args.oid
    (entry_is _ _ (sym (c.seek_object.ensures ts)) c.in_ok-i.ensures)
    (cells_there c.args.words.now ts (search rules)) c.if-place-ge-CELL_COUNT.true

pub returns-in_err-old : goal.returns-in_err-old
returns-in_err-old c ts =
    let p = err_from_is_err_and c.from_residual-in_err-old.result c.from_residual-in_err-old.ensures.1 in
    rw (p.1, p.2) (switch_lost (grid c.args.words.now ts) c.args.place c.args.oid
    (entry_is _ _ (sym (c.seek_object.ensures ts)) c.in_ok-i.ensures)
    (cells_there c.args.words.now ts (search rules)) (grid c.shift_entry.new.words ts)
    (c.shift_entry.ensures ts) c.in_err-old.was)

pub returns : goal.returns
returns c ts =
    let n : c.match-old.next ≡ after_switching c.in_ok-old.old = elim c.match-old.branch [
      | in-None w ↦ rw w.in-None.is w.next-is
      | in-Some w ↦ rw w.in-Some.is w.next-is
    ] in
    rw n (switch_made (grid c.args.words.now ts) c.args.place c.args.oid
    (entry_is _ _ (sym (c.seek_object.ensures ts)) c.in_ok-i.ensures)
    (cells_there c.args.words.now ts (search rules)) (grid c.shift_entry.new.words ts)
    (c.shift_entry.ensures ts) c.in_ok-old.was c.if-place-ge-CELL_COUNT.false _
    (set_cells c.shift_entry.new.words ts (search rules) c.args.place.cell 0 c.if-place-ge-CELL_COUNT.false))
