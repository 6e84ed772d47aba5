-- read_one does what `read_one_into` says: a law of Asked.antt for each answer of `admit`, and the list is as
-- write_entries leaves it.
use Rattle.std.proofs.Common.{arith}
use Rattle.std.proofs.lemmas.Result.{err_from_is_err_and}
use Rattle.words.specs.Map.{HITS, HITS-SIZE}
use Rattle.tables.specs.Grid.{grid}
use Rattle.tables.proofs.Grid.{long}
use Rattle.calls.proofs.Sized.{sized, as_long}
use Rattle.collect.proofs.Asked.{passed, into_refused, into_accepted}
use Rattle.collect.proofs.read.read_one.Goals as goal

pub write_entries-requires : goal.write_entries-requires
write_entries-requires c =
    let p = passed _ _ _ _ c.in_ok-found.ensures in
    let w# = (as_long c.args.words.now c.args.times.now c.right_words-right.ensures p.sizes).0 in
    (long c.args.words.now w# HITS HITS-SIZE (omega arith), omega arith, p.room)

pub returns-in_err-found : goal.returns-in_err-found
returns-in_err-found c =
    let p = err_from_is_err_and c.from_residual.result c.from_residual.ensures.1 in
    rw (p.1, p.2) (into_refused (grid c.args.words.now c.args.times.now) c.args.lane _
    (sized c.args.words.now c.args.times.now c.right_words-right.ensures) _ _ _ c.in_err-found.ensures)

pub returns : goal.returns
unfolding grid
returns c =
    into_accepted (grid c.args.words.now c.args.times.now) c.args.lane _
    (sized c.args.words.now c.args.times.now c.right_words-right.ensures) _ _ _ c.in_ok-found.ensures _
    c.write_entries.ensures
