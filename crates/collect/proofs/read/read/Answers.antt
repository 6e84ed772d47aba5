-- read hands back the first numbers of the list as `read_into` leaves it: as many as are filled stand there.
use Rattle.std.proofs.Common.{sym}
use Rattle.std.proofs.lemmas.List.{length-take-le}
use Rattle.tables.specs.Grid.{grid}
use Rattle.collect.proofs.Parted.{unwrapped_within, unwrapped_handed}
use Rattle.collect.proofs.read.read.Goals as goal

pub slice_bounds-result-end : goal.slice_bounds-result-end
slice_bounds-result-end c =
    sym (length-take-le _ _ (unwrapped_within (grid c.args.words.now c.args.times.now) _ _ _ _ _ _
    c.read_into-answer.ensures c.unwrap_or_default-reading.ensures))

pub returns : goal.returns
returns c =
    rw c.call_number.ensures (unwrapped_handed (grid c.args.words.now c.args.times.now) _ _ _ _ _ _
    c.read_into-answer.ensures c.unwrap_or_default-reading.ensures)
