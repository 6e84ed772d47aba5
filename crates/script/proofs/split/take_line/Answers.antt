-- take_line keeps what `Kept` says, by where the line feed is.
use Rattle.script.proofs.Splitting.{rest_in, kept_feed, kept_none}
use Rattle.script.proofs.split.take_line.Goals as goal

pub returns-in-Some : goal.returns-in-Some
returns-in-Some c = kept_feed _ _ _ _ _ (rest_in _ _ _ c.min.ensures) _ c.in-Some.ensures c.keep.ensures

pub returns-in-None : goal.returns-in-None
returns-in-None c = kept_none _ _ _ _ _ (rest_in _ _ _ c.min.ensures) c.in-None.ensures c.keep-in-None.ensures
