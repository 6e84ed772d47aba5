-- consider_tuple does what `consider` says of a tuple that it notes: as note_tuple does.
use mathlib.Core.Path.{sym, ◌∙◌}
use Rattle.base.specs.Outcome.{need, pick}
use Rattle.query.specs.Scan.{consider}
use Rattle.query.proofs.reading.consider_tuple.Goals as goal

pub returns : goal.returns
unfolding consider need pick
returns c =
    rw (
      sym c.is_inside.ensures ∙ c.if-not-is_inside.false,
      sym c.can_compare.ensures ∙ c.if-not-can_compare.false,
      sym c.is_seen.ensures ∙ c.if-not-is_seen.false,
    ) c.note_tuple.ensures
