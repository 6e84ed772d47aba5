-- rewind_lanes does what `rewind_deck` says of lanes that are named.
use mathlib.Core.Path.{◌∙◌}
use Rattle.gurtheddu.proofs.Wound.{rewind_as, told_unit}
use Rattle.gurtheddu.proofs.whole_deck.rewind_lanes.Goals as goal

pub returns : goal.returns
returns c =
    rewind_as _ _ _ c.if-not-stages_to.ensures c.if-not-scans_to.ensures
    c.moving.ensures c.from.ensures _ c.seen_updater-u.ensures _ c.idle_queries.ensures
    (c.rewind.ensures ∙ told_unit c.rewind.result _)
