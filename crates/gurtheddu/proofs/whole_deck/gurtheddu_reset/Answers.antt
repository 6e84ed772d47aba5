-- gurtheddu_reset does what `reset_deck` says.
use Rattle.std.proofs.Common.{rules}
use Rattle.gurtheddu.proofs.Fresh.{reset_done}
use Rattle.gurtheddu.proofs.whole_deck.gurtheddu_reset.Goals as goal

pub returns : goal.returns
returns c =
    reset_done _ _ (search rules) (search rules) _ _ _ c.empty_grid.ensures.0 _ _
    (c.fill.ensures.after (λ y e. e)) (c.fill-2.ensures.after (λ y e. e))
