-- idle_updaters makes `idle_updaters`, eight idle lanes: the default of each field is that of an idle lane.
use mathlib.Core.Path.{ap}
use mathlib.Core.List.{List, [], ◌∷◌}
use Rattle.stage.specs.declared.Updater.{Updater}
use Rattle.updates.specs.Update.{idle_updaters}
use Rattle.updates.proofs.lanes.idle_updaters.Goals as goal

abbrev eight : Updater → List Updater
eight u = u ∷ u ∷ u ∷ u ∷ u ∷ u ∷ u ∷ u ∷ []

pub returns : goal.returns
unfolding idle_updaters
returns c =
    let e = c.default.ensures in
    ap eight (λ j. record { oid = e.0 j; x = e.1.0 j; y = e.1.1.0 j; tag = e.1.1.1.0 j; stage = e.1.1.1.1 j })
