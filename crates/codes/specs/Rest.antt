-- ALL LANES OF A DECK IN THEIR NUMBERS: whether no number of a stage is above some last one. With the last stage there is, every lane names one; with 0, every
-- lane is idle (proofs/Rest.antt).
use Rattle.std.specs.Prelude.{Bool, List, [], ◌∷◌, ℕ, leb}
use Rattle.stage.specs.declared.Updater.{Updater}
use Rattle.query.specs.declared.Query.{Query}
use Rattle.rest.specs.Rest.{all_below}
use Rattle.codes.specs.Updaters.{stage_in, updater_in}
use Rattle.codes.specs.Queries.{scan_in, query_in}

unfoldable pub stages_to : List ℕ → ℕ → Bool
stages_to ns last = all_below 8 (λ l. leb (stage_in ns l) last)

unfoldable pub scans_to : List ℕ → ℕ → Bool
scans_to ns last = all_below 4 (λ l. leb (scan_in ns l) last)

-- the updates and the queries of all lanes
abbrev pub updaters_in : List ℕ → List Updater
updaters_in ns =
    updater_in ns 0 ∷ updater_in ns 1 ∷ updater_in ns 2 ∷ updater_in ns 3
    ∷ updater_in ns 4 ∷ updater_in ns 5 ∷ updater_in ns 6 ∷ updater_in ns 7 ∷ []

abbrev pub queries_in : List ℕ → List Query
queries_in ns = query_in ns 0 ∷ query_in ns 1 ∷ query_in ns 2 ∷ query_in ns 3 ∷ []
