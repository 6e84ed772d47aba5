-- AT REST (document 02): no update is under way, and every query lane is idle. A query that has finished and is not
-- collected is not idle.
use Rattle.std.specs.Prelude.{◌≡◌, Bool, true, ◌&&◌, List, ℕ, zero, suc, ◌<◌, get_or}
use Rattle.stage.specs.Turn.{is_idle}
use Rattle.stage.specs.declared.Stage.TheVariants.{Idle}
use Rattle.stage.specs.declared.Updater.{Updater}
use Rattle.query.specs.declared.Scan.TheVariants.{Idle as IdleQuery}
use Rattle.query.specs.declared.Query.{Query}
use Rattle.updates.specs.Update.{idle_updater}
use Rattle.queries.specs.Query.{idle_query, is_idle as isIdleQuery}

-- the test holds of every number below n
unfoldable pub all_below : ℕ → (ℕ → Bool) → Bool
all_below zero f = true
all_below (suc n) f = f n && all_below n f

-- the eight updaters, and the four queries
unfoldable pub updaters_idle : List Updater → Bool
updaters_idle us = all_below 8 (λ l. is_idle (get_or us l idle_updater).stage)

unfoldable pub queries_idle : List Query → Bool
queries_idle qs = all_below 4 (λ q. isIdleQuery (get_or qs q idle_query).stage)

unfoldable pub is_at_rest : List Updater → List Query → Bool
is_at_rest us qs = updaters_idle us && queries_idle qs

-- the same, lane by lane
pub record AllIdle (us : List Updater) (qs : List Query) : Type 0 where
  pub updates : (l : ℕ) → l < 8 → (get_or us l idle_updater).stage ≡ Idle
  pub queries : (q : ℕ) → q < 4 → (get_or qs q idle_query).stage ≡ IdleQuery
