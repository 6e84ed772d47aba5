-- WHAT AN ACCEPTED START OF AN UPDATE LEAVES.
use Rattle.std.specs.Prelude.{◌≡◌, ◌≢◌, List, ℕ, get_or}
use Rattle.base.specs.Outcome.{done}
use Rattle.index.specs.Index.{enter}
use Rattle.stage.specs.declared.Stage.TheVariants.{TakeObject}
use Rattle.stage.specs.declared.Updater.{Updater}
use Rattle.tables.specs.Tables.{Tables, with_index}
use Rattle.calls.specs.Call.{After}
use Rattle.updates.specs.Update.{idle_updater}

-- an update that has just been accepted
abbrev pub reported : ℕ → ℕ → ℕ → ℕ → Updater
reported k x y m = record { oid = k; x = x; y = y; tag = m; stage = TakeObject }

-- Lane l has the update u, every other lane is as it was, object k is entered, and nothing else has changed.
pub record Started (t : Tables) (us : List Updater) (l : ℕ) (u : Updater) (k : ℕ) (a : After (List Updater)) : Type 0 where
  pub lane : get_or a.lanes l idle_updater ≡ u
  pub others : (j : ℕ) → j ≢ l → get_or a.lanes j idle_updater ≡ get_or us j idle_updater
  pub index : enter t.index k ≡ done a.tables.index
  pub tables : a.tables ≡ with_index t a.tables.index
  pub clock : a.tables.clock ≡ t.clock
