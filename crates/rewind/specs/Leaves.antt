-- WHAT AN ACCEPTED REWIND LEAVES.
use Rattle.std.specs.Prelude.{◌≡◌, List, ℕ, suc, ◌<◌, ◌≤◌, ℤ, pos, negsuc, get_or}
use Rattle.stage.specs.declared.Updater.{Updater}
use Rattle.query.specs.declared.Query.{Query}
use Rattle.tables.specs.Tables.{Tables, with_times, with_clock}
use Rattle.rest.specs.Rest.{AllIdle}

-- the stamp of slot i, slots 0 to 3 of bucket 0 first
abbrev pub stamp : Tables → ℕ → ℤ
stamp t i = get_or t.tuples.time i (pos 0)

-- What an accepted rewind leaves of the tables t: t'. It was at rest; in every slot a stamp above zero is 1, one below
-- zero −1, and zero stays; a clock above 1 is 1; nothing else is touched.
pub record WoundBack (t : Tables) (us : List Updater) (qs : List Query) (t' : Tables) : Type 0 where
  pub resting : AllIdle us qs
  pub above : (i n : ℕ) → stamp t i ≡ pos (suc n) → stamp t' i ≡ pos 1
  pub below : (i n : ℕ) → stamp t i ≡ negsuc n → stamp t' i ≡ negsuc 0
  pub never : (i : ℕ) → stamp t i ≡ pos 0 → stamp t' i ≡ pos 0
  pub clock : 1 < t.clock → t'.clock ≡ 1
  pub early : t.clock ≤ 1 → t'.clock ≡ t.clock
  pub rest : t' ≡ with_clock (with_times t t'.tuples.time) t'.clock
