-- What a query does next, on all tables, by its stage: one law for each way.
use mathlib.Core.Path.{◌≡◌, ap, ◌∙◌}
use mathlib.Core.Logic.{◌≢◌}
use Rattle.std.specs.Prelude.{Err}
use Prim.Native.Nat.{ℕ}
use borrow.Author.Tests.{eq-eqb, ne_eqb}
use Rattle.base.specs.Outcome.{pick}
use Rattle.base.specs.Step.{Said, turn_tells, turn_leaves, turned}
use Rattle.base.specs.declared.Stop.TheVariants.{Corrupt}
use Rattle.readers.specs.declared.Standing.{Standing}
use Rattle.query.specs.On.{enter_on, leave_on, read_on}
use Rattle.query.specs.Scan.{progress_says}
use Rattle.query.specs.declared.Scan.{Scan}
use Rattle.query.specs.declared.Scan.TheVariants.{Idle, Enter, Read, Finished}
use Rattle.query.specs.declared.Query.{Query}
use Rattle.tables.specs.Tables.{Tables}
use Rattle.queries.specs.Scans.{scan_on}

module _ (t t' : Tables) (l : ℕ) (q : Query) (r : Said Query) where
  pub scan_enter : (c : ℕ) → q.stage ≡ Enter c → turned t (enter_on t q c) ≡ (r, t')
      → turned t (scan_on t l q q.stage) ≡ (r, t')
  unfolding scan_on
  scan_enter c e h = ap (λ (s : Scan). turned t (scan_on t l q s)) e ∙ h

  module _ (c : ℕ) (s : Standing) (e : q.stage ≡ Read c s) where
    -- no slot is left
    pub scan_leave : s.left ≡ 0 → turned t (leave_on t q c s.bucket) ≡ (r, t')
        → turned t (scan_on t l q q.stage) ≡ (r, t')
    unfolding scan_on pick
    scan_leave z h = ap (λ (s : Scan). turned t (scan_on t l q s)) e ∙ rw (eq-eqb s.left 0 z) h

    pub scan_read : s.left ≢ 0 → turned t (read_on t l q c s) ≡ (r, t') → turned t (scan_on t l q q.stage) ≡ (r, t')
    unfolding scan_on pick
    scan_read z h = ap (λ (s : Scan). turned t (scan_on t l q s)) e ∙ rw (ne_eqb s.left 0 z) h

-- an idle query and a finished one do nothing
module _ (t : Tables) (l : ℕ) (q : Query) where
  pub scan_idle : q.stage ≡ Idle → turned t (scan_on t l q q.stage) ≡ (progress_says (Err Corrupt), t)
  unfolding scan_on turn_tells turn_leaves
  scan_idle e = ap (λ (s : Scan). turned t (scan_on t l q s)) e

  pub scan_over : q.stage ≡ Finished → turned t (scan_on t l q q.stage) ≡ (progress_says (Err Corrupt), t)
  unfolding scan_on turn_tells turn_leaves
  scan_over e = ap (λ (s : Scan). turned t (scan_on t l q s)) e
