-- The tests of a query's stage, told by the case that it is or is not.
use mathlib.Core.Path.{◌≡◌}
use mathlib.Core.Bool.{true, false}
use Rattle.query.specs.declared.Scan.{Scan}
use Rattle.query.specs.declared.Scan.TheVariants.{Idle, Finished}
use Rattle.queries.specs.Query.{is_idle, is_finished}
use Rattle.queries.proofs.Cases.{busy, not_over}

pub idle_yes : (s : Scan) → s ≡ Idle → is_idle s ≡ true
unfolding is_idle
idle_yes s e = rw e

pub over_busy : (s : Scan) → s ≡ Finished → is_idle s ≡ false
unfolding is_idle
over_busy s e = rw e

pub over_yes : (s : Scan) → s ≡ Finished → is_finished s ≡ true
unfolding is_finished
over_yes s e = rw e

pub ruleset stage_tests = (idle_yes, busy, over_busy, over_yes, not_over)
