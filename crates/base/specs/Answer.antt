-- What a Result says of how an operation on the tables ended.
use Rattle.std.specs.Prelude.{Result, Ok, Err}
use Rattle.base.specs.Outcome.{Outcome, corrupt, blocked, done}
use Rattle.base.specs.declared.Corrupt.{Corrupt}
use Rattle.base.specs.declared.Stop.{Stop}
use Rattle.base.specs.declared.Stop.TheVariants.{Corrupt as StopCorrupt, Blocked}

-- of one that cannot be blocked
abbrev pub outcome_of : {A : Type 0} → Result A Corrupt → Outcome A
outcome_of (Ok a) = done a
outcome_of (Err e) = corrupt

-- of one that may have to wait
abbrev pub attempt_of : {A : Type 0} → Result A Stop → Outcome A
attempt_of (Ok a) = done a
attempt_of (Err StopCorrupt) = corrupt
attempt_of (Err Blocked) = blocked
