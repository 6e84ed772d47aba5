-- What is to be read behind the value so far is what was to be read at the start. The measure is how many bytes are left.
use Rattle.std.proofs.Common.{◌≡◌, length}
use Rattle.script.specs.Parse.{digits_on}
use Rattle.script.proofs.number.read_digits.Given as goal

abbrev pub invariant-loop-rest : goal.invariant-loop-rest
invariant-loop-rest l = digits_on l.initial.value (l.initial.rest) ≡ digits_on l.value l.rest

abbrev pub decreases-loop-rest : goal.decreases-loop-rest
decreases-loop-rest l = length l.rest
