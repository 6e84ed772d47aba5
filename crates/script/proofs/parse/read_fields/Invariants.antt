-- The numbers so far, in front of what the rest of the line gives, are what the whole line gives. The measure is how many fields there may still be.
use Rattle.std.proofs.Common.{◌≡◌, ◌-◌, length}
use Rattle.script.specs.Parse.{prepend, most_fields, all_fields}
use Rattle.script.proofs.parse.read_fields.Given as goal

abbrev pub invariant-loop-rest : goal.invariant-loop-rest
invariant-loop-rest l = all_fields most_fields l.initial.rest ≡ prepend l.numbers.items (all_fields (most_fields - length l.numbers.items) l.rest)

abbrev pub decreases-loop-rest : goal.decreases-loop-rest
decreases-loop-rest l = most_fields - length l.numbers.items
