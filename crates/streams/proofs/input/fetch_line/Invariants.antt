-- The turns so far make `Fetches`, and the line goes on.
use Rattle.std.proofs.Common.{None, Ok}
use Rattle.std.specs.Prelude.{⊤}
use Rattle.streams.specs.Reading.{Fetches}
use Rattle.streams.proofs.input.fetch_line.Given as goal

abbrev pub invariant-loop : goal.invariant-loop
invariant-loop g l = Fetches {E = ⊤} l.initial.block l.initial.line.items l.initial.p l.block l.line.items l.p (Ok None)
