-- has_reader answers as `take_reader` ends: by the number that the words have.
use Rattle.std.proofs.Common.{arith}
use Rattle.std.proofs.lemmas.Bool.Decides.{nat_tests}
use Rattle.base.specs.Outcome.{need, outcome_map}
use Rattle.readers.specs.Reader.{take_reader}
use Rattle.readers.proofs.Leaving.{readers_at}
use Rattle.readers.proofs.has_reader.Goals as goal

pub returns-then-readers-eq0 : goal.returns-then-readers-eq0
unfolding take_reader need outcome_map
returns-then-readers-eq0 c =
    rw (readers_at c.args.words.now c.args.bucket c.if-bucket-ge-BUCKET_COUNT.false) (grind (arith, nat_tests))

pub returns : goal.returns
unfolding take_reader need outcome_map
returns c =
    rw (readers_at c.args.words.now c.args.bucket c.if-bucket-ge-BUCKET_COUNT.false) (grind (arith, nat_tests))
