-- room_at answers as `add_reader` ends: by the numbers that the words have.
use Rattle.std.proofs.Common.{arith}
use Rattle.std.proofs.lemmas.Bool.Decides.{nat_tests}
use Rattle.base.specs.Outcome.{need, outcome_map}
use Rattle.readers.specs.Reader.{add_reader}
use Rattle.readers.proofs.Leaving.{readers_at, count_at}
use Rattle.readers.proofs.room_at.Goals as goal

pub returns-then-words-bucket-ge-QUERY_COUNT : goal.returns-then-words-bucket-ge-QUERY_COUNT
unfolding add_reader need outcome_map
returns-then-words-bucket-ge-QUERY_COUNT c =
    let h = c.if-bucket-ge-BUCKET_COUNT.false in
    rw (readers_at c.args.words.now c.args.bucket h, count_at c.args.words.now c.args.bucket h) (grind (arith, nat_tests))

pub returns : goal.returns
unfolding add_reader need outcome_map
returns c =
    let h = c.if-bucket-ge-BUCKET_COUNT.false in
    rw (readers_at c.args.words.now c.args.bucket h, count_at c.args.words.now c.args.bucket h) (grind (arith, nat_tests))
