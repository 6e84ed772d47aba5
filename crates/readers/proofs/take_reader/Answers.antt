-- take_reader does what `take_reader` says, by what has_reader answered.
use Rattle.std.proofs.Common.{arith, rules, ◌+◌, ◌-◌}
use mathlib.Core.Path.{sym}
use Rattle.base.specs.Outcome.{tells, leaves}
use Rattle.base.specs.Table.{at}
use Rattle.base.proofs.Answer.{mapped_corrupt}
use Rattle.words.specs.Map.{READERS}
use Rattle.words.specs.Words.{readers_in}
use Rattle.std.proofs.lemmas.Result.{err_from_is_err_and}
use Rattle.readers.specs.Reader.{take_reader}
use Rattle.readers.proofs.Leaving.{taken, readers_at, stored}
use Rattle.readers.proofs.take_reader.Goals as goal

pub returns-in_err-has_reader : goal.returns-in_err-has_reader
unfolding tells leaves
returns-in_err-has_reader c =
    let p = err_from_is_err_and c.from_residual.result c.from_residual.ensures.1 in
    rw (p.1, mapped_corrupt _ (take_reader (readers_in c.args.words.now) c.args.bucket) (sym c.in_err-has_reader.ensures))

pub overflow_sub-words : goal.overflow_sub-words
overflow_sub-words c =
    let d = taken (readers_in c.args.words.now) c.args.bucket _ _ c.in_ok-has_reader.ensures in
    omega (arith, readers_at c.args.words.now c.args.bucket d.0)

pub returns : goal.returns
unfolding tells leaves
returns c =
    let w = c.args.words.now in
    let b = c.args.bucket in
    let d = taken (readers_in w) b _ _ c.in_ok-has_reader.ensures in
    rw (d.3, readers_at w b d.0, stored w b d.0 (search rules) (at w (READERS + b) - 1))
