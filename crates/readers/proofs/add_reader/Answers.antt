-- add_reader does what `add_reader` says, by what room_at answered.
use Rattle.std.proofs.Common.{arith, rules, ◌+◌}
use mathlib.Core.Path.{sym}
use Rattle.base.specs.Outcome.{outcome_map, leaves}
use Rattle.base.specs.Table.{at}
use Rattle.base.proofs.Answer.{mapped_corrupt}
use Rattle.words.specs.Map.{READERS}
use Rattle.words.specs.Words.{count_in, readers_in}
use Rattle.std.proofs.lemmas.Result.{err_from_is_err_and}
use Rattle.readers.specs.Reader.{Reading, add_reader}
use Rattle.readers.proofs.Leaving.{added_lem, readers_at, stored}
use Rattle.readers.proofs.add_reader.Goals as goal

pub returns-in_err-standing : goal.returns-in_err-standing
unfolding outcome_map leaves
returns-in_err-standing c =
    let p = err_from_is_err_and c.from_residual.result c.from_residual.ensures.1 in
    rw (p.1, mapped_corrupt (λ (d : Reading). d.standing) (add_reader (count_in c.args.words.now) (readers_in c.args.words.now) c.args.bucket) (sym c.in_err-standing.ensures))

pub overflow_add-words-2 : goal.overflow_add-words-2
overflow_add-words-2 c =
    let d = added_lem (count_in c.args.words.now) (readers_in c.args.words.now) c.args.bucket _ c.in_ok-standing.ensures in
    omega (arith, readers_at c.args.words.now c.args.bucket d.0)

pub returns : goal.returns
unfolding outcome_map leaves
returns c =
    let w = c.args.words.now in
    let b = c.args.bucket in
    let d = added_lem (count_in w) (readers_in w) b _ c.in_ok-standing.ensures in
    rw (d.2, readers_at w b d.0, stored w b d.0 (search rules) (at w (READERS + b) + 1))
