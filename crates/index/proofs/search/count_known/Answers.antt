-- count_known's answers: each pass takes one entry into n or leaves it out, by the test.
use mathlib.Core.Path.{ap}
use native.Mathlib.Numerals.{add-one}
use native.Mathlib.Omega.{arith}
use lib.ListN.{drop_of_length-le}
use Rattle.index.specs.Search.{known}
use Rattle.index.proofs.Known.{known_nil, known_on, known_step}
use Rattle.index.proofs.search.count_known.Goals as goal
use Rattle.index.proofs.search.count_known.Goals.{then-o-ne0, else-o-ne0}

pub loop-o-preserved : goal.loop-o-preserved
loop-o-preserved c =
    let oids = c.args.oids.now in
    let i = c.loop-o.o-index in
    let i< = c.loop-o-test.true in
    elim c.if-o-ne0.branch [
      | then-o-ne0 w ↦ rw (add-one, w.n-is) (omega (arith, c.loop-o.invariant, known_step oids i i< w.if-o-ne0.true))
      | else-o-ne0 w ↦ rw (add-one, w.n-is) (omega (arith, c.loop-o.invariant, known_on oids i i< w.if-o-ne0.false))
    ]

pub returns : goal.returns
returns c =
    omega (
      arith,
      c.loop-o.invariant.2,
      known_nil,
      ap known
          (drop_of_length-le c.args.oids.now c.loop-o-test.false),
    )
