-- link_bucket stores to three tables of the words: the law of Stored.antt.
use Rattle.std.proofs.Common.{rules}
use mathlib.Core.Path.{refl}
use Prim.Native.Nat.{◌+◌}
use native.Mathlib.Omega.{arith}
use Rattle.base.specs.Table.{at}
use Rattle.words.specs.Map.{FIRST}
use Rattle.cells.proofs.Stored.{one#, two#, stored_link}
use Rattle.cells.proofs.link_bucket.Goals as goal

pub bounds-words-b-2 : goal.bounds-words-b-2
bounds-words-b-2 c =
    omega (
      arith,
      one# c.args.words.now (search rules) c.args.cell c.args.bucket
          (at c.args.words.now (FIRST + c.args.cell)),
      c.requires.1,
    )

pub bounds-words-at-2 : goal.bounds-words-at-2
bounds-words-at-2 c =
    omega (
      arith,
      two# c.args.words.now (search rules) c.args.cell c.args.bucket
          (at c.args.words.now (FIRST + c.args.cell)),
      c.requires.0,
    )

pub returns : goal.returns
returns c ts =
    stored_link c.args.words.now (search rules) c.args.cell c.args.bucket
    (at c.args.words.now (FIRST + c.args.cell)) ts refl c.requires.0 c.requires.1
