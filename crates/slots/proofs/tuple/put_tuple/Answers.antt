-- put_tuple writes over the four columns of the list: the law of Putting.antt.
use lib.ListN.{length-set}
use native.Mathlib.Omega.{arith}
use Rattle.slots.proofs.Putting.{put_all}
use Rattle.slots.proofs.tuple.put_tuple.Goals as goal

pub bounds-tuples-at-2 : goal.bounds-tuples-at-2
bounds-tuples-at-2 c = rw length-set (omega arith)

pub bounds-tuples-at-3 : goal.bounds-tuples-at-3
bounds-tuples-at-3 c = rw length-set (rw length-set (omega arith))

pub bounds-tuples-at-4 : goal.bounds-tuples-at-4
bounds-tuples-at-4 c = rw length-set (rw length-set (rw length-set (omega arith)))

pub returns : goal.returns
returns c ts =
    put_all c.args.tuples.now c.requires.0 c.args.at c.requires.1 c.args.r.oid c.args.r.x c.args.r.y
    c.args.r.tag ts
