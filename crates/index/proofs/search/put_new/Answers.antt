-- put_new writes an entry over the four tables: the law of Room.antt.
use native.Mathlib.Omega.{arith}
use lib.ListN.{length-set}
use mathlib.Core.Path.{sym}
use Rattle.index.specs.Index.{new_entry}
use Rattle.index.proofs.Room.{put_all}
use Rattle.index.proofs.search.put_new.Goals as goal

pub bounds-index-at-2 : goal.bounds-index-at-2
bounds-index-at-2 c = simp length-set (omega arith)

pub bounds-index-at-3 : goal.bounds-index-at-3
bounds-index-at-3 c = simp length-set (omega arith)

pub bounds-index-at-4 : goal.bounds-index-at-4
bounds-index-at-4 c = simp length-set (omega arith)

pub returns : goal.returns
returns c = sym (put_all c.args.index.now c.requires.0 c.args.at c.requires.1 c.args.oid new_entry)
