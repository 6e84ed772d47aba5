-- enter_at does what `insert` says: one case for each end of the search, by the laws of `insert`; the search ends at one of the 512 entries, so that every access is in range.
use mathlib.Core.Path.{sym, ◌∙◌}
use native.Mathlib.Omega.{arith}
use Rattle.base.specs.Outcome.{tells, leaves}
use Rattle.words.specs.Part.{part}
use Rattle.index.specs.Index.{index_at}
use Rattle.index.proofs.Probe.{empty_below}
use Rattle.index.proofs.Map.{insert_found, insert_full, insert_empty}
use Rattle.index.proofs.Room.{oid_at}
use Rattle.index.proofs.search.enter_at.Goals as goal

pub returns-in_default : goal.returns-in_default
unfolding tells leaves
returns-in_default c =
    rw (insert_found (index_at c.args.index.now) c.args.oid (sym c.requires.1 ∙ c.in_default.is))

pub offset_bounds-index-i : goal.offset_bounds-index-i
offset_bounds-index-i c =
    omega (
      arith,
      (empty_below (part 0 512 c.args.index.now) c.args.oid
          (sym c.requires.1 ∙ c.in-Empty.is)),
    )

pub bounds-index-i : goal.bounds-index-i
bounds-index-i c =
    omega (
      arith,
      (empty_below (part 0 512 c.args.index.now) c.args.oid
          (sym c.requires.1 ∙ c.in-Empty.is)),
      c.requires.0,
    )

pub returns-then-index-i-ne0 : goal.returns-then-index-i-ne0
unfolding tells leaves
returns-then-index-i-ne0 c =
    rw (insert_full (index_at c.args.index.now) c.args.oid (sym c.requires.1 ∙ c.in-Empty.is)
    (λ z. c.if-index-i-ne0.true (sym (oid_at c.args.index.now c.in-Empty.i
    (empty_below (part 0 512 c.args.index.now) c.args.oid (sym c.requires.1 ∙ c.in-Empty.is))) ∙
    z)))

pub put_new-requires : goal.put_new-requires
put_new-requires c = (
  c.requires.0,
  (empty_below (part 0 512 c.args.index.now) c.args.oid
      (sym c.requires.1 ∙ c.in-Empty.is)),
)

pub returns : goal.returns
unfolding tells leaves
returns c =
    rw (
      insert_empty (index_at c.args.index.now) c.args.oid (sym c.requires.1 ∙ c.in-Empty.is)
          (oid_at c.args.index.now c.in-Empty.i
          (empty_below (part 0 512 c.args.index.now) c.args.oid (sym c.requires.1 ∙ c.in-Empty.is)) ∙
          c.if-index-i-ne0.false),
      c.put_new.ensures,
    )
