-- note_tuple does what `note` says: one law of Noting.antt for each return, by what the look-up answered.
use mathlib.Core.Path.{sym, ◌∙◌}
use native.Mathlib.Omega.{arith}
use Rattle.base.specs.Outcome.{outcome_map, leaves}
use Rattle.hits.specs.Hits.{hits_at}
use Rattle.hits.proofs.Look.{look_within}
use Rattle.hits.proofs.Noting.{note_wide, note_full, note_added, note_kept, note_replaced}
use Rattle.hits.proofs.note_tuple.Goals as goal

pub returns-then-entries-gt-LIST_SIZE : goal.returns-then-entries-gt-LIST_SIZE
unfolding outcome_map leaves
returns-then-entries-gt-LIST_SIZE c = rw (note_wide (hits_at c.args.list.now) _ _ c.args.t c.if-entries-gt-LIST_SIZE.true)

pub returns-then-entries-eq-LIST_SIZE : goal.returns-then-entries-eq-LIST_SIZE
unfolding outcome_map leaves
returns-then-entries-eq-LIST_SIZE c =
    rw (note_full (hits_at c.args.list.now) _ _ c.args.t c.if-entries-gt-LIST_SIZE.false (sym c.find_hit-found.ensures.0 ∙ c.in_default.is) (omega arith))

pub returns-in_default : goal.returns-in_default
unfolding outcome_map leaves
returns-in_default c =
    rw (
      note_added (hits_at c.args.list.now) _ _ c.args.t c.if-entries-gt-LIST_SIZE.false (sym c.find_hit-found.ensures.0 ∙ c.in_default.is) (omega arith),
      c.put_hit.ensures,
    )

pub returns-then-t : goal.returns-then-t
unfolding outcome_map leaves
returns-then-t c =
    rw (note_kept (hits_at c.args.list.now) _ _ c.args.t c.if-entries-gt-LIST_SIZE.false _ (sym c.find_hit-found.ensures.0 ∙ c.in-Some.is) c.if-t.true)

pub put_hit-requires-2 : goal.put_hit-requires-2
put_hit-requires-2 c = (c.requires, omega (arith, c.args.lane.in_range, look_within _ _ _ _ _ (sym c.find_hit-found.ensures.0 ∙ c.in-Some.is)))

pub returns : goal.returns
unfolding outcome_map leaves
returns c =
    rw (
      note_replaced (hits_at c.args.list.now) _ _ c.args.t c.if-entries-gt-LIST_SIZE.false _ (sym c.find_hit-found.ensures.0 ∙ c.in-Some.is) c.if-t.false,
      c.put_hit-2.ensures,
    )
