-- A REWIND keeps what holds of every grid of a run, and does not give 12. It is refused with 30, and the grid stays; or the
-- grid is at rest and is given other times and another clock (CallKinds.antt): every time keeps its sign, and is 1 at most.
use mathlib.Core.Path.{◌≡◌, refl, sym, ap, subst, ◌∙◌}
use mathlib.Core.Logic.{◌≢◌}
use mathlib.Core.Bool.{false}
use mathlib.Core.List.{List, [], map}
use Prim.Native.Nat.{ℕ, ◌+◌, ◌*◌, ◌≤◌}
use native.Mathlib.Omega.{arith}
use lib.Dec.{T, ltb}
use lib.IntN.{ℤ, nat_abs}
use lib.ListN.{length}
use Rattle.base.specs.Outcome.{pick}
use Rattle.base.proofs.Table.{by_test}
use Rattle.slots.specs.Tuple.{Tuples, tuples_of}
use Rattle.calls.specs.Call.{after, unless}
use Rattle.rest.specs.Rest.{is_at_rest}
use Rattle.rest.proofs.Facts.{at_rest_facts}
use Rattle.rewind.specs.Rewind.{wound_stamp, wound_clock, wound_tables, rewind_tables}
use Rattle.rewind.proofs.Winding.{above_wound, below_wound, abs_wound, map-length, map_at, clock_wound}
use Rattle.grid.specs.Run.{Grid, grid_of, rewind, Answer, answer_of, call}
use Rattle.machine.specs.Marks.{stands, stood}
use Rattle.tuples.proofs.Atrest.{Retimed}
use Rattle.runs.specs.Rest.{AtRest}
use Rattle.runs.proofs.CallKinds.{retimed_grid, retimed_good}
use Rattle.runs.proofs.Every.{Good, sized}
use Rattle.runs.proofs.View.{view, tup_f}

-- ---- the tuples

-- the tuples with their times wound back
abbrev wound_tuples : Tuples → Tuples
wound_tuples d = tuples_of d.oid d.x d.y d.tag (map wound_stamp d.time)

module _ (d : Tuples) (b i : ℕ) where
  time_wound : (tup_f (wound_tuples d) b i).time ≡ wound_stamp (tup_f d b i).time
  unfolding tup_f pick wound_stamp
  time_wound = by_test (ltb i 4) (λ e. rw e (map_at d.time (4 * b + i))) (λ e. rw e)

  same_oid : (tup_f (wound_tuples d) b i).oid ≡ (tup_f d b i).oid
  unfolding tup_f pick
  same_oid = by_test (ltb i 4) (λ e. rw e) (λ e. rw e)

  same_x : (tup_f (wound_tuples d) b i).x ≡ (tup_f d b i).x
  unfolding tup_f pick
  same_x = by_test (ltb i 4) (λ e. rw e) (λ e. rw e)

  same_y : (tup_f (wound_tuples d) b i).y ≡ (tup_f d b i).y
  unfolding tup_f pick
  same_y = by_test (ltb i 4) (λ e. rw e) (λ e. rw e)

  same_tag : (tup_f (wound_tuples d) b i).tag ≡ (tup_f d b i).tag
  unfolding tup_f pick
  same_tag = by_test (ltb i 4) (λ e. rw e) (λ e. rw e)

  stands_wound : stands (tup_f (wound_tuples d) b i).time ≡ stands (tup_f d b i).time
  stands_wound = ap stands time_wound ∙ above_wound (tup_f d b i).time

  stood_wound : stood (tup_f (wound_tuples d) b i).time ≡ stood (tup_f d b i).time
  stood_wound = ap stood time_wound ∙ below_wound (tup_f d b i).time

-- ---- the grid

-- the grid wound back, and the same as one with other times and another clock
abbrev pub wound_grid : Grid → Grid
wound_grid g = grid_of (wound_tables g.tables) g.updaters g.queries

abbrev pub wound_times : Grid → List ℤ
wound_times g = map wound_stamp g.tables.tuples.time

pub is_retimed : (g : Grid) → wound_grid g ≡ retimed_grid g (wound_times g) (wound_clock g.tables.clock)
unfolding wound_tables
is_retimed g = refl

module _ (g : Grid) (G : Good g) where
  abbrev d : Tuples
  d = g.tables.tuples

  -- the clock stays in range
  pub clock_fits : wound_clock g.tables.clock ≤ 2147483647
  unfolding view
  clock_fits = omega (arith, (clock_wound g.tables.clock).0, G.inv.ticks.left)

  -- every time keeps its sign, and none that is flagged is above the clock
  pub wound_retimed : Retimed (wound_clock g.tables.clock) (view g).tup
      (view (retimed_grid g (wound_times g) (wound_clock g.tables.clock))).tup
  unfolding view
  wound_retimed = record {
    oid = same_oid d;
    x = same_x d;
    y = same_y d;
    tag = same_tag d;
    pos = λ b i t. subst T (sym (stands_wound d b i)) t;
    neg = λ b i t. subst T (sym (stood_wound d b i)) t;
    none = λ b i h. omega (arith, ap nat_abs (time_wound d b i), (abs_wound (tup_f d b i).time).1);
    some = λ b i h. rw (time_wound d b i) ((abs_wound (tup_f d b i).time).2 h);
    range = λ b i. omega (arith, ap nat_abs (time_wound d b i), (abs_wound (tup_f d b i).time).0);
    young = λ b i t.
        let w = abs_wound (tup_f d b i).time in
        let y = G.inv.young.young b i (subst T (stood_wound d b i) t) in
        rw (time_wound d b i) ((clock_wound g.tables.clock).1 _ (omega (arith, w.1)) w.0);
  }

  pub wound_length : length (wound_times g) ≡ 2048
  wound_length = map-length g.tables.tuples.time ∙ G.shape.lengths.times

  pub wound_good : AtRest g → Good (wound_grid g)
  wound_good R = subst Good (sym (is_retimed g))
      (retimed_good g R (wound_times g) (wound_clock g.tables.clock) clock_fits wound_retimed wound_length G)

-- ---- the call

-- what a rewind comes to: 30 and the same grid, which is not at rest; or 0 and the grid wound back, which is
pub data Rewinding (g : Grid) : Answer × Grid → Type 0 where
  moving : is_at_rest g.updaters g.queries ≡ false → Rewinding g (answer_of 30 0 [], g)
  resting : AtRest g → Rewinding g (answer_of 0 0 [], wound_grid g)

pub rewinding : (g : Grid) → Good g → Rewinding g (call rewind g)
unfolding call rewind_tables unless after
rewinding g G =
    let z = sized g.tables G.shape.lengths in
    by_test (is_at_rest g.updaters g.queries)
    (λ r. rw (z, r) (resting (at_rest_facts g.updaters g.queries r)))
    (λ r. rw (z, r) (moving r))

pub rewound : (g : Grid) → Good g → ((call rewind g).0.number ≢ 12) × Good (call rewind g).1
rewound g G = go (call rewind g) (rewinding g G)
  where
    go : (r : Answer × Grid) → Rewinding g r → (r.0.number ≢ 12) × Good r.1
    go r (moving m) = ((λ e. absurd (omega arith)), G)
    go r (resting R) = ((λ e. absurd (omega arith)), wound_good g G R)
