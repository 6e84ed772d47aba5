-- Everything is settled, and the grid is any good one at rest: what ties the past to the grid is kept, whatever the
-- grid was before.
-- Nothing is under way then, so only the queries of the list are to be looked at: one that was over stays, and one
-- under way is abandoned with something before it, so that it has had fewer steps than the bound. The objects given
-- are the known ones.
use mathlib.Core.Path.{◌≡◌}
use mathlib.Core.Bool.{true, false}
use Rattle.std.specs.Prelude.{None}
use mathlib.Core.List.{List, ◌∷◌, map}
use Prim.Native.Nat.{ℕ, ◌+◌, ◌<◌}
use native.Mathlib.Omega.{arith}
use lib.Dec.{T}
use lib.ListN.{length}
use Rattle.base.specs.Lists.{In}
use Rattle.base.specs.Outcome.{pick}
use Rattle.base.specs.Table.{at}
use Rattle.base.proofs.Table.{by_test, clash}
use Rattle.stage.specs.Turn.{is_idle}
use Rattle.stage.specs.declared.Stage.TheVariants.{Idle as IdleStage}
use Rattle.query.specs.declared.Scan.{Scan}
use Rattle.query.specs.declared.Scan.TheVariants.{Idle, Enter, Read, Finished}
use Rattle.query.specs.declared.Query.{Query}
use Rattle.queries.specs.Query.{is_idle as isIdleQuery, is_finished}
use Rattle.grid.specs.Run.{Grid}
use Rattle.runs.specs.Quiet.{updater}
use Rattle.runs.specs.Sweeps.{query}
use Rattle.runs.proofs.Every.{Good}
use Rattle.runs.proofs.View.{view}
use Rattle.cost.specs.Account.{Event, deed, settled_deed, only_if, under_way, known, Tally, tally, Sweep, abandon, sweeps}
use Rattle.cost.proofs.Live.{live_bounded}
use Rattle.cost.proofs.Match.{Match}
use Rattle.cost.proofs.Rel.{busy, Fits, Rel, all_map}

-- something is before a query that has not finished
pub before_it : (nx : ℕ → ℕ) (s : Query) (a : Scan) (y : Tally) → isIdleQuery a ≡ false → is_finished a ≡ false
    → Match nx s a y → 0 < length y.cells + y.rest
unfolding Match isIdleQuery is_finished
before_it nx s Idle y i f m = clash (cc)
before_it nx s (Enter c) y i f m = rw m.0.2 (omega arith)
before_it nx s (Read c w) y i f m = omega (arith, m.1.2)
before_it nx s Finished y i f m = clash (cc)

abbrev left : Sweep → Sweep
left s = record {
  lane = s.lane;
  question = s.question;
  steps = s.steps;
  finished = s.finished;
  over = true;
  entered = s.entered;
  updates = s.updates;
  objects = s.objects;
}

abandon_over : (s : Sweep) → s.over ≡ true → abandon s ≡ s
unfolding pick
abandon_over s z = rw z

abandon_on : (s : Sweep) → s.over ≡ false → abandon s ≡ left s
unfolding pick
abandon_on s z = rw z

module _ (e : Event) (past : List Event) (g g' : Grid) (ks : List ℕ) (is : deed e ≡ settled_deed ks)
    (R : Rel past g) (G' : Good g')
    (idle : (l : ℕ) → l < 8 → (updater g' l).stage ≡ IdleStage)
    (still : (q : ℕ) → q < 4 → (query g' q).stage ≡ Idle) (kept : (k : ℕ) → T ((view g').known k) → In k ks) where
  under_none : (l : ℕ) → under_way (e ∷ past) l ≡ None
  unfolding under_way only_if
  under_none l = rw is

  known_kept : known (e ∷ past) ≡ ks
  unfolding known only_if
  known_kept = rw is

  sweeps_left : sweeps (e ∷ past) ≡ map abandon (sweeps past)
  unfolding sweeps only_if
  sweeps_left = rw is

  -- one that was over stays; one under way is abandoned, and had fewer steps than it may have
  fits_left : (s : Sweep) → Fits past g s → Fits (e ∷ past) g' (abandon s)
  fits_left s F = by_test s.over
      (λ z. rw (abandon_over s z) (record { closed = F.closed; under = λ y. clash (cc) }))
      (λ z.
      let U = F.under z in
      rw (abandon_on s z) (record {
        closed = λ _. record {
          found = λ f. let w = U.going in clash (cc);
          each = λ f. let w = U.going in clash (cc);
          bounded = λ h. live_bounded U.live (before_it (at g.tables.next) (query g s.lane)
              (query g s.lane).stage (tally past s.lane) U.busy U.unfinished
              (R.match s.lane U.lane)) h;
        };
        under = λ y. clash (cc);
      }))

  pub rel_settled : Rel (e ∷ past) g'
  unfolding busy is_idle isIdleQuery pick Match
  rel_settled = record {
    good = G';
    ties = λ l l<. rw (under_none l, idle l l<);
    knows = λ k t. rw known_kept (kept k t);
    match = λ q q<. rw (still q q<) tt;
    all = rw sweeps_left (all_map abandon (λ s F. fits_left s F) R.all);
    lasts = λ q q< i. let w = rw (still q q<) at i in clash (cc);
  }
