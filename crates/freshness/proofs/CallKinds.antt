-- Three kinds of calls beside starts and steps, and what each keeps of the grid and its past, where it tells the
-- history nothing:
-- one that leaves the grid as it is; one that idles the lane of a finished query, which the machine does not tell
-- from the old one; one that gives a grid at rest other times of the same signs and another clock. The history reads
-- signs only, and at rest no query is there to compare the times with its stamp.
use mathlib.Core.Path.{◌≡◌, refl}
use mathlib.Core.List.{List}
use Prim.Native.Nat.{ℕ, ◌<◌, ◌≤◌}
use native.Mathlib.Omega.{arith}
use lib.Dec.{T, lt→ltb}
use lib.IntN.{ℤ, pos, negsuc, nat_abs}
use lib.ListN.{length}
use lib.Seq.{get_or-set_same, get_or-set_other}
use Rattle.base.proofs.Table.{at_or, clash}
use Rattle.query.specs.declared.Scan.TheVariants.{Finished}
use Rattle.queries.specs.Query.{idle_query}
use Rattle.collect.specs.Collect.{idled}
use Rattle.grid.specs.Run.{Grid}
use Rattle.machine.specs.Marks.{stands, stood}
use Rattle.tuples.proofs.Atrest.{Retimed}
use Rattle.tuples.proofs.Common.{timed}
use Rattle.tuples.proofs.Fresh.{late}
use Rattle.tuples.proofs.Inv.{Ghost}
use Rattle.runs.specs.Rest.{AtRest}
use Rattle.runs.specs.Sweeps.{query}
use Rattle.runs.proofs.CallKinds.{idled_grid, idled_inv, retimed_grid, retimed_inv, retimed_good}
use Rattle.runs.proofs.Every.{Good}
use Rattle.runs.proofs.View.{view}
use Rattle.freshness.specs.History.{Event}
use Rattle.freshness.proofs.Begin.{scanning_on}
use Rattle.freshness.proofs.Fine.{Fresh, Fine, with_ghost}
use Rattle.freshness.proofs.Later.{later_same}
use Rattle.freshness.proofs.State.{Now, not_both}

-- A CALL THAT LEAVES THE GRID AS IT IS
pub fresh_same : (es : List Event) (g g' : Grid) → g' ≡ g → Fresh es g → Fresh es g'
fresh_same es g g' e F = rw e F

-- A CALL THAT IDLES THE LANE OF A FINISHED QUERY
pub fresh_idled : (g : Grid) → Good g → (es : List Event) → Fresh es g → (l : ℕ) → l < 4
    → (query g l).stage ≡ Finished → Fresh es (idled_grid g l)
unfolding view
fresh_idled g G es F l l< f =
    record {
      ghost = F.ghost;
      inv = idled_inv g (with_ghost G F) l l< f;
      now =
          (let N = F.now in record {
            valid = N.valid;
            rest = N.rest;
            busy = N.busy;
            aims = λ j j<. let A = N.aims j j< in record { switch = A.switch; there = A.there; spot = A.spot };
            stays = N.stays;
            positive = N.positive;
          });
      sees = λ p p<. at_or p l
          (λ e. rw (
            e,
            get_or-set_same g.queries l (idled (query g l)) idle_query (omega (arith, G.shape.queries)),
          ) (λ ne. absurd (ne refl)))
          (λ z. rw (get_or-set_other g.queries l p (idled (query g l)) idle_query z) (λ ne. let C = F.sees p p< ne in
          record {
            scan = scanning_on (later_same p es) refl refl (omega arith) (λ k r. r) C.scan;
            shown = C.shown;
          }));
    }

-- ---- other times

-- a time that is not 0 has a sign
by_sign : {C : Type 0} (z : ℤ) → 0 < nat_abs z → (T (stands z) → C) → (T (stood z) → C) → C
by_sign (pos n) h f g = f (lt→ltb 0 n h)
by_sign (negsuc n) h f g = g tt

module _ (es : List Event) (g : Grid) (R : AtRest g) (times : List ℤ) (clock : ℕ) (c≤ : clock ≤ 2147483647)
    (T' : Retimed clock (view g).tup (view (retimed_grid g times clock)).tup) where
  abbrev g' : Grid
  g' = retimed_grid g times clock

  -- what stands now stood before
  stands_back : (b i : ℕ) → T (stands ((view g').tup b i).time) → T (stands ((view g).tup b i).time)
  stands_back b i t = by_sign ((view g).tup b i).time (T'.none b i (timed ((view g').tup b i).time t)) (λ s. s)
      (λ s. absurd (not_both ((view g').tup b i).time t (T'.neg b i s)))

  retimed_now : {gh : Ghost} → Now es gh (view g) → Now es gh (view g')
  unfolding view late
  retimed_now N =
      record {
        valid = N.valid;
        rest = N.rest;
        busy = N.busy;
        aims = λ l l<. let i = R.updates l l< in record {
          switch = λ p e. clash (cc);
          there = λ t. absurd (rw i at t);
          spot = λ t. absurd (rw i at t);
        };
        stays = N.stays;
        positive = λ b c h i o lt t. rw (T'.oid b i, T'.x b i, T'.y b i, T'.tag b i)
            (N.positive b c h i o lt (stands_back b i t));
      }

  -- A GRID AT REST GIVEN OTHER TIMES AND ANOTHER CLOCK: its past fits it as before.
  pub fine_retimed : length times ≡ 2048 → Fine es g → Fine es g'
  fine_retimed n F =
      record {
        good = retimed_good g R times clock c≤ T' n F.good;
        fresh = record {
          ghost = F.fresh.ghost;
          inv = retimed_inv g R times clock c≤ T' F.fresh.inv;
          now = retimed_now F.fresh.now;
          sees = λ q q< ne. absurd (ne (R.queries q q<));
        };
      }
