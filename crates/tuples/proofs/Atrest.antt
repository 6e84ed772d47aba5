-- A machine at rest: no update under way, no query in a bucket. Its positive times may be any stamps, and its clock
-- any that no flagged time is above: the invariant says no more of them.
-- Only the signs of times, their range and the clock's stand in the invariant of a machine at rest (`Fits`, `Young`,
-- `Ticks`, `Placed`); every other part reads neither times nor clock, or speaks of lanes under way and of queries in
-- a bucket.
use mathlib.Core.Path.{◌≡◌}
use Rattle.std.specs.Prelude.{None}
use Prim.Native.Nat.{ℕ, ◌≤◌, ◌<◌}
use native.Mathlib.Omega.{arith}
use lib.Dec.{T}
use lib.IntN.{nat_abs}
use Rattle.base.proofs.Table.{clash}
use Rattle.machine.specs.Store.{StoreOps, Store}
use Rattle.machine.specs.Marks.{stands, stood}
use Rattle.base.specs.Sums.{sum_below}
use Rattle.slots.specs.Tuple.{Tuple}
use Rattle.stage.specs.declared.Stage.TheVariants.{Idle}
use Rattle.machine.specs.Machine.{St, with_tup, with_clock}
use Rattle.tuples.proofs.Inv.{Ok, draws, Ghost, Inv}

-- no update is under way, and no query stands in a bucket
pub record Resting (d : St) : Type 0 where
  pub lanes : (l : ℕ) → l < 8 → (d.lanes l).stage ≡ Idle
  pub queries : (q : ℕ) → q < 4 → (d.queries q).bucket ≡ None

-- Other times: each has the sign of the old one, is one that a stamp may have, and is not above the clock if it is
-- flagged.
pub record Retimed (clock : ℕ) (tup tup' : ℕ → ℕ → Tuple) : Type 0 where
  pub oid : (b i : ℕ) → (tup' b i).oid ≡ (tup b i).oid
  pub x : (b i : ℕ) → (tup' b i).x ≡ (tup b i).x
  pub y : (b i : ℕ) → (tup' b i).y ≡ (tup b i).y
  pub tag : (b i : ℕ) → (tup' b i).tag ≡ (tup b i).tag
  pub pos : (b i : ℕ) → T (stands (tup b i).time) → T (stands (tup' b i).time)
  pub neg : (b i : ℕ) → T (stood (tup b i).time) → T (stood (tup' b i).time)
  pub none : (b i : ℕ) → 0 < nat_abs (tup' b i).time → 0 < nat_abs (tup b i).time
  pub some : (b i : ℕ) → 0 < nat_abs (tup b i).time → 0 < nat_abs (tup' b i).time
  pub range : (b i : ℕ) → nat_abs (tup' b i).time ≤ 2147483647
  pub young : (b i : ℕ) → T (stood (tup' b i).time) → nat_abs (tup' b i).time ≤ clock

module _ {O : StoreOps} {S : Store O} {g : Ghost} {d : St} (I : Inv S g d) (Q : Resting d) where
  idle_draws : sum_below 8 (λ l. draws (d.lanes l).stage) ≡ 0
  unfolding sum_below draws
  idle_draws =
      rw (
        Q.lanes 0 (omega arith),
        Q.lanes 1 (omega arith),
        Q.lanes 2 (omega arith),
        Q.lanes 3 (omega arith),
        Q.lanes 4 (omega arith),
        Q.lanes 5 (omega arith),
        Q.lanes 6 (omega arith),
        Q.lanes 7 (omega arith),
      )

  -- OTHER TIMES AND ANOTHER CLOCK keep the invariant of a machine at rest.
  pub retimed : (clock : ℕ) (tup' : ℕ → ℕ → Tuple) → clock ≤ 2147483647 → Retimed clock d.tup tup'
      → Inv S g (with_clock (with_tup d tup') clock)
  unfolding Ok
  retimed clock tup' c≤ R =
      record {
        links = I.links;
        full = I.full;
        stored = I.stored;
        slots = record {
          back = λ κ k p e. let t = I.slots.back κ k p e in (t.0, rw (R.oid p.bucket p.slot) t.1, t.2);
          forth = λ b c h i o lt. rw (R.oid b i) (I.slots.forth b c h i o lt);
          apart = I.slots.apart;
        };
        fits = record {
          fit = λ k. let F = I.fits.fit k in record {
            curs = λ p e. R.pos _ _ (F.curs p e);
            news = λ p e. R.pos _ _ (F.news p e);
            prevs = λ p e f. R.neg _ _ (F.prevs p e f);
            unflagged = λ p e f. R.pos _ _ (F.unflagged p e f);
            far = F.far;
            pair = F.pair;
          };
        };
        free = I.free;
        ok = λ l l<. rw (Q.lanes l l<) tt;
        ranks = I.ranks;
        ticks = record { left = omega (arith, idle_draws) };
        young = record {
          range = R.range;
          young = R.young;
          heard = λ b i h. rw (R.oid b i) (I.young.heard b i (R.none b i h));
        };
        loose = I.loose;
        bounded = I.bounded;
        reading = record { exact = I.reading.exact; standing = λ q b q< e. let z = Q.queries q q< in clash (cc) };
        placed = record {
          inside = λ b c h i o lt.
              let t = I.placed.inside b c h i o lt in
              (rw (R.x b i, R.y b i) t.0, R.some b i t.1, rw (R.x b i) t.2, rw (R.y b i) t.3, rw (R.tag b i) t.4);
        };
        written = record { filled = λ l l< p e. let z = Q.lanes l l< in clash (cc) };
        lanes = I.lanes;
        cells = I.cells;
        objs = I.objs;
        filled = I.filled;
        back = I.back;
      }
