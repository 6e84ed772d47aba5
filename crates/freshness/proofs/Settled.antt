-- ANY GOOD GRID AT REST, whatever made it, is one from which all that is promised of lists holds: the history that
-- says just where each object stands, by its current tuple, fits it.
-- At rest no lock is held, so the places of an object are those of its entry: a tuple with a positive time is its
-- object's current one, for previous ones are flagged. Nothing is under way, and there is no query to be looked at.
use mathlib.Core.Path.{◌≡◌, refl}
use mathlib.Core.Logic.{◌≢◌, ⊎_elim}
use mathlib.Core.Bool.{false}
use Rattle.std.specs.Prelude.{Option, None, Some}
use mathlib.Core.List.{List, ◌∷◌}
use Prim.Native.Nat.{ℕ, zero, suc, ◌<◌}
use lib.Dec.{T}
use Rattle.base.specs.Outcome.{Outcome, corrupt, blocked, done}
use Rattle.base.proofs.Table.{clash}
use Rattle.machine.specs.Store.{StoreOps, Store}
use Rattle.layout.specs.Place.{decode}
use Rattle.layout.specs.declared.place.Place.{Place}
use Rattle.index.specs.Index.{Entry, entry_for}
use Rattle.stage.specs.declared.Stage.TheVariants.{Idle}
use Rattle.query.specs.declared.Scan.TheVariants.{Idle as IdleQuery}
use Rattle.tables.specs.Tables.{Tables}
use Rattle.grid.specs.Run.{Grid}
use Rattle.machine.specs.Machine.{St}
use Rattle.machine.specs.Marks.{stands}
use Rattle.base.specs.Spot.{Spot}
use Rattle.slots.specs.Spot.{spot_of}
use Rattle.cells.proofs.Chains.{in_chain}
use Rattle.tuples.proofs.Inv.{k_cur, sel, pl, plain, Fit, stage_holds_own, mov_held, mv, Ghost, Inv}
use Rattle.tuples.proofs.Facts.{two_kinds}
use Rattle.tuples.proofs.Fresh.{late}
use Rattle.tuples.proofs.Main.{place_range}
use Rattle.runs.specs.Quiet.{tuple_of}
use Rattle.runs.specs.Sweeps.{query}
use Rattle.runs.proofs.Every.{Good}
use Rattle.runs.proofs.View.{view, came, place_f, places_f, tup_at}
use Rattle.freshness.specs.History.{Event, settles, under_way, standing}
use Rattle.freshness.specs.Settled.{spot_at, entry_spot, stands_in}
use Rattle.freshness.proofs.Fine.{Fine}
use Rattle.freshness.proofs.Past.{Valid}
use Rattle.freshness.proofs.State.{Here, stands_here_at, Now, not_both}

-- where an object stands, by the tuple at its current place
pub record Tells (d : St) (f : ℕ → Option Spot) : Type 0 where
  pub there : (k : ℕ) (p : Place) → (d.ent k).cur ≡ Some p → f k ≡ Some (spot_of (d.tup p.bucket p.slot))
  pub stays : (k : ℕ) → f k ≢ None → (d.ent k).cur ≢ None

module _ {O : StoreOps} {S : Store O} {g : Ghost} {d : St} (I : Inv S g d)
    (idle : (l : ℕ) → l < 8 → (d.lanes l).stage ≡ Idle) where
  pub unlocked : (k : ℕ) → d.lock k ≡ 0
  unfolding stage_holds_own mov_held
  unlocked k = go (d.lock k) refl
    where
      go : (x : ℕ) → d.lock k ≡ x → x ≡ 0
      go zero e = refl
      go (suc l) e =
          let w = I.objs.his k l e in
          let i = idle l w.0 in
          absurd (⊎_elim
          (λ (u : T (stage_holds_own (d.lanes l).stage) × ((d.lanes l).oid ≡ k)). rw i at u.0)
          (λ (u : T (mov_held (d.lanes l).stage) × (mv (d.lanes l).oid (d.lanes l).stage ≡ k)). rw i at u.0)
          w.1)

module _ {O : StoreOps} {S : Store O} {g : Ghost} {d : St} (I : Inv S g d)
    (idle : (l : ℕ) → l < 8 → (d.lanes l).stage ≡ Idle) (f : ℕ → Option Spot) (F : Tells d f) (es : List Event)
    (v : Valid es) where
  -- a counted tuple with a positive time is its object's current one
  settled_here : (b c h i : ℕ) → g.own b ≡ in_chain c h → i < d.count b → T (stands (d.tup b i).time)
      → Here (d.tup b i).oid (settles f ∷ es) (spot_of (d.tup b i))
  unfolding standing sel
  settled_here b c h i o lt t =
      let k = (d.tup b i).oid in
      let e : g.gh k ≡ plain (d.ent k) = I.free.free k (unlocked I idle k) in
      let w = I.slots.forth b c h i o lt in
      let w' : sel w.0 (plain (d.ent k)) ≡ Some (pl c b i) = rw e at w.1 in
      let P : Fit d.tup (plain (d.ent k)) = rw e at (I.fits.fit k) in
      two_kinds (d.ent k).cur (d.ent k).prev false (pl c b i) w.0 w'
      (λ z. stands_here_at (F.there k (pl c b i) z))
      (λ z. absurd (not_both (d.tup b i).time t (P.prevs (pl c b i) z refl)))

  pub now_settled : Now (settles f ∷ es) g d
  unfolding under_way standing late
  now_settled =
      record {
        valid = Valid.all_settled v;
        rest = λ l l< e. refl;
        busy = λ l l< n. absurd (n (idle l l<));
        aims = λ l l<. record {
          switch = λ p e. let w = idle l l< in clash (cc);
          there = λ t. absurd (rw (idle l l<) at t);
          spot = λ t. absurd (rw (idle l l<) at t);
        };
        stays = F.stays;
        positive = settled_here;
      }

-- ---- where objects stand, by the tables

by_entry : {C : Type 0} (o : Option Entry) → (o ≡ None → C) → ((e : Entry) → o ≡ Some e → C) → C
by_entry None f h = f refl
by_entry (Some e) f h = h e refl

spot_place : (t : Tables) (n : ℕ) (p : Place) → place_f n ≡ Some p → spot_at t (decode n) ≡ Some (spot_of (tuple_of t p))
unfolding came spot_at
spot_place t n p e = go (decode n) e
  where
    go : (o : Outcome (Option Place)) → came None o ≡ Some p → spot_at t o ≡ Some (spot_of (tuple_of t p))
    go corrupt z = clash (cc)
    go blocked z = clash (cc)
    go (done None) z = clash (cc)
    go (done (Some q)) z = let w : q ≡ p = cc in rw w

place_spot : (t : Tables) (n : ℕ) → place_f n ≡ None → spot_at t (decode n) ≡ None
unfolding came spot_at
place_spot t n e = go (decode n) e
  where
    go : (o : Outcome (Option Place)) → came None o ≡ None → spot_at t o ≡ None
    go corrupt z = refl
    go blocked z = refl
    go (done None) z = refl
    go (done (Some q)) z = clash (cc)

-- what the tables say is what the machine sees
pub tells_view : (g : Grid) → Good g → ((l : ℕ) → l < 8 → ((view g).lanes l).stage ≡ Idle)
    → Tells (view g) (stands_in g.tables)
unfolding view places_f stands_in entry_spot sel
tells_view g G idle =
    let t = g.tables in
    record {
      there = λ k p e. by_entry (entry_for t.index k)
          (λ z. let w : None ≡ Some p = rw z at e in clash (cc))
          (λ en z.
          let w : place_f en.current ≡ Some p = rw z at e in
          let gk : G.ghost.gh k ≡ plain ((view g).ent k) = G.inv.free.free k (unlocked G.inv idle k) in
          let low = place_range G.inv k_cur k p (rw gk e) in
          rw (z, tup_at t.tuples p.bucket p.slot low.2) (spot_place t en.current p w));
      stays = λ k n e. by_entry (entry_for t.index k)
          (λ z. n (rw z))
          (λ en z. let w : place_f en.current ≡ None = rw z at e in n (rw z (place_spot t en.current w)));
    }

-- A GOOD GRID AT REST
pub settled_fine : (g : Grid) → Good g → ((l : ℕ) → l < 8 → ((view g).lanes l).stage ≡ Idle)
    → ((q : ℕ) → q < 4 → (query g q).stage ≡ IdleQuery)
    → (f : ℕ → Option Spot) → Tells (view g) f → (es : List Event) → Valid es → Fine (settles f ∷ es) g
settled_fine g G idle still f F es v =
    record {
      good = G;
      fresh = record {
        ghost = G.ghost;
        inv = G.inv;
        now = now_settled G.inv idle f F es v;
        sees = λ q q< n. absurd (n (still q q<));
      };
    }
