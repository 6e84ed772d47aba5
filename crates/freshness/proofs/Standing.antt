-- With no update under way every object stands by the tables where it stands by the history (specs/Standing.antt). Who
-- stands somewhere by the history has a current place (`stays`), and there is a tuple of it with a positive time
-- (`SameTuples`). Such a tuple, counted, is where its object stands or where an update under way reports it
-- (`positive`); there is no such update.
use mathlib.Core.Path.{◌≡◌, refl, sym, ap, ◌∙◌}
use mathlib.Core.Logic.{◌≢◌}
use Rattle.std.specs.Prelude.{Option, None, Some}
use mathlib.Core.List.{List}
use Prim.Native.Nat.{ℕ, ◌<◌}
use native.Mathlib.Omega.{arith}
use lib.Dec.{T}
use Rattle.base.specs.Outcome.{Outcome, corrupt, blocked, done}
use Rattle.base.proofs.Table.{clash}
use Rattle.layout.specs.Place.{cell_of, decode}
use Rattle.layout.specs.declared.place.Place.{Place}
use Rattle.layout.proofs.Places.{decode_range}
use Rattle.index.specs.Index.{Entry, entry_for}
use Rattle.grid.specs.Run.{Grid}
use Rattle.tables.specs.Tables.{Tables}
use Rattle.base.specs.Spot.{Spot}
use Rattle.slots.specs.Spot.{spot_of}
use Rattle.machine.specs.Marks.{stands}
use Rattle.runs.specs.Quiet.{tuple_of, positive, HasTuple, SameTuples}
use Rattle.runs.specs.Reached.{InTheirCells}
use Rattle.runs.proofs.Apart.{linked}
use Rattle.runs.proofs.Every.{Good}
use Rattle.runs.proofs.View.{view, came, places_f, tup_f, tup_at}
use Rattle.freshness.specs.History.{Event, standing, NoneUnderWay}
use Rattle.freshness.specs.Standing.{StandsAt, WhereItStands}
use Rattle.freshness.proofs.Fine.{Fine, with_ghost}
use Rattle.freshness.proofs.State.{Here, stands_here_at, aims_here}

-- a number that is read as some place
place_some : (o : Outcome (Option Place)) → came None o ≢ None → (p : Place) × (o ≡ done (Some p))
unfolding came
place_some corrupt n = absurd (n refl)
place_some blocked n = absurd (n refl)
place_some (done None) n = absurd (n refl)
place_some (done (Some p)) n = (p, refl)

-- an object with a current place has an entry that names it
current_some : (o : Option Entry) → (places_f o).cur ≢ None
    → (e : Entry) × (p : Place) × (o ≡ Some e) × (decode e.current ≡ done (Some p))
unfolding places_f
current_some None n = absurd (n refl)
current_some (Some e) n = let w = place_some (decode e.current) n in (e, w.0, refl, w.1)

module _ (es : List Event) (g : Grid) (F : Fine es g) (rest : NoneUnderWay es) where
  abbrev G : Good g
  G = with_ghost F.good F.fresh

  abbrev t : Tables
  t = g.tables

  -- where a tuple may be is where its object stands
  stands_here : (k : ℕ) (s : Spot) → Here k es s → standing k es ≡ Some s
  stands_here k s (stands_here_at e) = e
  stands_here k s (aims_here l l< h z o y) = let w = rest l l< in clash (cc)

  -- the tuple at a current place
  tuple_stands : (k : ℕ) (p : Place) → p.cell < 256 → HasTuple t k p → positive (tuple_of t p).time
      → standing k es ≡ Some (spot_of (tuple_of t p))
  unfolding view
  tuple_stands k p c< H z =
      let o = linked g G p.bucket p.cell (c<, (H.chain, H.walked, H.found)) in
      let i< : p.slot < 4 = omega (arith, H.counted, G.inv.full.most p.bucket p.cell o.0 o.1) in
      let same : tup_f t.tuples p.bucket p.slot ≡ tuple_of t p = tup_at t.tuples p.bucket p.slot i< in
      let now : T (stands (tup_f t.tuples p.bucket p.slot).time) = rw (same, z) tt in
      let w = F.fresh.now.positive p.bucket p.cell o.0 p.slot o.1 H.counted now in
      let w' : Here (tuple_of t p).oid es (spot_of (tuple_of t p)) = rw same at w in
      stands_here k _ (rw H.object at w')

  module _ (S : SameTuples t) (C : InTheirCells t) where
    stands_at : (k : ℕ) (s : Spot) → standing k es ≡ Some s → StandsAt t k s
    unfolding view
    stands_at k s e =
        let w = current_some (entry_for t.index k) (F.fresh.now.stays k (λ z. clash (cc))) in
        let p = w.1 in
        let X = S.current k w.0 p w.2 w.3 in
        let H = X.0 in
        let c< = (decode_range _ p w.3).0 in
        let y : Some (spot_of (tuple_of t p)) ≡ Some s = sym (tuple_stands k p c< H X.1) ∙ e in
        let y' : spot_of (tuple_of t p) ≡ s = cc in
        let there = (C p H.chain c< H.walked H.found H.counted).0 in
        record {
          entry = w.0;
          known = w.2;
          place = p;
          current = w.3;
          cell = sym there ∙ ap (λ (x : Spot). cell_of x.x x.y) y';
          has = H;
          stamped = X.1;
          spot = y';
        }

    at_stands : (k : ℕ) (s : Spot) → StandsAt t k s → standing k es ≡ Some s
    at_stands k s A =
        let c< = (decode_range _ A.place A.current).0 in
        tuple_stands k A.place c< A.has A.stamped ∙ ap Some A.spot

    pub where_it_stands : WhereItStands es t
    where_it_stands k s = (stands_at k s, at_stands k s)
