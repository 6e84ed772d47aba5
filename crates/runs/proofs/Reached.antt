-- Every entry of the index is the one found for its object, place numbers are read as places, and tuples lie in the
-- cells of their coordinates (specs/Reached.antt). The first two are what every grid of a run has of its index
-- (`Shape`); the last is the invariant's `Placed`, of the slots that walking a cell finds.
use mathlib.Core.Path.{◌≡◌, sym, ap, ◌∙◌}
use Rattle.std.specs.Prelude.{Some}
use Prim.Native.Nat.{ℕ}
use native.Mathlib.Omega.{arith}
use Rattle.base.specs.Table.{at}
use Rattle.layout.specs.Place.{on_grid, cell_of}
use Rattle.layout.proofs.Places.{on_grid_from}
use Rattle.slots.specs.Tuple.{Tuple}
use Rattle.index.specs.Index.{Index, entry_at, entry_for}
use Rattle.index.proofs.Map.{found_lookup}
use Rattle.grid.specs.Run.{Grid}
use Rattle.runs.specs.Quiet.{tuple_of}
use Rattle.runs.specs.Reached.{Entered, Reached, InTheirCells}
use Rattle.runs.proofs.Apart.{linked}
use Rattle.runs.proofs.Every.{Good}
use Rattle.runs.proofs.Objects.{decode_at}
use Rattle.runs.proofs.View.{view, place_f, tup_f, tup_at}

module _ (g : Grid) (G : Good g) where
  abbrev d : Index
  d = g.tables.index

  -- what the search finds is the entry
  entry_of : (i : ℕ) → Entered g.tables i → entry_for d (at d.oid i) ≡ Some (entry_at d i)
  entry_of i n = found_lookup d (at d.oid i) (G.shape.index.reach i n.0 n.1)

  pub reached : Reached g.tables
  reached = record {
    found = λ i n. G.shape.index.reach i n.0 n.1;
    entry = entry_of;
    current = λ i n. (place_f (at d.current i), decode_at _ (G.shape.coded.current i));
    previous = λ i n. (place_f (at d.previous i), decode_at _ (G.shape.coded.previous i));
  }

  pub in_their_cells : InTheirCells g.tables
  unfolding view
  in_their_cells p chain c< e i low =
      let o = linked g G p.bucket p.cell (c<, (chain, e, i)) in
      let most = G.inv.full.most p.bucket p.cell o.0 o.1 in
      let same : tup_f g.tables.tuples p.bucket p.slot ≡ tuple_of g.tables p =
      tup_at g.tables.tuples p.bucket p.slot (omega arith) in
      let w = G.inv.placed.inside p.bucket p.cell o.0 p.slot o.1 low in
      let v = tup_f g.tables.tuples p.bucket p.slot in
      let on = on_grid_from v.x v.y (omega (arith, w.2), omega (arith, w.3)) in (
        ap (λ (x : Tuple). cell_of x.x x.y) (sym same) ∙ w.0,
        ap (λ (x : Tuple). on_grid x.x x.y) (sym same) ∙ on,
        rw same at w.4,
      )
