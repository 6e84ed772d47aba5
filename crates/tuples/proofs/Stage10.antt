-- Stages 10 and 11: the new tuple is written into the slot above the count, and then the count is raised.
-- Stage 10 writes a slot that is not counted, so no place of any object changes (`keeps`). It draws a stamp, which is positive and
-- not above the clock. Stage 11 counts the slot, and the object has a new place (`inv11`): it lies in the reported cell, which by
-- stage 8 is not the cell of the current place, and no previous place is left. In between the cell is locked, so no other update
-- has changed the slot or the count.
-- For a query under way: nothing that lay ahead of it moves. It can meet the new tuple before it is counted, if it noted a higher
-- count when a tuple that has since been dropped lay there; it is then told the place that the update reports, as later too (`effect11`).
-- That slots are read downwards makes this harmless: the tuple that lay there, unless it was the erased one, is at a place still to be read.
use mathlib.Core.Path.{◌≡◌, refl, sym, ap, ◌∙◌}
use mathlib.Core.Logic.{◌≢◌, inl, inr}
use mathlib.Core.Bool.{false}
use Rattle.std.specs.Prelude.{None, Some}
use Prim.Native.Nat.{ℕ, suc, ◌≤◌, ◌<◌}
use native.Mathlib.Omega.{arith}
use lib.Dec.{T, lt→ltb}
use Rattle.base.specs.Table.{upd}
use Rattle.base.proofs.Table.{upd_same, upd_other, at_or, clash}
use Rattle.machine.specs.Ends.{Ends, done, ends_must}
use Rattle.machine.specs.Store.{StoreOps, Store}
use Rattle.machine.specs.Marks.{stands}
use Rattle.layout.specs.declared.place.Place.{Place}
use Rattle.layout.specs.Place.{cell_of}
use Rattle.slots.specs.Tuple.{Tuple}
use Rattle.stage.specs.declared.Stage.TheVariants.{WriteTuple, RaiseCount, SwitchPlace}
use Rattle.machine.specs.Machine.{St, Out, put, to, put_lane, with_count, with_tup, with_clock, new_tuple, stage10, stage11}
use Rattle.cells.proofs.Chains.{in_chain}
use Rattle.tuples.proofs.Inv.{Pos, Kind, k_cur, k_prev, k_new, k_dup, sel, mk, pl, plain, Fit, Outside, Ok, stage_holds_own, mov_held, cel_held, mv, cl, goal, bk, filling, Ghost, draws, Inv}
use Rattle.tuples.proofs.Slots.{Lose, put_same, put_else, slot_or, retup, add}
use Rattle.tuples.proofs.Local.{Local, freed}
use Rattle.tuples.proofs.Common.{fit_same, fits_upd, oks, writes, lanes_step, filled_step, back_quiet, ticks_step, timed, young_put, placed_same, most_upd, reading_step, written_put}
use Rattle.tuples.proofs.Facts.{cell_locked, tall_first, first_not, at_stage, own_locked, other_cell, lane_known}
use Rattle.tuples.proofs.Moves.{cells_keep, objs_keep, loose_apart}
use Rattle.cells.proofs.Counts.{full_count_lem, loose_count}
use Rattle.tuples.proofs.Stage8.{stands-suc, clock_below, clock<}
use Rattle.tuples.proofs.Fresh.{aim}
use Rattle.slots.specs.Spot.{spot_of}
use Rattle.tuples.proofs.Effect.{Effect, Source, written, says_eq, goes_same, main_or, puts, told_stands, met_count}

module _ {O : StoreOps} {S : Store O} {g : Ghost} {d : St} (I : Inv S g d) (l : ℕ) (l< : l < 8) where
  abbrev k : ℕ
  k = (d.lanes l).oid

  abbrev c : ℕ
  c = goal (d.lanes l)

  abbrev f : ℕ
  f = d.first c

  abbrev n : ℕ
  n = d.count f

  module _ (st : (d.lanes l).stage ≡ WriteTuple) where
    abbrev v : Tuple
    v = new_tuple (d.lanes l) d.clock

    abbrev tup' : ℕ → ℕ → Tuple
    tup' = put d.tup f n v

    -- a live slot is not the one written
    keeps : (b i : ℕ) → i < d.count b → tup' b i ≡ d.tup b i
    keeps b i lt = put_else d.tup f n v b i (λ e₁ e₂. let z : d.count b ≡ n = rw e₁ in omega arith)

    abbrev after : St
    after = put_lane l (d.lanes l) (RaiseCount (pl c f n)) (with_clock (with_tup d tup') (suc d.clock))

    inv10 : g.gh k ≡ plain (d.ent k) → Outside (d.ent k) c → f < 512 → n < 4 → Inv S g after
    unfolding Ok mv cl bk sel cel_held stage_holds_own mov_held filling draws
    inv10 gk out f< n< =
        let H = tall_first I c (I.cells.his _ l (cell_locked I l l< WriteTuple st tt)).3 f< in
        let lock_k = own_locked I l l< WriteTuple st tt in
        let L : Local l g d g after =
        record {
          ents = λ j z. refl;
          ghs = λ j z. refl;
          tops = λ c' l' ne z.
              let x : d.first c' ≢ f = first_not I f c H.h c' H.owned (I.cells.his c' l' z).3 (other_cell I l l< WriteTuple st tt c' l' ne z) in
              rw (upd_other d.tup f (upd (d.tup f) n v) (d.first c') x);
          owns = λ b l' c h ne z. refl;
          lanes = λ l' ne. upd_other d.lanes l _ l' ne;
        } in
        record {
          links = I.links;
          full = I.full;
          stored = I.stored;
          slots = retup I.slots (λ b c h i o lt. ap (λ (z : Tuple). z.oid) (keeps b i lt));
          fits = record { fit = λ j. fit_same (λ κ r z. ap (λ (z : Tuple). z.time) (keeps _ _ (I.slots.back κ j r z).0.low)) (I.fits.fit j) };
          free = freed L (λ j z z'. z') (λ j z z'. absurd (omega arith)) I.free;
          ok = oks (to (d.lanes l) (RaiseCount (pl c f n))) L refl I.cells I.objs I.ok
              (gk, out, f<, n<, refl, rw (put_same d.tup f n v), rw (put_same d.tup f n v) (stands-suc d.clock), rw (put_same d.tup f n v));
          written = writes (to (d.lanes l) (RaiseCount (pl c f n))) L refl I.cells I.ok I.written (λ q z. let y : pl c f n ≡ q = cc in rw (← y, put_same d.tup f n v) (refl, refl, refl));
          ranks = I.ranks;
          loose = I.loose;
          bounded = I.bounded;
          reading = reading_step (λ b q c h₁ _ _ o. o) (written_put g.own d.tup f n v c H.h H.owned (omega arith) (let fine = I.lanes.fine l l< (λ z. clash (cc)) in (refl, fine.1, fine.2))) I.reading;
          young = young_put (suc d.clock) f n v (omega arith) (omega (arith, clock_below I l l< (rw st (omega arith)))) (λ _. omega arith) (λ _. lane_known I l l< (λ z. clash (cc))) I.young;
          placed = placed_same keeps I.placed;
          ticks = ticks_step (to (d.lanes l) (RaiseCount (pl c f n))) l< (rw st (omega arith)) I.ticks;
          lanes = lanes_step (RaiseCount (pl c f n)) l< (λ z. clash (cc)) I.lanes;
          cells = cells_keep I l l< WriteTuple (RaiseCount (pl c f n)) st refl refl;
          objs = objs_keep I l l< WriteTuple (RaiseCount (pl c f n)) st refl refl refl;
          filled = filled_step (RaiseCount (pl c f n)) l< (λ b c' h o. at_or c c' (λ e. inl (inr (tt, e))) (λ e. inr (o, refl, rw st (λ _. e)))) I.filled;
          back = back_quiet (RaiseCount (pl c f n)) l< (λ p' m' b' z. clash (cc)) I.back;
        }

    pub keeps10 : Ends (λ (r : Out). (g' : Ghost) × Inv S g' r.0 × Effect l g d g' r.0) ⊥ (stage10 l (d.lanes l) d)
    unfolding stage10 Ok mv cl bk draws
    keeps10 =
        let w = at_stage I l l< WriteTuple st in
        ends_must _ _ (lt→ltb _ _ w.2) (ends_must _ _ (lt→ltb _ _ w.3) (ends_must _ _ (clock< I l l< (rw st (omega arith))) (done (
          g,
          inv10 w.0 w.1 w.2 w.3,
          puts l g d after g.gh f n v (λ j κ mn r z. z) (λ _. refl) (λ _. refl) (λ _ _. refl) (λ s le. told_stands s _ (stands-suc d.clock)) (λ q₁. written refl refl),
        ))))

  module _ (p : Place) (st : (d.lanes l).stage ≡ RaiseCount p) where
    abbrev g' : Pos
    g' = mk (d.ent k).cur None (Some p) None false

    abbrev gg : Ghost
    gg = record { own = g.own; height = g.height; gh = upd g.gh k g' }

    abbrev count' : ℕ → ℕ
    count' = upd d.count p.bucket (suc (d.count p.bucket))

    abbrev after₁₁ : St
    after₁₁ = put_lane l (d.lanes l) (SwitchPlace p) (with_count d count')

    module _ (gk : g.gh k ≡ plain (d.ent k)) (out : Outside (d.ent k) c) (f< : f < 512) (n< : n < 4) (pe : p ≡ pl c f n) (mine : (d.tup f n).oid ≡ k) (pos' : T (stands (d.tup f n).time)) (here : cell_of (d.tup f n).x (d.tup f n).y ≡ c) where
      bf : p.bucket ≡ f
      bf = ap (λ (z : Place). z.bucket) pe

      sn : p.slot ≡ n
      sn = ap (λ (z : Place). z.slot) pe

      pc : p.cell ≡ c
      pc = ap (λ (z : Place). z.cell) pe

      gain : Lose g' (g.gh k) k_new p
      unfolding sel
      gain = record { was = refl; gone = rw gk; rest = λ κ. rw gk (go κ) }
        where
          go : (κ : Kind) → κ ≢ k_new → sel κ (plain (d.ent k)) ≡ sel κ g'
          go k_cur _ = refl
          go k_prev _ = out.no_prev
          go k_new z = absurd (z refl)
          go k_dup _ = refl

      inv11 : c < 256 → Inv S gg after₁₁
      unfolding Ok mv cl bk sel cel_held stage_holds_own mov_held filling draws
      inv11 c< =
          let H = tall_first I c c< f< in
          let fine = I.lanes.fine l l< (λ z. clash (cc)) in
          let at_place = I.written.filled l l< p st in
          let x< : (d.tup p.bucket p.slot).x < 16384 = rw at_place.0 fine.1 in
          let y< : (d.tup p.bucket p.slot).y < 16384 = rw at_place.1 fine.2 in
          let m≤ : (d.tup p.bucket p.slot).tag ≤ 9 = rw at_place.2 fine.3 in
          let lock_k = own_locked I l l< (RaiseCount p) st tt in
          let owned : g.own p.bucket ≡ in_chain p.cell H.h = rw (bf, pc) H.owned in
          let cn : d.count p.bucket ≡ p.slot = rw (bf, sn) in
          let L : Local l g d gg after₁₁ =
          record {
            ents = λ j z. refl;
            ghs = λ j z. sym (upd_other g.gh k g' j (λ q. z (rw q lock_k)));
            tops = λ c' l' ne z.
                let x : d.first c' ≢ p.bucket = first_not I p.bucket c H.h c' (rw bf H.owned) (I.cells.his c' l' z).3 (other_cell I l l< (RaiseCount p) st tt c' l' ne z) in
                rw (upd_other d.count p.bucket (suc (d.count p.bucket)) (d.first c') x);
            owns = λ b l' c h ne z. refl;
            lanes = λ l' ne. upd_other d.lanes l _ l' ne;
          } in
          let F : Fit d.tup (plain (d.ent k)) = rw gk at (I.fits.fit k) in
          record {
            links = I.links;
            full = full_count_lem p.bucket p.cell H.h (suc (d.count p.bucket)) owned (rw pc H.tall) (rw bf n<) I.full;
            stored = I.stored;
            slots = rw cn (add I.slots k g' k_new p H.h gain owned cn (rw (bf, sn) mine) (lane_known I l l< (λ z. clash (cc))));
            fits = fits_upd k g' I.fits (record {
              curs = F.curs;
              news = λ r z. let x : p ≡ r = cc in rw (← x, bf, sn) pos';
              prevs = λ r z _. clash (cc);
              unflagged = λ r z z'. clash (cc);
              far = λ r r' z z'. clash (cc);
              pair = λ r z. clash (cc);
            });
            free = freed L (λ j z z'. z') (λ j z z'. absurd (omega arith)) I.free;
            ok = oks (to (d.lanes l) (SwitchPlace p)) L refl I.cells I.objs I.ok (upd_same g.gh k g', out, pc);
            written = writes (to (d.lanes l) (SwitchPlace p)) L refl I.cells I.ok I.written (λ q z. clash (cc));
            ranks = I.ranks;
            loose = loose_count p.bucket (suc (d.count p.bucket)) (λ b l' c' h' o. loose_apart I l l< (RaiseCount p) st tt (λ p' m' b' e. clash (cc)) b l' c' h' p.bucket H.h o (rw bf H.owned)) I.loose;
            bounded = record { firsts = I.bounded.firsts; nexts = I.bounded.nexts; counts = most_upd d.count 4 p.bucket (suc (d.count p.bucket)) I.bounded.counts (omega (arith, cn, sn, n<)) };
            reading = I.reading;
            young = I.young;
            placed = record {
              inside = λ b c' h i o lt. slot_or p.bucket p.slot b i
                  (λ e₁ e₂. let ww : in_chain p.cell H.h ≡ in_chain c' h = cc in let w' : p.cell ≡ c' = cc in rw (e₁, e₂, bf, sn) (here ∙ sym pc ∙ w', timed (d.tup f n).time pos', rw (bf, sn) at x<, rw (bf, sn) at y<, rw (bf, sn) at m≤))
                  (λ ne. I.placed.inside b c' h i o (at_or b p.bucket
                  (λ e. let lt' : i < suc (d.count p.bucket) = rw (e, upd_same d.count p.bucket (suc (d.count p.bucket))) at lt in let nn = ne e in rw e (omega arith))
                  (λ e. rw (upd_other d.count p.bucket (suc (d.count p.bucket)) b e) at lt)));
            };
            ticks = ticks_step (to (d.lanes l) (SwitchPlace p)) l< (rw st (omega arith)) I.ticks;
            lanes = lanes_step (SwitchPlace p) l< (λ z. clash (cc)) I.lanes;
            cells = cells_keep I l l< (RaiseCount p) (SwitchPlace p) st refl refl;
            objs = objs_keep I l l< (RaiseCount p) (SwitchPlace p) st refl refl refl;
            filled = filled_step (SwitchPlace p) l< (λ b c' h o. at_or b p.bucket
                (λ e. inl (inl (rw (e, upd_same d.count p.bucket (suc (d.count p.bucket))) (omega arith))))
                (λ e. at_or c c'
                (λ q. let w = I.links.within b c' h o in
                let hn : g.height c' ≡ suc H.h = rw (← q) H.tall in
                let ht : h ≢ H.h = λ z. e (I.links.one b p.bucket c' h o (rw (bf, z, ← q) H.owned)) in
                let four = I.full.below b c' h o (omega (arith, w.1)) in
                inl (inl (rw (upd_other d.count p.bucket (suc (d.count p.bucket)) b e) (omega arith))))
                (λ q. inr (o, sym (upd_other d.count p.bucket (suc (d.count p.bucket)) b e), rw st (λ _. q))))) I.filled;
            back = back_quiet (SwitchPlace p) l< (λ p' m' b' z. clash (cc)) I.back;
          }

    -- the slot that comes to life was written by stage 10, at the reported place (the clause `Written`)
    effect11 : (d.tup p.bucket p.slot).oid ≡ k → spot_of (d.tup p.bucket p.slot) ≡ aim (d.lanes l) → g.gh k ≡ plain (d.ent k) → (d.ent k).prev ≡ None → d.count p.bucket ≡ p.slot → Effect l g d gg after₁₁
    unfolding sel
    effect11 mine sp gk np cn =
        record {
          queries = λ q. refl;
          steady = λ q q< b c h e o. o;
          goes = λ j κ mn r h e o. inr (goes_same d.clock j κ mn r h (at_or j k
              (λ x. rw (x, upd_same g.gh k g') (main_or κ mn
              (λ y. let z : (g.gh k).cur ≡ Some r = rw (x, y) at e in let z' : (d.ent k).cur ≡ Some r = rw gk at z in rw y z')
              (λ y. let z : (g.gh k).prev ≡ Some r = rw (x, y) at e in let z' : (d.ent k).prev ≡ Some r = rw gk at z in clash (cc))))
              (λ x. rw (upd_other g.gh k g' j x) e)) o (λ s _ t. t));
          met = λ q b i M. slot_or p.bucket p.slot b i
              (λ e₁ e₂. rw (e₁, e₂) (written mine sp))
              (λ ne. Source.old b i (met_count (λ c h o lt. (
                o,
                at_or b p.bucket
                    (λ e. let lt' : i < suc (d.count p.bucket) = rw (e, upd_same d.count p.bucket (suc (d.count p.bucket))) at lt in let nn = ne e in rw e (omega arith))
                    (λ e. rw (upd_other d.count p.bucket (suc (d.count p.bucket)) b e) at lt),
              )) M) (says_eq refl));
          lives = λ b c h i o lt. slot_or p.bucket p.slot b i
              (λ e₁ e₂. inr (p, st, sym e₁, sym e₂))
              (λ ne. inl (
                o,
                at_or b p.bucket
                    (λ e. let lt' : i < suc (d.count p.bucket) = rw (e, upd_same d.count p.bucket (suc (d.count p.bucket))) at lt in let nn = ne e in rw e (omega arith))
                    (λ e. rw (upd_other d.count p.bucket (suc (d.count p.bucket)) b e) at lt),
              ));
        }

    -- the cell is locked, so it is in range
    goal< : c < 256
    unfolding cl cel_held
    goal< = (I.cells.his _ l (cell_locked I l l< (RaiseCount p) st tt)).3

    pub keeps11 : Ends (λ (r : Out). (g' : Ghost) × Inv S g' r.0 × Effect l g d g' r.0) ⊥ (stage11 l (d.lanes l) p d)
    unfolding stage11 Ok mv cl bk
    keeps11 =
        let sp : spot_of (d.tup p.bucket p.slot) ≡ aim (d.lanes l) = let x = I.written.filled l l< p st in rw (x.0, x.1, x.2) in
        let w = at_stage I l l< (RaiseCount p) st in
        let e : p.bucket ≡ f = ap (λ (z : Place). z.bucket) w.4 in
        let e₂ : p.slot ≡ n = ap (λ (z : Place). z.slot) w.4 in
        let lt : d.count p.bucket < 4 = rw e w.3 in
        ends_must _ _ (lt→ltb _ _ lt) (done (gg, inv11 w.0 w.1 w.2 w.3 w.4 w.5 w.6 w.7 goal<, effect11 (rw (e, e₂) w.5) sp w.0 w.1.no_prev (rw (e, e₂))))
