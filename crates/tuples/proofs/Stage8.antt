-- Stages 8 and 13: a tuple is written over in its place.
-- Stage 8 within the current cell gives the current tuple the reported place and a new stamp; stage 13 gives the old tuple the
-- negative of a new stamp, which deletes it logically. In both the object in the slot stays (`oids`), so that places and owners
-- stay, and no cell's first bucket looks different to who has locked it (`tops`).
-- Signs: a drawn stamp is positive and its negative is negative, and the two places of an object lie in different cells, so
-- writing one cannot change the sign of the other.
-- For a query under way: the stamp is drawn now and the query's was drawn before, so the flagged tuple has a magnitude above
-- the query's stamp and is still told to it (`told_flag`). This is where stamping with an earlier time would lose a carrier.
-- Stage 8 to another cell only locks that cell, or is held.
use mathlib.Core.Path.{◌≡◌, refl, sym, ap, ◌∙◌}
use mathlib.Core.Logic.{◌≢◌}
use mathlib.Core.Bool.{Bool, true, false}
use Rattle.std.specs.Prelude.{Option, None, Some}
use Prim.Native.Nat.{ℕ, suc, ◌-◌, ◌<◌}
use native.Mathlib.Omega.{arith}
use lib.Dec.{T, lt→ltb, ltb, eqb, eqb→eq, eqb_refl}
use lib.IntN.{pos}
use Rattle.base.specs.Table.{upd}
use Rattle.base.proofs.Table.{upd_same, upd_other, at_or, clash}
use Rattle.base.specs.Outcome.{pick}
use Rattle.machine.specs.Ends.{Ends, done, ends_must, ends_pick}
use Rattle.machine.specs.Store.{StoreOps, Store}
use Rattle.machine.specs.Marks.{stands}
use Rattle.layout.specs.declared.place.Place.{Place}
use Rattle.layout.specs.Place.{cell_of}
use Rattle.slots.specs.Tuple.{Tuple}
use Rattle.stage.specs.declared.Stage.TheVariants.{ChooseCell, MakeRoom, DeleteOld, ReleaseObject}
use Rattle.machine.specs.Machine.{St, Out, put, to, place_in_cell, put_lane, with_cell_lock, with_tup, with_clock, flagged, stage8, stage13}
use Rattle.base.proofs.Sums.{sum_term}
use Rattle.tuples.proofs.Inv.{k_cur, k_prev, sel, mk, plain, Lives, Fit, top_of, Outside, Ok, stage_holds_own, mov_held, cel_held, mv, cl, goal, bk, filling, Ghost, draws, Inv}
use Rattle.tuples.proofs.Slots.{put_same, put_else, slot_or, same_place, retup, rename}
use Rattle.tuples.proofs.Local.{Local, freed}
use Rattle.tuples.proofs.Common.{fit_put, oks, writes, lanes_step, filled_quiet, back_quiet, ticks_step, young_put, placed_put, reading_step, written_put}
use Rattle.tuples.proofs.Facts.{ends_fork, stay, stay_eq, at_stage, own_locked}
use Rattle.tuples.proofs.Moves.{cells_keep, cells_take, objs_keep}
use Rattle.tuples.proofs.Fresh.{Met}
use Rattle.tuples.proofs.Effect.{Effect, old, written, main_or, quiet, puts, told_stands, told_flag}

module _ {O : StoreOps} {S : Store O} {g : Ghost} {d : St} (I : Inv S g d) (q : Place) (v : Tuple) (live : Lives g.own d.count q) (same : v.oid ≡ (d.tup q.bucket q.slot).oid) where
  abbrev tup' : ℕ → ℕ → Tuple
  tup' = put d.tup q.bucket q.slot v

  pub oids : (b i : ℕ) → (tup' b i).oid ≡ (d.tup b i).oid
  oids b i = slot_or q.bucket q.slot b i
      (λ e₁ e₂. rw (e₁, e₂, put_same d.tup q.bucket q.slot v) same)
      (λ n. rw (put_else d.tup q.bucket q.slot v b i n))

  pub tops : (c : ℕ) → top_of d.first d.count d.tup c ≡ top_of d.first d.count tup' c
  tops c =
      let w = put_else d.tup q.bucket q.slot v (d.first c) (d.count (d.first c)) (λ e₁ e₂. let lt = live.low in let z : d.count (d.first c) ≡ d.count q.bucket = rw e₁ in omega arith) in
      rw (oids (d.first c) (d.count (d.first c) - 1), w)

-- the clock has room for the draw of a lane that is to draw
pub clock_below : {O : StoreOps} {S : Store O} {g : Ghost} {d : St} → Inv S g d → (l : ℕ) → l < 8 → 0 < draws (d.lanes l).stage → d.clock < 2147483647
clock_below {d} I l l< h = omega (arith, I.ticks.left, sum_term 8 (λ l. draws (d.lanes l).stage) l l<)

pub clock< : {O : StoreOps} {S : Store O} {g : Ghost} {d : St} → Inv S g d → (l : ℕ) → l < 8 → 0 < draws (d.lanes l).stage → T (ltb d.clock 2147483647)
clock< {d} I l l< h = lt→ltb d.clock 2147483647 (clock_below I l l< h)

in_cell_yes : (o : Option Place) (c : ℕ) (p : Place) → place_in_cell o c ≡ Some p → (o ≡ Some p) × (p.cell ≡ c)
unfolding place_in_cell pick
in_cell_yes None c p e = clash (cc)
in_cell_yes (Some r) c p e = go (eqb r.cell c) refl e
  where
    go : (b : Bool) → eqb r.cell c ≡ b → pick b (Some r) None ≡ Some p → (Some r ≡ Some p) × (p.cell ≡ c)
    go true t z = let w : r ≡ p = cc in (z, rw (← w) (eqb→eq r.cell c (rw t tt)))
    go false t z = clash (cc)

in_cell_no : (o : Option Place) (c : ℕ) → place_in_cell o c ≡ None → (q : Place) → o ≡ Some q → q.cell ≢ c
unfolding place_in_cell pick
in_cell_no None c e q z = clash (cc)
in_cell_no (Some r) c e q z = go (eqb r.cell c) refl e
  where
    go : (b : Bool) → eqb r.cell c ≡ b → pick b (Some r) None ≡ None → q.cell ≢ c
    go true t z' = clash (cc)
    go false t z' = λ w. let x : r ≡ q = cc in let y : T (eqb r.cell c) = rw (x, w) (eqb_refl c) in rw t at y

pub stands-suc : (n : ℕ) → T (stands (pos (suc n)))
stands-suc n = lt→ltb 0 (suc n) (omega arith)

pub cell< : (x y : ℕ) → x < 16384 → y < 16384 → cell_of x y < 256
unfolding cell_of
cell< x y h h' = omega arith

module _ {O : StoreOps} {S : Store O} {g : Ghost} {d : St} (I : Inv S g d) (l : ℕ) (l< : l < 8) where
  abbrev k : ℕ
  k = (d.lanes l).oid

  module _ (q : Place) (st : (d.lanes l).stage ≡ DeleteOld q) where
    pub keeps13 : Ends (λ (r : Out). (g' : Ghost) × Inv S g' r.0 × Effect l g d g' r.0) ⊥ (stage13 l (d.lanes l) q d)
    unfolding stage13 Ok mv cl bk sel cel_held stage_holds_own mov_held filling draws
    keeps13 =
        let w = at_stage I l l< (DeleteOld q) st in
        let g₁ = plain (d.ent k) in
        let v = flagged (d.tup q.bucket q.slot) d.clock in
        let t = I.slots.back k_prev k q (rw w.1 w.0) in
        let gg : Ghost = record { own = g.own; height = g.height; gh = upd g.gh k g₁ } in
        let lock_k = own_locked I l l< (DeleteOld q) st tt in
        let d₁ = put_lane l (d.lanes l) ReleaseObject (with_clock (with_tup d (put d.tup q.bucket q.slot v)) (suc d.clock)) in
        let L : Local l g d gg d₁ =
        record {
          ents = λ j z. refl;
          ghs = λ j z. sym (upd_other g.gh k g₁ j (λ q. z (rw q lock_k)));
          tops = λ c l' ne z. tops I q v t.0 refl c;
          owns = λ b l' c h ne z. refl;
          lanes = λ l' ne. upd_other d.lanes l _ l' ne;
        } in
        let F : Fit d.tup (mk (d.ent k).cur (d.ent k).prev None None true) = rw w.1 at (I.fits.fit k) in
        let inv : Inv S gg d₁ = record {
          links = I.links;
          full = I.full;
          stored = I.stored;
          slots = retup (rename I.slots k g₁ stay (λ κ. rw w.1 (stay_eq (d.ent k).cur (d.ent k).prev None None false true κ))) (λ b c h i o lt. oids I q v t.0 refl b i);
          fits = record {
            fit = λ j. at_or j k
                (λ e. rw (e, upd_same g.gh k g₁) (record {
                  curs = λ r z. rw (put_else d.tup q.bucket q.slot v r.bucket r.slot (λ e₁ e₂.
                      let t' = I.slots.back k_cur k r (rw w.1 z) in
                      F.far r q z w.0 (ap (λ (z : Place). z.cell) (same_place I.slots r q t'.0 t.0 e₁ e₂)))) (F.curs r z);
                  news = λ r z. clash (cc);
                  prevs = λ r z _. let x : q ≡ r = cc w.0 in rw (← x, put_same d.tup q.bucket q.slot v) tt;
                  unflagged = λ r z z'. clash (cc);
                  far = F.far;
                  pair = F.pair;
                }))
                (λ e. rw (upd_other g.gh k g₁ j e) (fit_put I.slots q.bucket q.slot v j (λ z. e (sym z ∙ t.1)) (I.fits.fit j)));
          };
          free = freed L (λ j z z'. z') (λ j z z'. absurd (omega arith)) I.free;
          ok = oks (to (d.lanes l) ReleaseObject) L refl I.cells I.objs I.ok (upd_same g.gh k g₁);
          written = writes (to (d.lanes l) ReleaseObject) L refl I.cells I.ok I.written (λ q z. clash (cc));
          ranks = I.ranks;
          loose = I.loose;
          bounded = I.bounded;
          reading = reading_step (λ b q c h₁ _ _ o. o) (written_put g.own d.tup q.bucket q.slot v q.cell t.0.h t.0.owned (omega arith) (let u = I.placed.inside q.bucket q.cell t.0.h q.slot t.0.owned t.0.low in (u.0, u.2, u.3))) I.reading;
          young = young_put (suc d.clock) q.bucket q.slot v (omega arith) (omega (arith, clock_below I l l< (rw st (omega arith)))) (λ _. omega arith) (λ _. rw t.1 t.2) I.young;
          placed = (let u = I.placed.inside q.bucket q.cell t.0.h q.slot t.0.owned t.0.low in placed_put q t.0.h v t.0.owned u.0 (omega arith) u.2 u.3 u.4 I.placed);
          ticks = ticks_step (to (d.lanes l) ReleaseObject) l< (rw st (omega arith)) I.ticks;
          lanes = lanes_step ReleaseObject l< (λ z. clash (cc)) I.lanes;
          cells = cells_keep I l l< (DeleteOld q) ReleaseObject st refl refl;
          objs = objs_keep I l l< (DeleteOld q) ReleaseObject st refl refl refl;
          filled = filled_quiet ReleaseObject l< (rw st (λ z. z)) I.filled;
          back = back_quiet ReleaseObject l< (λ p' m' b' z. clash (cc)) I.back;
        } in
        let sp : T (stands (d.tup q.bucket q.slot).time) = F.unflagged q w.0 refl in
        ends_must _ _ (clock< I l l< (rw st (omega arith))) (done (
          gg,
          inv,
          puts l g d d₁ (upd g.gh k g₁) q.bucket q.slot v
              (λ j κ mn r. at_or j k
              (λ e. rw (e, upd_same g.gh k g₁, w.1) (main_or κ mn (λ x z. rw x (rw x at z)) (λ x z. rw x (rw x at z))))
              (λ e. rw (upd_other g.gh k g₁ j e) (λ z. z)))
              (λ _. refl) (λ _. refl) (λ _ _. refl)
              (λ s le. told_flag s d.clock le)
              (λ q₁. old q.bucket q.slot (Met.live q.cell t.0.h t.0.owned t.0.low) (record { oid = refl; spot = refl; told = λ s _. told_stands s _ sp })),
        ))

  module _ (st : (d.lanes l).stage ≡ ChooseCell) where
    abbrev c : ℕ
    c = goal (d.lanes l)

    -- the new place is in the current cell
    over : (p : Place) → (d.ent k).cur ≡ Some p → g.gh k ≡ plain (d.ent k) → (d.ent k).prev ≡ None → p.cell ≡ c
        → Inv S g (put_lane l (d.lanes l) ReleaseObject (with_clock (with_tup d (put d.tup p.bucket p.slot (record { oid = (d.tup p.bucket p.slot).oid; x = (d.lanes l).x; y = (d.lanes l).y; tag = (d.lanes l).tag; time = pos (suc d.clock) }))) (suc d.clock)))
    unfolding Ok mv cl bk sel cel_held stage_holds_own mov_held filling draws
    over p pe gk np pc =
        let v : Tuple = record { oid = (d.tup p.bucket p.slot).oid; x = (d.lanes l).x; y = (d.lanes l).y; tag = (d.lanes l).tag; time = pos (suc d.clock) } in
        let t = I.slots.back k_cur k p (rw gk pe) in
        let fine = I.lanes.fine l l< (λ z. clash (cc)) in
        let lock_k = own_locked I l l< ChooseCell st tt in
        let L : Local l g d g (put_lane l (d.lanes l) ReleaseObject (with_clock (with_tup d (put d.tup p.bucket p.slot v)) (suc d.clock))) =
        record {
          ents = λ j z. refl;
          ghs = λ j z. refl;
          tops = λ c l' ne z. tops I p v t.0 refl c;
          owns = λ b l' c h ne z. refl;
          lanes = λ l' ne. upd_other d.lanes l _ l' ne;
        } in
        record {
          links = I.links;
          full = I.full;
          stored = I.stored;
          slots = retup I.slots (λ b c h i o lt. oids I p v t.0 refl b i);
          fits = record {
            fit = λ j. at_or j k
                (λ e. rw (e, gk) (record {
                  curs = λ r z. let x : p ≡ r = cc in rw (← x, put_same d.tup p.bucket p.slot v) (stands-suc d.clock);
                  news = λ r z. clash (cc);
                  prevs = λ r z _. clash (cc);
                  unflagged = λ r z z'. clash (cc);
                  far = λ r r' z z'. clash (cc);
                  pair = λ r z. clash (cc);
                }))
                (λ e. fit_put I.slots p.bucket p.slot v j (λ z. e (sym z ∙ t.1)) (I.fits.fit j));
          };
          free = freed L (λ j z z'. z') (λ j z z'. absurd (omega arith)) I.free;
          ok = oks (to (d.lanes l) ReleaseObject) L refl I.cells I.objs I.ok gk;
          written = writes (to (d.lanes l) ReleaseObject) L refl I.cells I.ok I.written (λ q z. clash (cc));
          ranks = I.ranks;
          loose = I.loose;
          bounded = I.bounded;
          reading = reading_step (λ b q c h₁ _ _ o. o) (written_put g.own d.tup p.bucket p.slot v p.cell t.0.h t.0.owned (omega arith) (sym pc, fine.1, fine.2)) I.reading;
          young = young_put (suc d.clock) p.bucket p.slot v (omega arith) (omega (arith, clock_below I l l< (rw st (omega arith)))) (λ _. omega arith) (λ _. rw t.1 t.2) I.young;
          placed = placed_put p t.0.h v t.0.owned (sym pc) (omega arith) fine.1 fine.2 fine.3 I.placed;
          ticks = ticks_step (to (d.lanes l) ReleaseObject) l< (rw st (omega arith)) I.ticks;
          lanes = lanes_step ReleaseObject l< (λ z. clash (cc)) I.lanes;
          cells = cells_keep I l l< ChooseCell ReleaseObject st refl refl;
          objs = objs_keep I l l< ChooseCell ReleaseObject st refl refl refl;
          filled = filled_quiet ReleaseObject l< (rw st (λ z. z)) I.filled;
          back = back_quiet ReleaseObject l< (λ p' m' b' z. clash (cc)) I.back;
        }

    far : c < 256 → d.cell_lock c ≡ 0 → g.gh k ≡ plain (d.ent k) → Outside (d.ent k) c → Inv S g (put_lane l (d.lanes l) MakeRoom (with_cell_lock d (upd d.cell_lock c (suc l))))
    unfolding Ok mv cl bk cel_held stage_holds_own mov_held filling draws
    far c< z₀ gk out =
        let lock_k = own_locked I l l< ChooseCell st tt in
        let L : Local l g d g (put_lane l (d.lanes l) MakeRoom (with_cell_lock d (upd d.cell_lock c (suc l)))) =
        record { ents = λ j z. refl; ghs = λ j z. refl; tops = λ c l' ne z. refl; owns = λ b l' c h ne z. refl; lanes = λ l' ne. upd_other d.lanes l _ l' ne } in
        record {
          links = I.links;
          full = I.full;
          stored = I.stored;
          slots = I.slots;
          fits = I.fits;
          free = freed L (λ j z z'. z') (λ j z z'. absurd (omega arith)) I.free;
          ok = oks (to (d.lanes l) MakeRoom) L refl I.cells I.objs I.ok (gk, out);
          written = writes (to (d.lanes l) MakeRoom) L refl I.cells I.ok I.written (λ q z. clash (cc));
          ranks = I.ranks;
          loose = I.loose;
          bounded = I.bounded;
          reading = I.reading;
          young = I.young;
          placed = I.placed;
          ticks = ticks_step (to (d.lanes l) MakeRoom) l< (rw st (omega arith)) I.ticks;
          lanes = lanes_step MakeRoom l< (λ z. clash (cc)) I.lanes;
          cells = cells_take I l l< ChooseCell MakeRoom st c (λ z. z) tt refl z₀ c<;
          objs = objs_keep I l l< ChooseCell MakeRoom st refl refl refl;
          filled = filled_quiet MakeRoom l< (rw st (λ z. z)) I.filled;
          back = back_quiet MakeRoom l< (λ p' m' b' z. clash (cc)) I.back;
        }

    abbrev over_v : Place → Tuple
    over_v p = record { oid = (d.tup p.bucket p.slot).oid; x = (d.lanes l).x; y = (d.lanes l).y; tag = (d.lanes l).tag; time = pos (suc d.clock) }

    own_cur : g.gh k ≡ plain (d.ent k) → (p : Place) → (d.ent k).cur ≡ Some p → sel k_cur (g.gh k) ≡ Some p
    unfolding sel
    own_cur gk p e = rw gk e

    pub keeps8 : Ends (λ (r : Out). (g' : Ghost) × Inv S g' r.0 × Effect l g d g' r.0) ⊥ (stage8 l (d.lanes l) d)
    unfolding stage8 Ok mv cl bk draws
    keeps8 =
        let w = at_stage I l l< ChooseCell st in
        let u = I.lanes.fine l l< (λ z. clash (cc)) in
        ends_must _ _ u.0 (ends_fork _ _ _
        (λ p e. ends_must _ _ (clock< I l l< (rw st (omega arith))) (done (
          g,
          over p (in_cell_yes _ _ p e).0 w.0 w.1 (in_cell_yes _ _ p e).1,
          puts l g d _ g.gh p.bucket p.slot (over_v p) (λ j κ mn r z. z) (λ _. refl) (λ _. refl) (λ _ _. refl) (λ s le. told_stands s _ (stands-suc d.clock))
              (λ q₁. written (I.slots.back k_cur k p (own_cur w.0 p (in_cell_yes _ _ p e).0)).1 refl),
        )))
        (λ e. ends_must _ _ (lt→ltb _ _ (cell< _ _ u.1 u.2)) (ends_pick _ _ _
        (λ t. done (g, far (cell< _ _ u.1 u.2) (eqb→eq _ _ t) w.0 (record { no_prev = w.1; out = in_cell_no _ _ e }), quiet l g d _ g.gh (λ j κ mn r z. z) (λ _. refl) (λ _. refl) (λ _ _. refl)))
        (λ t. done (g, I, quiet l g d d g.gh (λ j κ mn r z. z) (λ _. refl) (λ _. refl) (λ _ _. refl))))))
