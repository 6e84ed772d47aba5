-- Stage 4: the last tuple of the cell's first bucket is copied over the previous tuple, which is thereby gone.
-- Two cases. The last tuple is the previous one itself: nothing is written but what was there, and its place counts from now on as
-- the second copy (`own_case`). Or it is of another object m (`other_case`): then m has it twice, at its old place and at the one
-- written over, and the new one becomes m's current or previous place, the old one the second copy, until stage 5 drops it.
-- Every counted slot is still a place of the object in it: the slot written over changes hands from the update's object to m
-- (`recolor`), and all others are as they were. Nobody is disturbed: the update has locked the cell, its object and m, so no other
-- update says anything of them; and m's two signs stay right because a tuple is copied whole, time and place with it.
-- For a query under way: the copied tuple is read no sooner at its new place than at its old one (`order`), because a chain is
-- read from its first bucket down and a bucket from its last slot down, and the old place was the last slot of the first bucket.
-- So what was ahead of the query is ahead still, and only the previous tuple of the update's own object is lost (`Erased`).
use mathlib.Core.Path.{◌≡◌, refl, sym, ap, ◌∙◌}
use mathlib.Core.Logic.{◌≢◌, ◌⊎◌, inl, inr}
use mathlib.Core.Bool.{false}
use Rattle.std.specs.Prelude.{None, Some}
use Prim.Native.Nat.{ℕ, suc, ◌-◌, ◌<◌}
use native.Mathlib.Omega.{arith}
use lib.Dec.{T, lt→ltb, le→leb, leb, ltb}
use Rattle.base.specs.Table.{upd}
use Rattle.base.proofs.Table.{upd_same, upd_other, at_or, clash}
use Rattle.machine.specs.Ends.{Ends, done, ends_must}
use Rattle.machine.specs.Store.{StoreOps, Store}
use Rattle.layout.specs.declared.place.Place.{Place}
use Rattle.slots.specs.Tuple.{Tuple}
use Rattle.stage.specs.declared.Stage.TheVariants.{CopyLast, LowerCount}
use Rattle.machine.specs.Machine.{St, Out, put, to, put_lane, with_tup, stage4}
use Rattle.cells.proofs.Chains.{in_chain}
use Rattle.tuples.proofs.Inv.{Pos, Kind, k_cur, k_prev, k_new, k_dup, sel, mk, pl, plain, Lives, Slots, Fit, Fits, top_of, moved_cur, moved_prev, Lowering, Ok, stage_holds_own, mov_held, cel_held, mv, cl, bk, filling, Ghost, draws, Inv}
use Rattle.tuples.proofs.Slots.{Lose, put_same, put_else, slot_or, same_place, retup, rename, recolor}
use Rattle.tuples.proofs.Local.{Local, freed}
use Rattle.tuples.proofs.Locks.{still, cells_step, objs_step}
use Rattle.tuples.proofs.Common.{fit_same, fits_upd, fit_put, oks, writes, lanes_step, filled_quiet, back_quiet, ticks_step, young_put, placed_put, reading_step, written_put}
use Rattle.tuples.proofs.Facts.{T_and, put_self, two_kinds, cur_dup, cur_dup_eq, prev_dup, prev_dup_eq, Tall, tall_of, first_not, at_stage, cell_locked, own_locked, mov_locked, some_tuple, other_cell, cell_his, obj_his}
use Rattle.tuples.proofs.Fresh.{live, main}
use Rattle.tuples.proofs.Ahead.{NotSooner, same_bucket, below, Goes}
use Rattle.tuples.proofs.Effect.{Effect, Erased, old, says_eq, goes_same, told_eq, main_or}

module _ {O : StoreOps} {S : Store O} {g : Ghost} {d : St} (I : Inv S g d) (l : ℕ) (l< : l < 8) (p : Place) (m : ℕ) (st : (d.lanes l).stage ≡ CopyLast p m) where
  abbrev k : ℕ
  k = (d.lanes l).oid

  abbrev f : ℕ
  f = d.first p.cell

  abbrev n : ℕ
  n = d.count f

  abbrev q : Place
  q = pl p.cell f (n - 1)

  abbrev tup' : ℕ → ℕ → Tuple
  tup' = put d.tup p.bucket p.slot (d.tup f (n - 1))

  abbrev after : St
  after = put_lane l (d.lanes l) (LowerCount p m) (with_tup d tup')

  record Has : Type 0 where
    prev : (d.ent k).prev ≡ Some p
    gk : g.gh k ≡ plain (d.ent k)
    gm : g.gh m ≡ plain (d.ent m)
    last : (d.tup f (n - 1)).oid ≡ m
    p_lives : Lives g.own d.count p
    p_oid : (d.tup p.bucket p.slot).oid ≡ k
    tall : Tall I p.cell
    n> : 0 < n
    κ : Kind
    at_q : sel κ (plain (d.ent m)) ≡ Some q
    lock_k : d.lock k ≡ suc l
    lock_m : d.lock m ≡ suc l
    m_known : T (d.known m)
    q_lives : Lives g.own d.count q

  has : Has
  unfolding Ok mv cl bk sel cel_held stage_holds_own mov_held filling draws
  has =
      let w = at_stage I l l< (CopyLast p m) st in
      let sp : sel k_prev (g.gh k) ≡ Some p = rw w.1 w.0 in
      let t = I.slots.back k_prev k p sp in
      let H = tall_of I p.bucket p.cell t.0.h t.0.owned in
      let n>₀ = some_tuple I l l< (CopyLast p m) st tt (λ z. z) f H.h H.owned in
      let u = I.slots.forth f p.cell H.h (n - 1) H.owned (omega arith) in
      let at : sel u.0 (g.gh m) ≡ Some q = rw w.3 at u.1 in
      let t' = I.slots.back u.0 m q at in
      record {
        prev = w.0;
        gk = w.1;
        gm = w.2;
        last = w.3;
        p_lives = t.0;
        p_oid = t.1;
        tall = H;
        n> = n>₀;
        κ = u.0;
        at_q = rw w.2 at at;
        lock_k = own_locked I l l< (CopyLast p m) st tt;
        lock_m = mov_locked I l l< (CopyLast p m) st tt;
        m_known = t'.2;
        q_lives = t'.0;
      }

  assemble : (gh' : ℕ → Pos) → Slots g.own d.count tup' d.known gh' → Fits tup' gh' → ((j : ℕ) → j ≢ k → j ≢ m → g.gh j ≡ gh' j)
      → Lowering k p m (d.ent k) (gh' k) (d.ent m) (gh' m) (top_of d.first d.count tup' p.cell) → Inv S (record { own = g.own; height = g.height; gh = gh' }) after
  unfolding Ok mv cl bk cel_held stage_holds_own mov_held filling draws
  assemble gh' sl ft same low =
      let h = has in
      let L : Local l g d (record { own = g.own; height = g.height; gh = gh' }) after =
      record {
        ents = λ j e. refl;
        ghs = λ j e. same j (λ z. e (rw z h.lock_k)) (λ z. e (rw z h.lock_m));
        tops = λ c l' ne e.
            let x : d.first c ≢ p.bucket = first_not I p.bucket p.cell h.p_lives.h c h.p_lives.owned (I.cells.his c l' e).3 (other_cell I l l< (CopyLast p m) st tt c l' ne e) in
            rw (upd_other d.tup p.bucket (upd (d.tup p.bucket) p.slot (d.tup f (n - 1))) (d.first c) x);
        owns = λ b l' c h₁ ne e. refl;
        lanes = λ l' ne. upd_other d.lanes l _ l' ne;
      } in
      record {
        links = I.links;
        full = I.full;
        stored = I.stored;
        slots = sl;
        fits = ft;
        free = freed L (λ j e z. z) (λ j e z. absurd (omega arith)) I.free;
        ok = oks (to (d.lanes l) (LowerCount p m)) L refl I.cells I.objs I.ok low;
        written = writes (to (d.lanes l) (LowerCount p m)) L refl I.cells I.ok I.written (λ q z. clash (cc));
        ranks = I.ranks;
        loose = I.loose;
        bounded = I.bounded;
        reading = reading_step (λ b q c h₁ _ _ o. o) (let u = I.placed.inside f p.cell h.tall.h (n - 1) h.tall.owned (omega (arith, h.n>)) in written_put g.own d.tup p.bucket p.slot (d.tup f (n - 1)) p.cell h.p_lives.h h.p_lives.owned u.1 (u.0, u.2, u.3)) I.reading;
        young = young_put d.clock p.bucket p.slot (d.tup f (n - 1)) (omega arith) (I.young.range _ _) (I.young.young _ _) (I.young.heard _ _) I.young;
        placed = (let u = I.placed.inside f p.cell h.tall.h (n - 1) h.tall.owned (omega (arith, h.n>)) in placed_put p h.p_lives.h (d.tup f (n - 1)) h.p_lives.owned u.0 u.1 u.2 u.3 u.4 I.placed);
        ticks = ticks_step (to (d.lanes l) (LowerCount p m)) l< (rw st (omega arith)) I.ticks;
        lanes = lanes_step (LowerCount p m) l< (λ e. clash (cc)) I.lanes;
        cells = cells_step (to (d.lanes l) (LowerCount p m)) l< (still l _) (cell_locked I l l< (CopyLast p m) st) (cell_his I l l< (CopyLast p m) st) I.cells;
        objs = objs_step (to (d.lanes l) (LowerCount p m)) l< (still l _) (own_locked I l l< (CopyLast p m) st) (mov_locked I l l< (CopyLast p m) st) (obj_his I l l< (CopyLast p m) st) I.objs;
        filled = filled_quiet (LowerCount p m) l< (rw st (λ z. z)) I.filled;
        back = back_quiet (LowerCount p m) l< (λ p' m' b' e. clash (cc)) I.back;
      }

  -- what freshness has to know of the step
  abbrev G₁ : (ℕ → Pos) → Ghost
  G₁ gh' = record { own = g.own; height = g.height; gh = gh' }

  abbrev Gone : (ℕ → Pos) → ℕ → Kind → Place → ℕ → Type 0
  Gone gh' j κ r h₁ = Erased (d.lanes l) κ j r ⊎ Goes g.own g.own d.tup tup' gh' d.clock j r h₁

  effect : Has → (gh' : ℕ → Pos) → ((j : ℕ) (κ : Kind) → T (main κ) → (r : Place) (h₁ : ℕ) → sel κ (g.gh j) ≡ Some r → g.own r.bucket ≡ in_chain r.cell h₁ → Gone gh' j κ r h₁)
      → Effect l g d (G₁ gh') after
  effect h gh' gs =
      record {
        queries = λ q. refl;
        steady = λ q q< b c h₁ e o. o;
        goes = gs;
        met = λ q₁ b i M. slot_or p.bucket p.slot b i
            (λ e₁ e₂. old f (n - 1) (live p.cell h.tall.h h.tall.owned (omega (arith, h.n>))) (says_eq (rw (e₁, e₂) (put_same d.tup p.bucket p.slot (d.tup f (n - 1))))))
            (λ ne. old b i M (says_eq (put_else d.tup p.bucket p.slot (d.tup f (n - 1)) b i ne)));
        lives = λ b c h₁ i o lt. inl (o, lt);
      }

  -- the previous one of the update's own object is erased
  erased : Has → (j : ℕ) (r : Place) (κ : Kind) → j ≡ k → κ ≡ k_prev → sel κ (g.gh j) ≡ Some r → Erased (d.lanes l) κ j r
  unfolding sel
  erased h j r κ e e' z =
      let w : (g.gh k).prev ≡ Some r = rw (e, e') at z in
      let w' : p ≡ r = cc (h.gk, h.prev) in
      record { prev = e'; own = sym e; m = m; stage = rw (← w') st }

  -- the last slot is not read after the erased one
  order : (h : Has) (h₁ : ℕ) → g.own f ≡ in_chain p.cell h₁ → NotSooner g.own q p h₁ h.p_lives.h
  order h h₁ o =
      let hp = h.p_lives.h in
      let w : in_chain p.cell h₁ ≡ in_chain p.cell h.tall.h = sym o ∙ h.tall.owned in
      let w' : h₁ ≡ h.tall.h = cc in
      let t = (I.links.within p.bucket p.cell hp h.p_lives.owned).1 in
      let u = h.tall.tall in
      at_or hp h₁
      (λ z. let y : p.bucket ≡ f = I.links.one p.bucket f p.cell h₁ (rw (← z) h.p_lives.owned) o in
      let lw : p.slot < n = rw y at h.p_lives.low in
      same_bucket refl y z (omega arith))
      (λ z. below refl (omega arith))

  -- its own tuple: the previous one is the last one
  own_case : Has → m ≡ k → (g' : Ghost) × Inv S g' after × Effect l g d g' after
  unfolding sel
  own_case h e =
      let F : Fit d.tup (plain (d.ent k)) = rw h.gk at (I.fits.fit k) in
      let pq : p ≡ q = two_kinds (d.ent k).cur (d.ent k).prev false q h.κ (rw e at h.at_q)
      (λ z. absurd (F.far q p z h.prev refl))
      (λ z. cc h.prev) in
      let g₁ = mk (d.ent k).cur None None (Some p) false in
      let s₁ = rename I.slots k g₁ prev_dup (λ κ. rw (h.gk, h.prev) (prev_dup_eq (d.ent k).cur None None (Some p) false false κ)) in
      let same : (b i : ℕ) → tup' b i ≡ d.tup b i = λ b i.
      let e₁ : p.bucket ≡ f = ap (λ (z : Place). z.bucket) pq in
      let e₂ : p.slot ≡ n - 1 = ap (λ (z : Place). z.slot) pq in
      rw (e₁, e₂) (put_self d.tup f (n - 1) b i) in (
        _,
        assemble (upd g.gh k g₁)
            (retup s₁ (λ b c h' i o lt. ap (λ (z : Tuple). z.oid) (same b i)))
            (record {
              fit = λ j. fit_same (λ κ r z. ap (λ (z : Tuple). z.time) (same _ _)) ((fits_upd k g₁ I.fits
                  (record { curs = F.curs; news = λ r z. clash (cc); prevs = λ r z _. clash (cc); unflagged = λ r z _. clash (cc); far = λ r r' z z'. clash (cc); pair = λ r z. clash (cc) })).fit j);
            })
            (λ j n₁ n₂. sym (upd_other g.gh k g₁ j n₁))
            (Lowering.same e (rw (upd_same g.gh k g₁, ← pq)) (F.pair p h.prev)),
        effect h (upd g.gh k g₁) (λ j κ mn r h₁ z o. at_or j k
            (λ y. main_or κ mn
            (λ x. inr (goes_same d.clock j κ mn r h₁ (let z' : (g.gh k).cur ≡ Some r = rw (y, x) at z in let z'' : (d.ent k).cur ≡ Some r = rw h.gk at z' in rw (y, x, upd_same g.gh k g₁) z'') o (told_eq d.clock (same _ _))))
            (λ x. inl (erased h j r κ y x z)))
            (λ y. inr (goes_same d.clock j κ mn r h₁ (rw (upd_other g.gh k g₁ j y) z) o (told_eq d.clock (same _ _))))),
      )

  -- another object's: its tuple is copied over the erased one, and its old slot is a second copy
  module _ (h : Has) (ne : m ≢ k) where
    abbrev gk₁ : Pos
    gk₁ = mk (d.ent k).cur None None None false

    abbrev gm₁ : Pos
    gm₁ = mk (d.ent m).cur (d.ent m).prev None (Some p) false

    lose_k : Lose (g.gh k) gk₁ k_prev p
    unfolding sel
    lose_k = record { was = rw h.gk h.prev; gone = refl; rest = λ κ. rw h.gk (go κ) }
      where
        go : (κ : Kind) → κ ≢ k_prev → sel κ gk₁ ≡ sel κ (plain (d.ent k))
        go k_cur _ = refl
        go k_prev z = absurd (z refl)
        go k_new _ = refl
        go k_dup _ = refl

    gain_m : Lose gm₁ (g.gh m) k_dup p
    unfolding sel
    gain_m = record { was = refl; gone = rw h.gm; rest = λ κ. rw h.gm (go κ) }
      where
        go : (κ : Kind) → κ ≢ k_dup → sel κ (plain (d.ent m)) ≡ sel κ gm₁
        go k_cur _ = refl
        go k_prev _ = refl
        go k_new _ = refl
        go k_dup z = absurd (z refl)

    abbrev gh₂ : ℕ → Pos
    gh₂ = upd (upd g.gh k gk₁) m gm₁

    slots₂ : Slots g.own d.count tup' d.known gh₂
    slots₂ = recolor I.slots k m gk₁ gm₁ k_prev k_dup p (d.tup f (n - 1)) (λ z. ne (sym z)) lose_k gain_m h.last h.m_known

    -- what another place of m reads
    reads : (κ : Kind) (r : Place) → sel κ (g.gh m) ≡ Some r → tup' r.bucket r.slot ≡ d.tup r.bucket r.slot
    reads κ r z = put_else d.tup p.bucket p.slot (d.tup f (n - 1)) r.bucket r.slot (λ e₁ e₂.
        let t = I.slots.back κ m r z in
        ne (sym t.1 ∙ rw (e₁, e₂) h.p_oid))

    fits₂ : (g₃ : Pos) → Fit tup' g₃ → Fits tup' (upd gh₂ m g₃)
    unfolding sel
    fits₂ g₃ fm =
        let F : Fit d.tup (plain (d.ent k)) = rw h.gk at (I.fits.fit k) in
        record {
          fit = λ j. at_or j m
              (λ e. rw (e, upd_same gh₂ m g₃) fm)
              (λ e. rw (upd_other gh₂ m g₃ j e, upd_other (upd g.gh k gk₁) m gm₁ j e) (at_or j k
              (λ e'. rw (e', upd_same g.gh k gk₁) (record {
                curs = λ r z. rw (put_else d.tup p.bucket p.slot (d.tup f (n - 1)) r.bucket r.slot (λ e₁ e₂.
                    let t = I.slots.back k_cur k r (rw h.gk z) in
                    let w = same_place I.slots r p t.0 h.p_lives e₁ e₂ in
                    F.far r p z h.prev (ap (λ (z : Place). z.cell) w))) (F.curs r z);
                news = λ r z. clash (cc);
                prevs = λ r z _. clash (cc);
                unflagged = λ r z _. clash (cc);
                far = λ r r' z z'. clash (cc);
                pair = λ r z. clash (cc);
              }))
              (λ e'. rw (upd_other g.gh k gk₁ j e') (fit_put I.slots p.bucket p.slot (d.tup f (n - 1)) j (λ z. e' (sym z ∙ h.p_oid)) (I.fits.fit j)))));
        }

    elsewhere : (g₃ : Pos) (j : ℕ) → j ≢ k → j ≢ m → g.gh j ≡ upd gh₂ m g₃ j
    elsewhere g₃ j n₁ n₂ = sym (upd_other gh₂ m g₃ j n₂ ∙ upd_other (upd g.gh k gk₁) m gm₁ j n₂ ∙ upd_other g.gh k gk₁ j n₁)

    at_k : (g₃ : Pos) → upd gh₂ m g₃ k ≡ gk₁
    at_k g₃ = upd_other gh₂ m g₃ k (λ z. ne (sym z)) ∙ upd_other (upd g.gh k gk₁) m gm₁ k (λ z. ne (sym z)) ∙ upd_same g.gh k gk₁

    F-m : Fit d.tup (plain (d.ent m))
    F-m = rw h.gm at (I.fits.fit m)

    -- a place of an object other than m: kept, unless it is the erased one
    others_go : (g₃ : Pos) (j : ℕ) (κ : Kind) → T (main κ) → (r : Place) (h₁ : ℕ) → sel κ (g.gh j) ≡ Some r → g.own r.bucket ≡ in_chain r.cell h₁ → j ≢ m → Gone (upd gh₂ m g₃) j κ r h₁
    unfolding sel
    others_go g₃ j κ mn r h₁ z o nm = at_or j k
        (λ y. main_or κ mn
        (λ x. let z' : (g.gh k).cur ≡ Some r = rw (y, x) at z in
        let z'' : (d.ent k).cur ≡ Some r = rw h.gk at z' in
        let F : Fit d.tup (plain (d.ent k)) = rw h.gk at (I.fits.fit k) in
        inr (goes_same d.clock j κ mn r h₁ (rw (y, x, at_k g₃) z'') o (told_eq d.clock (put_else d.tup p.bucket p.slot (d.tup f (n - 1)) r.bucket r.slot (λ e₁ e₂.
        let t = I.slots.back k_cur k r z' in
        let w = same_place I.slots r p t.0 h.p_lives e₁ e₂ in
        F.far r p z'' h.prev (ap (λ (z : Place). z.cell) w))))))
        (λ x. inl (erased h j r κ y x z)))
        (λ y. inr (goes_same d.clock j κ mn r h₁ (rw (← (elsewhere g₃ j y nm)) z) o (told_eq d.clock (put_else d.tup p.bucket p.slot (d.tup f (n - 1)) r.bucket r.slot (λ e₁ e₂.
        let t = I.slots.back κ j r z in y (sym t.1 ∙ rw (e₁, e₂) h.p_oid))))))

    -- the moved tuple's place
    goes_p : (g₃ : Pos) (κ : Kind) → T (main κ) → (j : ℕ) (r : Place) (h₁ : ℕ) → j ≡ m → r ≡ q → sel κ g₃ ≡ Some p → g.own r.bucket ≡ in_chain r.cell h₁ → Gone (upd gh₂ m g₃) j κ r h₁
    goes_p g₃ κ mn j r h₁ e e' z o = rw e' (inr (record {
      κ = κ;
      kind = mn;
      p' = p;
      spot = rw (e, upd_same gh₂ m g₃) z;
      h' = h.p_lives.h;
      owned = h.p_lives.owned;
      order = order h h₁ (rw e' at o);
      still = λ s le t. told_eq d.clock (put_same d.tup p.bucket p.slot (d.tup f (n - 1))) s le t;
    }))

    -- the moved object's other place
    goes_r : (g₃ : Pos) (κ : Kind) → T (main κ) → (j : ℕ) (r : Place) (h₁ : ℕ) → j ≡ m → sel κ (g.gh m) ≡ Some r → sel κ g₃ ≡ Some r → g.own r.bucket ≡ in_chain r.cell h₁ → Gone (upd gh₂ m g₃) j κ r h₁
    goes_r g₃ κ mn j r h₁ e z z' o = inr (goes_same d.clock j κ mn r h₁ (rw (e, upd_same gh₂ m g₃) z') o (told_eq d.clock (reads κ r z)))

    other_case : (g' : Ghost) × Inv S g' after × Effect l g d g' after
    unfolding sel
    other_case = two_kinds (d.ent m).cur (d.ent m).prev false q h.κ h.at_q
        (λ z. let g₃ = mk (Some p) (d.ent m).prev None (Some q) false in (
          _,
          assemble (upd gh₂ m g₃)
              (rename slots₂ m g₃ cur_dup (λ κ. rw (upd_same (upd g.gh k gk₁) m gm₁, z) (cur_dup_eq (Some p) (d.ent m).prev None (Some q) false false κ)))
              (fits₂ g₃ (record {
                curs = λ r e. let w : p ≡ r = cc in rw (← w, put_same d.tup p.bucket p.slot (d.tup f (n - 1))) (F-m.curs q z);
                news = λ r e. clash (cc);
                prevs = λ r e b. rw (reads k_prev r (rw h.gm e)) (F-m.prevs r e b);
                unflagged = λ r e b. clash (cc);
                far = λ r r' e e'. let w : p ≡ r = cc in rw (← w) (F-m.far q r' z e');
                pair = λ r e w. clash (cc);
              }))
              (elsewhere g₃)
              (Lowering.other ne (at_k g₃) (moved_cur (upd_same gh₂ m g₃))),
          effect h (upd gh₂ m g₃) (λ j κ mn r h₁ x o. at_or j m
              (λ y. main_or κ mn
              (λ v. let x' : (g.gh m).cur ≡ Some r = rw (y, v) at x in let x'' : (d.ent m).cur ≡ Some r = rw h.gm at x' in
              let u : r ≡ q = cc in goes_p g₃ κ mn j r h₁ y u (rw v) o)
              (λ v. let x' : (g.gh m).prev ≡ Some r = rw (y, v) at x in let x'' : (d.ent m).prev ≡ Some r = rw h.gm at x' in goes_r g₃ κ mn j r h₁ y (rw v x') (rw v x'') o))
              (λ y. others_go g₃ j κ mn r h₁ x o y)),
        ))
        (λ z. let g₃ = mk (d.ent m).cur (Some p) None (Some q) false in (
          _,
          assemble (upd gh₂ m g₃)
              (rename slots₂ m g₃ prev_dup (λ κ. rw (upd_same (upd g.gh k gk₁) m gm₁, z) (prev_dup_eq (d.ent m).cur (Some p) None (Some q) false false κ)))
              (fits₂ g₃ (record {
                curs = λ r e. rw (reads k_cur r (rw h.gm e)) (F-m.curs r e);
                news = λ r e. clash (cc);
                prevs = λ r e b. let w : p ≡ r = cc in rw (← w, put_same d.tup p.bucket p.slot (d.tup f (n - 1))) (F-m.prevs q z refl);
                unflagged = λ r e b. clash (cc);
                far = λ r r' e e'. let w : p ≡ r' = cc in rw (← w) (F-m.far r q e z);
                pair = λ r e. F-m.pair q z;
              }))
              (elsewhere g₃)
              (Lowering.other ne (at_k g₃) (moved_prev (upd_same gh₂ m g₃))),
          effect h (upd gh₂ m g₃) (λ j κ mn r h₁ x o. at_or j m
              (λ y. main_or κ mn
              (λ v. let x' : (g.gh m).cur ≡ Some r = rw (y, v) at x in let x'' : (d.ent m).cur ≡ Some r = rw h.gm at x' in goes_r g₃ κ mn j r h₁ y (rw v x') (rw v x'') o)
              (λ v. let x' : (g.gh m).prev ≡ Some r = rw (y, v) at x in let x'' : (d.ent m).prev ≡ Some r = rw h.gm at x' in
              let u : r ≡ q = cc in goes_p g₃ κ mn j r h₁ y u (rw v) o))
              (λ y. others_go g₃ j κ mn r h₁ x o y)),
        ))

  pub keeps4 : Ends (λ (r : Out). (g' : Ghost) × Inv S g' r.0 × Effect l g d g' r.0) ⊥ (stage4 l (d.lanes l) p m d)
  unfolding stage4
  keeps4 =
      let h = has in
      ends_must _ _ (lt→ltb _ _ h.tall.f<) (ends_must _ _ (T_and (ltb 0 n) (leb n 4) (lt→ltb _ _ h.n>) (le→leb _ _ h.tall.most))
      (done (at_or m k (own_case h) (other_case h))))
