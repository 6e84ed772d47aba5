-- Every bucket is in one place, and what stage 9 takes was free (specs/Apart.antt). The owner of a bucket says where
-- it is: in the pool, in a chain at a height, or unlinked by a lane. The tables show just that: the pool by its list,
-- the chain by walking, the lane by its stage 6. The owner is a function, so no bucket is in two places. A bucket that
-- stage 9 takes comes from the pool, so its owner is the pool; the owner of a bucket that an update has in hand, or in
-- which a query stands, is a chain or a lane.
use mathlib.Core.Path.{◌≡◌, refl, sym, ap, ◌∙◌}
use mathlib.Core.Logic.{◌≢◌, ◌⊎◌, inl, inr, ⊎_elim}
use mathlib.Core.Bool.{true}
use Rattle.std.specs.Prelude.{Some}
use mathlib.Core.List.{List, []}
use Prim.Native.Nat.{ℕ, zero, suc, ◌<◌, ◌≤◌}
use native.Mathlib.Omega.{arith}
use lib.Dec.{eqb, leb}
use lib.ListN.{set}
use lib.Seq.{get_or-set_same}
use borrow.Author.Tests.{ne_eqb, lt-ltb, le-leb}
use Rattle.base.specs.Lists.{In, in-none, in_one}
use Rattle.base.specs.Outcome.{Outcome, done, need, pick}
use Rattle.base.proofs.Outcome.{need_true, then_true}
use Rattle.base.specs.Step.{step_of, lift}
use Rattle.base.specs.Table.{at}
use Rattle.base.proofs.Table.{at_or, clash}
use Rattle.cells.specs.Chain.{Chains, chains_of, push, make_room}
use Rattle.cells.proofs.Chains.{Owner, in_pool, in_chain, unlinked}
use Rattle.cells.proofs.Walked.{chain_walked}
use Rattle.layout.specs.Place.{on_grid, cell_of}
use Rattle.layout.specs.declared.place.Place.{Place}
use Rattle.layout.proofs.Places.{on_grid_from, cell_below}
use Rattle.pool.specs.Pool.{Took, take_top, Has}
use Rattle.pool.proofs.Laws.{take_had, take_some}
use Rattle.readers.specs.declared.Standing.{Standing}
use Rattle.query.specs.declared.Scan.TheVariants.{Read}
use Rattle.stage.specs.Turn.{is_idle}
use Rattle.stage.specs.declared.Stage.{Stage}
use Rattle.stage.specs.declared.Stage.TheVariants.{Idle, TakeObject, LockCell, LookLast, CopyLast, LowerCount, ReturnBucket, ErasePlace, ChooseCell, MakeRoom, WriteTuple, RaiseCount, SwitchPlace, DeleteOld, ReleaseObject}
use Rattle.stage.specs.declared.Updater.{Updater}
use Rattle.tables.specs.Tables.{Tables, with_first, with_count, with_next, with_pool}
use Rattle.turns.specs.Stages.{stage_on}
use Rattle.write.specs.Write.{stage9}
use Rattle.calls.specs.Call.{after, unless, stepped}
use Rattle.updates.specs.Update.{put_stage, update_step}
use Rattle.grid.specs.Run.{Grid, grid_of, Answer, answer_of, step_update, call}
use Rattle.tuples.proofs.Inv.{Ok, bk, mv, cl, goal, Kind, k_prev, k_new, sel}
use Rattle.tuples.proofs.Facts.{at_stage, tall_first}
use Rattle.runs.specs.Apart.{InChain, Returns, InUse, Apart, in_hand, Free, first_of, fill_of, Room, HandedOutFree}
use Rattle.runs.specs.Quiet.{updater}
use Rattle.runs.specs.Sweeps.{query}
use Rattle.runs.proofs.Bucket.{store_has, has_store, store_sound}
use Rattle.runs.proofs.Every.{Good, sized}
use Rattle.runs.proofs.Quiet.{in_walk, never_dry}
use Rattle.runs.proofs.Runs.{call_good}
use Rattle.runs.proofs.View.{view, scanner_f}

-- ---- owners, as the tables show them

module _ (g : Grid) (G : Good g) where
  abbrev own : ℕ → Owner
  own = G.ghost.own

  pub pooled : (b : ℕ) → Has g.tables.pool b → own b ≡ in_pool
  unfolding view
  pooled b h = G.inv.stored.held.has b (has_store g.tables.pool b h)

  pub linked : (b c : ℕ) → InChain g.tables c b → (h : ℕ) × (own b ≡ in_chain c h)
  unfolding view
  linked b c i =
      let w = chain_walked g.tables.first g.tables.next c G.inv.links i.0 in
      let e : Some i.1.0 ≡ Some w.0 = sym i.1.1 ∙ w.1.chain in
      let z : i.1.0 ≡ w.0 = cc in
      let t = w.1.theirs b (rw z at i.1.2) in
      (t.0, t.2)

  pub loose : (b l : ℕ) → Returns g l b → (c : ℕ) × (h : ℕ) × (own b ≡ unlinked l c h)
  unfolding view Ok bk
  loose b l r =
      let o = (at_stage G.inv l r.0 (ReturnBucket r.1.0 r.1.1 b) r.1.2).1 in
      (r.1.0.cell, o.0, o.1)

  where_is : (b : ℕ) → b < 512 → (o : Owner) → own b ≡ o → Has g.tables.pool b ⊎ InUse g b
  unfolding view
  where_is b b< in_pool e = inl (store_has g.tables.pool b (G.inv.stored.held.all b b< e))
  where_is b b< (in_chain c h) e = inr (inl (c, ((G.inv.links.within b c h e).0, in_walk g G b c h e)))
  where_is b b< (unlinked l c h) e = let k = G.inv.back.lane b l c h e in inr (inr (l, (k.1, k.2)))

  pub apart : Apart g
  apart = record {
    somewhere = λ b b<. where_is b b< (own b) refl;
    pool_chain = λ b c h i. let e = pooled b h in let o = linked b c i in let z = o.1 in clash (cc);
    pool_lane = λ b l h r. let e = pooled b h in let o = loose b l r in let z = o.2 in clash (cc);
    chain_lane = λ b c l i r. let e = linked b c i in let o = loose b l r in clash (cc (e.1, o.2));
    one_chain = λ b c c' i i'. let e = linked b c i in let y = e.1 in let o = linked b c' i' in let z = o.1 in cc;
    one_lane = λ b l l' r r'. let e = loose b l r in let y = e.2 in let o = loose b l' r' in let z = o.2 in cc;
  }

  -- ---- what is in the pool is free

  -- an update under way reports a point of the grid, in one of the 256 cells
  pub reported : (l : ℕ) → l < 8 → (updater g l).stage ≢ Idle
      → (on_grid (updater g l).x (updater g l).y ≡ true) × (goal (updater g l) < 256)
  unfolding view
  reported l l< n =
      let w = G.inv.lanes.fine l l< n in
      let on = on_grid_from (updater g l).x (updater g l).y (omega (arith, w.1), omega (arith, w.2)) in
      (on, cell_below (updater g l).x (updater g l).y on)

  -- the bucket of a tuple is in a chain
  tuple_out : (κ : Kind) (k : ℕ) (p : Place) → sel κ (G.ghost.gh k) ≡ Some p → own p.bucket ≢ in_pool
  tuple_out κ k p e z = let L = (G.inv.slots.back κ k p e).0 in let o = L.owned in clash (cc)

  -- a bucket in hand is not in the pool
  in_hand_lem : (l : ℕ) → l < 8 → (s : Stage) → (updater g l).stage ≡ s → (b : ℕ) → In b (in_hand s) → own b ≢ in_pool
  unfolding view Ok bk mv cl in_hand sel
  in_hand_lem l l< Idle e b i z = absurd (in-none i)
  in_hand_lem l l< TakeObject e b i z = absurd (in-none i)
  in_hand_lem l l< (LockCell p) e b i z =
      let w = at_stage G.inv l l< (LockCell p) e in
      tuple_out k_prev (updater g l).oid p (rw w.1 w.0) (rw (← in_one i) z)
  in_hand_lem l l< (LookLast p) e b i z =
      let w = at_stage G.inv l l< (LookLast p) e in
      tuple_out k_prev (updater g l).oid p (rw w.1 w.0) (rw (← in_one i) z)
  in_hand_lem l l< (CopyLast p m) e b i z =
      let w = at_stage G.inv l l< (CopyLast p m) e in
      tuple_out k_prev (updater g l).oid p (rw w.1 w.0) (rw (← in_one i) z)
  in_hand_lem l l< (LowerCount p m) e b i z = absurd (in-none i)
  in_hand_lem l l< (ReturnBucket p m r) e b i z =
      let w = (at_stage G.inv l l< (ReturnBucket p m r) e).1 in
      let o = w.1 in
      let q : b ≡ r = in_one i in
      clash (cc)
  in_hand_lem l l< (ErasePlace p m) e b i z = absurd (in-none i)
  in_hand_lem l l< ChooseCell e b i z = absurd (in-none i)
  in_hand_lem l l< MakeRoom e b i z = absurd (in-none i)
  in_hand_lem l l< WriteTuple e b i z = absurd (in-none i)
  in_hand_lem l l< (RaiseCount p) e b i z =
      let w = at_stage G.inv l l< (RaiseCount p) e in
      let c< : goal (updater g l) < 256 = (reported l l< (λ q. clash (cc))).1 in
      let H = tall_first G.inv (goal (updater g l)) c< w.2 in
      let o = H.owned in
      let q : p.bucket ≡ at g.tables.first (goal (updater g l)) = ap (λ (x : Place). x.bucket) w.4 in
      let y : b ≡ p.bucket = in_one i in
      clash (cc)
  in_hand_lem l l< (SwitchPlace p) e b i z =
      let w = at_stage G.inv l l< (SwitchPlace p) e in
      tuple_out k_new (updater g l).oid p (rw w.0) (rw (← in_one i) z)
  in_hand_lem l l< (DeleteOld p) e b i z =
      let w = at_stage G.inv l l< (DeleteOld p) e in
      tuple_out k_prev (updater g l).oid p (rw w.1 w.0) (rw (← in_one i) z)
  in_hand_lem l l< ReleaseObject e b i z = absurd (in-none i)

  -- the bucket in which a query stands is not in the pool
  stood_in : (q c : ℕ) (w : Standing) → q < 4 → (query g q).stage ≡ Read c w → own w.bucket ≢ in_pool
  unfolding view scanner_f
  stood_in q c w q< e z =
      let s = G.inv.reading.standing q w.bucket q< (rw e) in
      ⊎_elim
      (λ (o : own w.bucket ≡ in_chain _ s.h). clash (cc))
      (λ (o : (l : ℕ) × (own w.bucket ≡ unlinked l _ s.h)). let y = o.1 in clash (cc))
      s.owned

  pub free : (b : ℕ) → Has g.tables.pool b → Free g b
  unfolding view
  free b h =
      let o = pooled b h in
      record {
        below = G.inv.stored.below b (has_store g.tables.pool b h);
        pooled = h;
        unchained = λ c i. apart.pool_chain b c h i;
        unheld = λ l l< i. in_hand_lem l l< (updater g l).stage refl b i o;
        unread = λ q c w q< e z. stood_in q c w q< e (rw z o);
      }

-- ---- stage 9 on the chains

-- a bucket from the pool, put first
abbrev with_first_of : Chains → ℕ → ℕ → List ℕ → Chains
with_first_of d c b pool = chains_of (set d.first c b) (set d.count b 0) (set d.next b (at d.first c)) pool

pushed : (d : Chains) (c : ℕ) (w : Took) → c < 256 → take_top d.pool ≡ done w
    → push d c ≡ done (with_first_of d c w.bucket w.pool)
unfolding push
pushed d c w c< e = need_true _ _ (lt-ltb c 256 c<) ∙ then_true (take_top d.pool) _ e

-- the three ways of making room in cell c, whose first bucket is f
module _ (d : Chains) (c f : ℕ) (is : at d.first c ≡ f) (c< : c < 256) where
  -- what is left of the tests where the cell and its first bucket are in range
  abbrev rest : Outcome Chains
  rest =
      pick (eqb f 512) (push d c)
      (need (leb (at d.count f) 4) (pick (eqb (at d.count f) 4) (push d c) (done d)))

  in_range : f ≤ 512 → make_room d c ≡ rest
  unfolding make_room
  in_range h = need_true _ _ (lt-ltb c 256 c<) ∙ need_true _ _ (le-leb (at d.first c) 512 (omega arith)) ∙ rw is

  room_none : f ≡ 512 → make_room d c ≡ push d c
  unfolding pick
  room_none e = in_range (omega arith) ∙ rw e

  room_full : f < 512 → at d.count f ≡ 4 → make_room d c ≡ push d c
  unfolding pick
  room_full f< e =
      in_range (omega arith)
      ∙ rw (ne_eqb f 512 (λ z. omega arith)) (need_true _ _ (le-leb (at d.count f) 4 (omega arith)) ∙ rw e)

  room_left : f < 512 → at d.count f < 4 → make_room d c ≡ done d
  unfolding pick
  room_left f< n =
      in_range (omega arith)
      ∙ rw (ne_eqb f 512 (λ z. omega arith))
      (need_true _ _ (le-leb (at d.count f) 4 (omega arith)) ∙ rw (ne_eqb (at d.count f) 4 (λ z. omega arith)))

-- ---- stage 9 as a call

-- all tables, with those of the chains replaced
abbrev with_chains : Tables → Chains → Tables
with_chains t d = with_pool (with_next (with_count (with_first t d.first) d.count) d.next) d.pool

-- its own tables
abbrev chains_in : Tables → Chains
chains_in t = chains_of t.first t.count t.next t.pool

module _ (g : Grid) (G : Good g) (l : ℕ) (l< : l < 8) (e : (updater g l).stage ≡ MakeRoom) where
  abbrev t : Tables
  t = g.tables

  abbrev u : Updater
  u = updater g l

  abbrev c : ℕ
  c = cell_of u.x u.y

  -- where room is made, the step goes on and leaves the chains so
  abbrev left_by : Chains → Answer × Grid
  left_by d = (answer_of 0 0 [], grid_of (with_chains t d) (put_stage g.updaters l WriteTuple) g.queries)

  stage_nine : (d : Chains) → on_grid u.x u.y ≡ true → make_room (chains_in t) c ≡ done d
      → stage_on t (suc l) u MakeRoom ≡ done (step_of 0 WriteTuple (with_chains t d))
  unfolding stage_on stage9 lift
  stage_nine d on r = rw (need_true (on_grid u.x u.y) _ on, then_true (make_room (chains_in t) c) _ r)

  call_nine : (d : Chains) → on_grid u.x u.y ≡ true → make_room (chains_in t) c ≡ done d
      → call (step_update l) g ≡ left_by d
  unfolding call update_step unless after stepped is_idle
  call_nine d on r = rw (sized t G.shape.lengths, lt-ltb l 8 l<, e, stage_nine d on r)

  here_c : c < 256
  here_c = (reported g G l l< (λ q. clash (cc))).1

  on_c : on_grid u.x u.y ≡ true
  on_c = (reported g G l l< (λ q. clash (cc))).0

  -- the new first bucket is in the chain of its cell, and so not in the pool
  abbrev g' : Grid
  g' = (call (step_update l) g).1

  good' : Good g'
  good' = (call_good (step_update l) g G).1

  now_first : (b : ℕ) → b < 512 → at g'.tables.first c ≡ b → InChain g'.tables c b
  unfolding view
  now_first b b< q =
      let H = tall_first good'.inv c here_c (omega arith) in
      (here_c, rw q at (in_walk g' good' (at g'.tables.first c) c H.h H.owned))

  -- a bucket is taken
  by_push : (first_of g c ≡ 512) ⊎ (fill_of g c ≡ 4) → make_room (chains_in t) c ≡ push (chains_in t) c
      → ((call (step_update l) g).0.number ≡ 0) × Room g g' c
  unfolding view
  by_push why r =
      let w = take_some t.pool (store_sound t.pool G.inv.stored.fine) (never_dry g G l l< e) in
      let b = w.0.bucket in
      let q = call_nine _ on_c (r ∙ pushed (chains_in t) c w.0 here_c w.1) in
      let within = here_c in
      let f : first_of g' c ≡ b =
      ap (λ (x : Answer × Grid). first_of x.1 c) q
      ∙ get_or-set_same t.first c b 0 (omega (arith, G.shape.lengths.first)) in
      let F = free g G b (take_had t.pool w.0 w.1) in
      let i = now_first b F.below f in
      let gone : Has g'.tables.pool b → ⊥ = λ h. (apart g' good').pool_chain b c h i in
      (ap (λ (x : Answer × Grid). x.0.number) q, Room.taken why (rw f F) (rw f i) (rw f gone))

  pub makes_room : ((call (step_update l) g).0.number ≡ 0) × Room g g' c
  unfolding view
  makes_room = by_height (G.ghost.height c) refl
    where
      by_height : (n : ℕ) → G.ghost.height c ≡ n → ((call (step_update l) g).0.number ≡ 0) × Room g g' c
      by_height zero z =
          let f = G.inv.links.empty c here_c z in
          by_push (inl f) (room_none (chains_in t) c _ refl here_c f)
      by_height (suc h) z =
          let o = G.inv.links.top c h z in
          let f< = (G.inv.links.within (at t.first c) c h o).2 in
          at_or (at t.count (at t.first c)) 4
          (λ n. by_push (inr n) (room_full (chains_in t) c _ refl here_c f< n))
          (λ n.
          let n< : at t.count (at t.first c) < 4 = omega (arith, G.inv.full.most (at t.first c) c h o) in
          let q = call_nine _ on_c (room_left (chains_in t) c _ refl here_c f< n<) in
          (ap (λ (x : Answer × Grid). x.0.number) q, Room.left f< n< (ap (λ (x : Answer × Grid). x.1.tables) q)))

pub handed_out_free : (g : Grid) → Good g → HandedOutFree g
handed_out_free g G l l< e = makes_room g G l l< e
