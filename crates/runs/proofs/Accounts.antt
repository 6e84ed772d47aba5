-- Each object accounts for at most two buckets (specs/Accounts.antt). A bucket of a chain with a tuple is claimed by
-- the tuple's object, if the tuple is the object's current or former one. A new tuple, a second copy, a bucket that is
-- to be filled and one that is to be returned belong to an update: its object, which has no former tuple then, claims
-- the bucket instead. The object's lock says that there is one such update only. So no two buckets have one claim, and
-- they are counted by two labels: the number of the object among the known ones, and the kind of the claim.
use mathlib.Core.Path.{◌≡◌, refl, sym, ap, ◌∙◌}
use mathlib.Core.Logic.{◌≢◌, ◌⊎◌, inl, inr, ⊎_elim}
use mathlib.Core.Bool.{Bool, true, false}
use Rattle.std.specs.Prelude.{Option, None, Some}
use Prim.Native.Nat.{ℕ, zero, suc, ◌+◌, ◌-◌, ◌*◌, ◌<◌, ◌≤◌}
use native.Mathlib.Omega.{arith}
use lib.Dec.{T}
use Rattle.base.specs.Table.{at}
use Rattle.base.proofs.Table.{at_or, clash}
use Rattle.cells.proofs.Chains.{Owner, in_pool, in_chain, unlinked}
use Rattle.layout.specs.declared.place.Place.{Place}
use Rattle.slots.specs.Tuple.{Tuple, tuple_in, slot_at}
use Rattle.index.specs.Search.{known}
use Rattle.stage.specs.declared.Stage.{Stage}
use Rattle.stage.specs.declared.Stage.TheVariants.{Idle, TakeObject, LockCell, LookLast, CopyLast, LowerCount, ReturnBucket, ErasePlace, ChooseCell, MakeRoom, WriteTuple, RaiseCount, SwitchPlace, DeleteOld, ReleaseObject}
use Rattle.grid.specs.Run.{Grid}
use Rattle.machine.specs.Machine.{Entry}
use Rattle.base.specs.Sums.{sum_below, bit, count_below}
use Rattle.machine.proofs.Pigeon.{by_pair}
use Rattle.tuples.proofs.Inv.{Pos, Kind, k_cur, k_prev, k_new, k_dup, sel, mk, pl, Top, Moved, moved_cur, moved_prev, Lowering, Erasing, Ok, stage_holds_own, mov_held, filling, mv, cl, bk, goal}
use Rattle.tuples.proofs.Facts.{tall_of, at_stage}
use Rattle.tuples.proofs.Dry.{mov_own}
use Rattle.runs.specs.Accounts.{at_work, Counts, Reason, TwoEach}
use Rattle.runs.specs.Apart.{InUse, InChain, Returns}
use Rattle.runs.specs.Counting.{chained, awaiting}
use Rattle.runs.specs.Quiet.{updater, positive}
use Rattle.runs.proofs.Apart.{linked, loose}
use Rattle.runs.proofs.Counted.{chains_counted, loose_counted, linked as isLinked, away as isAway}
use Rattle.runs.proofs.Every.{Good}
use Rattle.runs.proofs.Objects.{known_some}
use Rattle.runs.proofs.Sim.{T_true}
use Rattle.runs.proofs.View.{view, tup_f, tup_at}

-- ---- tuples that are neither current nor former

-- a new tuple of an object is at q, or a second copy
abbrev Extra : Pos → Place → Type 0
Extra g q = (g.new ≡ Some q) ⊎ (g.dup ≡ Some q)

-- the places of an object that has neither
none_extra : {g : Pos} {q : Place} (c p : Option Place) (f : Bool) → g ≡ mk c p None None f → Extra g q → ⊥
none_extra c p f e x = ⊎_elim (λ z. clash (cc)) (λ z. clash (cc)) x

-- an object whose only such tuple is a second copy at p
dup_extra : {g : Pos} {q : Place} (c o : Option Place) (p : Place) (f : Bool) → g ≡ mk c o None (Some p) f → Extra g q
    → p.bucket ≡ q.bucket
dup_extra {g} {q} c o p f e x =
    ⊎_elim (λ z. clash (cc)) (λ z. let w : p ≡ q = cc in ap (λ (y : Place). y.bucket) w) x

-- or a new one at p
new_extra : {g : Pos} {q : Place} (c o : Option Place) (p : Place) (f : Bool) → g ≡ mk c o (Some p) None f → Extra g q
    → p.bucket ≡ q.bucket
new_extra {g} {q} c o p f e x =
    ⊎_elim (λ z. let w : p ≡ q = cc in ap (λ (y : Place). y.bucket) w) (λ z. clash (cc)) x

moved_none : {p q : Place} {e : Entry} {g : Pos} → Moved p e g None → Extra g q → ⊥
moved_none {p} {e} (moved_cur w) x = none_extra (Some p) e.prev false w x
moved_none {p} {e} (moved_prev w) x = none_extra e.cur (Some p) false w x

moved_dup : {p q r : Place} {e : Entry} {g : Pos} → Moved p e g (Some r) → Extra g q → r.bucket ≡ q.bucket
moved_dup {p} {q} {r} {e} (moved_cur w) x = dup_extra (Some p) e.prev r false w x
moved_dup {p} {q} {r} {e} (moved_prev w) x = dup_extra e.cur (Some p) r false w x

module _ {k m : ℕ} {p : Place} {e em : Entry} {g gm : Pos} where
  -- while the count is to be lowered, the second copy is in the first bucket
  lower_own : {q : Place} (t : Top) → Lowering k p m e g em gm t → Extra g q → t.bucket ≡ q.bucket
  lower_own t (Lowering.same x y _) z = dup_extra e.cur None (pl p.cell t.bucket (t.n - 1)) false y z
  lower_own t (Lowering.other x y v) z = absurd (none_extra e.cur None false y z)

  lower_moved : {q : Place} (t : Top) → m ≢ k → Lowering k p m e g em gm t → Extra gm q → t.bucket ≡ q.bucket
  lower_moved t n (Lowering.same x y _) z = absurd (n x)
  lower_moved t n (Lowering.other x y v) z = moved_dup v z

  lower_former : (t : Top) → Lowering k p m e g em gm t → g.prev ≡ None
  lower_former t (Lowering.same x y _) = rw y
  lower_former t (Lowering.other x y v) = rw y

  -- then there is none
  erase_own : {q : Place} → Erasing k p m e g em gm → Extra g q → ⊥
  erase_own (Erasing.same x y) z = none_extra e.cur None false y z
  erase_own (Erasing.other x y v) z = none_extra e.cur None false y z

  erase_moved : {q : Place} → m ≢ k → Erasing k p m e g em gm → Extra gm q → ⊥
  erase_moved n (Erasing.same x y) z = n x
  erase_moved n (Erasing.other x y v) z = moved_none v z

  erase_former : Erasing k p m e g em gm → g.prev ≡ None
  erase_former (Erasing.same x y) = rw y
  erase_former (Erasing.other x y v) = rw y

-- ---- what the lanes say

module _ (g : Grid) (G : Good g) where
  abbrev own : ℕ → Owner
  own = G.ghost.own

  abbrev gh : ℕ → Pos
  gh = G.ghost.gh

  -- the bucket at work in lane l, at a stage
  abbrev Work : ℕ → Stage → ℕ → Type 0
  Work l s b = at_work g.tables.first (goal (updater g l)) s ≡ Some b

  -- such a tuple of the update's own object is in the bucket at work
  own_extra : (l : ℕ) → l < 8 → (s : Stage) → (updater g l).stage ≡ s → T (stage_holds_own s) → (q : Place)
      → Extra (gh (updater g l).oid) q → Work l s q.bucket
  unfolding view Ok mv bk cl stage_holds_own at_work
  own_extra l l< Idle st t q x = absurd t
  own_extra l l< TakeObject st t q x = absurd t
  own_extra l l< (LockCell p) st t q x = absurd (none_extra _ _ _ (at_stage G.inv l l< (LockCell p) st).1 x)
  own_extra l l< (LookLast p) st t q x = absurd (none_extra _ _ _ (at_stage G.inv l l< (LookLast p) st).1 x)
  own_extra l l< (CopyLast p m) st t q x = absurd (none_extra _ _ _ (at_stage G.inv l l< (CopyLast p m) st).1 x)
  own_extra l l< (LowerCount p m) st t q x = ap Some (lower_own _ (at_stage G.inv l l< (LowerCount p m) st) x)
  own_extra l l< (ReturnBucket p m b) st t q x =
      absurd (erase_own (at_stage G.inv l l< (ReturnBucket p m b) st).0 x)
  own_extra l l< (ErasePlace p m) st t q x = absurd (erase_own (at_stage G.inv l l< (ErasePlace p m) st) x)
  own_extra l l< ChooseCell st t q x = absurd (none_extra _ _ _ (at_stage G.inv l l< ChooseCell st).0 x)
  own_extra l l< MakeRoom st t q x = absurd (none_extra _ _ _ (at_stage G.inv l l< MakeRoom st).0 x)
  own_extra l l< WriteTuple st t q x = absurd (none_extra _ _ _ (at_stage G.inv l l< WriteTuple st).0 x)
  own_extra l l< (RaiseCount p) st t q x = absurd (none_extra _ _ _ (at_stage G.inv l l< (RaiseCount p) st).0 x)
  own_extra l l< (SwitchPlace p) st t q x =
      ap Some (new_extra _ _ p _ (at_stage G.inv l l< (SwitchPlace p) st).0 x)
  own_extra l l< (DeleteOld p) st t q x = absurd (none_extra _ _ _ (at_stage G.inv l l< (DeleteOld p) st).1 x)
  own_extra l l< ReleaseObject st t q x = absurd (none_extra _ _ _ (at_stage G.inv l l< ReleaseObject st) x)

  -- and so is one of the object whose tuple it moves, if that is another
  moved_extra : (l : ℕ) → l < 8 → (s : Stage) → (updater g l).stage ≡ s → T (mov_held s)
      → mv (updater g l).oid s ≢ (updater g l).oid → (q : Place) → Extra (gh (mv (updater g l).oid s)) q
      → Work l s q.bucket
  unfolding view Ok mv bk cl mov_held at_work
  moved_extra l l< Idle st t n q x = absurd t
  moved_extra l l< TakeObject st t n q x = absurd t
  moved_extra l l< (LockCell p) st t n q x = absurd t
  moved_extra l l< (LookLast p) st t n q x = absurd t
  moved_extra l l< (CopyLast p m) st t n q x =
      absurd (none_extra _ _ _ (at_stage G.inv l l< (CopyLast p m) st).2 x)
  moved_extra l l< (LowerCount p m) st t n q x =
      ap Some (lower_moved _ n (at_stage G.inv l l< (LowerCount p m) st) x)
  moved_extra l l< (ReturnBucket p m b) st t n q x =
      absurd (erase_moved n (at_stage G.inv l l< (ReturnBucket p m b) st).0 x)
  moved_extra l l< (ErasePlace p m) st t n q x =
      absurd (erase_moved n (at_stage G.inv l l< (ErasePlace p m) st) x)
  moved_extra l l< ChooseCell st t n q x = absurd t
  moved_extra l l< MakeRoom st t n q x = absurd t
  moved_extra l l< WriteTuple st t n q x = absurd t
  moved_extra l l< (RaiseCount p) st t n q x = absurd t
  moved_extra l l< (SwitchPlace p) st t n q x = absurd t
  moved_extra l l< (DeleteOld p) st t n q x = absurd t
  moved_extra l l< ReleaseObject st t n q x = absurd t

  -- an update with a bucket at work holds its object, which has no former tuple
  at_work_lem : (l : ℕ) → l < 8 → (s : Stage) → (updater g l).stage ≡ s → (b : ℕ) → Work l s b
      → T (stage_holds_own s) × ((gh (updater g l).oid).prev ≡ None)
  unfolding view Ok mv bk cl stage_holds_own at_work
  at_work_lem l l< Idle st b z = clash (cc)
  at_work_lem l l< TakeObject st b z = clash (cc)
  at_work_lem l l< (LockCell p) st b z = clash (cc)
  at_work_lem l l< (LookLast p) st b z = clash (cc)
  at_work_lem l l< (CopyLast p m) st b z = clash (cc)
  at_work_lem l l< (LowerCount p m) st b z = (tt, lower_former _ (at_stage G.inv l l< (LowerCount p m) st))
  at_work_lem l l< (ReturnBucket p m r) st b z =
      (tt, erase_former (at_stage G.inv l l< (ReturnBucket p m r) st).0)
  at_work_lem l l< (ErasePlace p m) st b z = clash (cc)
  at_work_lem l l< ChooseCell st b z = clash (cc)
  at_work_lem l l< MakeRoom st b z = clash (cc)
  at_work_lem l l< WriteTuple st b z =
      let w = at_stage G.inv l l< WriteTuple st in
      (tt, rw w.0 w.1.no_prev)
  at_work_lem l l< (RaiseCount p) st b z =
      let w = at_stage G.inv l l< (RaiseCount p) st in
      (tt, rw w.0 w.1.no_prev)
  at_work_lem l l< (SwitchPlace p) st b z = let w = at_stage G.inv l l< (SwitchPlace p) st in (tt, rw w.0)
  at_work_lem l l< (DeleteOld p) st b z = clash (cc)
  at_work_lem l l< ReleaseObject st b z = clash (cc)

  -- a bucket that is to be filled is at work
  fills : (l : ℕ) (s : Stage) → T (filling s) → Work l s (at g.tables.first (cl (goal (updater g l)) s))
  unfolding filling cl at_work
  fills l Idle t = absurd t
  fills l TakeObject t = absurd t
  fills l (LockCell p) t = absurd t
  fills l (LookLast p) t = absurd t
  fills l (CopyLast p m) t = absurd t
  fills l (LowerCount p m) t = absurd t
  fills l (ReturnBucket p m b) t = absurd t
  fills l (ErasePlace p m) t = absurd t
  fills l ChooseCell t = absurd t
  fills l MakeRoom t = absurd t
  fills l WriteTuple t = refl
  fills l (RaiseCount p) t = refl
  fills l (SwitchPlace p) t = absurd t
  fills l (DeleteOld p) t = absurd t
  fills l ReleaseObject t = absurd t

  -- ---- claims: false for the current tuple, true for the former one or in its place

  data Claim (b k : ℕ) : Bool → Type 0 where
    by_current : (p : Place) → (gh k).cur ≡ Some p → p.bucket ≡ b → Claim b k false
    by_former : (p : Place) → (gh k).prev ≡ Some p → p.bucket ≡ b → Claim b k true
    by_update : (l : ℕ) → l < 8 → (updater g l).oid ≡ k → Work l (updater g l).stage b → Claim b k true

  record Claimed (b : ℕ) : Type 0 where
    k : ℕ
    kind : Bool
    claim : Claim b k kind
    heard : T ((view g).known k)

  by_update_lem : (b l : ℕ) → l < 8 → Work l (updater g l).stage b → Claimed b
  unfolding view at_work
  by_update_lem b l l< e =
      record {
        k = (updater g l).oid;
        kind = true;
        claim = by_update l l< refl e;
        heard = (G.inv.lanes.fine l l< (λ z. let w : Work l Idle b = rw z at e in clash (cc))).0;
      }

  -- a new tuple or a second copy: its object is locked, by the update that has it
  by_extra : (k : ℕ) (q : Place) (x : ℕ) → (view g).lock k ≡ x → Extra (gh k) q → Claimed q.bucket
  unfolding view
  by_extra k q zero e u = absurd (none_extra _ _ _ (G.inv.free.free k e) u)
  by_extra k q (suc l) e u =
      let t = G.inv.objs.his k l e in
      let s = (updater g l).stage in
      let j = (updater g l).oid in
      by_update_lem q.bucket l t.0
      (⊎_elim
      (λ (y : T (stage_holds_own s) × (j ≡ k)). own_extra l t.0 s refl y.0 q (rw y.1 u))
      (λ (y : T (mov_held s) × (mv j s ≡ k)). at_or (mv j s) j
      (λ same. own_extra l t.0 s refl (mov_own s y.0) q (rw (← same, y.1) u))
      (λ n. moved_extra l t.0 s refl y.0 n q (rw y.1 u)))
      t.1)

  -- a bucket of a chain that has a tuple
  by_slot : (b c h : ℕ) → own b ≡ in_chain c h → 0 < at g.tables.count b → Claimed b
  unfolding view sel
  by_slot b c h o lt = let u = G.inv.slots.forth b c h 0 o lt in go u.0 u.1
    where
      go : (κ : Kind) → sel κ (gh ((view g).tup b 0).oid) ≡ Some (pl c b 0) → Claimed b
      go k_cur z =
          let B = G.inv.slots.back k_cur _ _ z in
          record { k = _; kind = false; claim = by_current (pl c b 0) z refl; heard = B.2 }
      go k_prev z =
          let B = G.inv.slots.back k_prev _ _ z in
          record { k = _; kind = true; claim = by_former (pl c b 0) z refl; heard = B.2 }
      go k_new z = by_extra _ (pl c b 0) _ refl (inl z)
      go k_dup z = by_extra _ (pl c b 0) _ refl (inr z)

  -- one that has none yet is the first of its cell, and an update is about to fill it
  abbrev Fills : ℕ → ℕ → Type 0
  Fills l c = (l < 8) × T (filling (updater g l).stage) × (cl (goal (updater g l)) (updater g l).stage ≡ c)

  by_filling : (b c h l : ℕ) → own b ≡ in_chain c h → at g.tables.count b ≡ 0 → Fills l c → Claimed b
  unfolding view
  by_filling b c h l o z u =
      let H = tall_of G.inv b c h o in
      let w = G.inv.links.within b c h o in
      let tall = H.tall in
      let top : h ≡ H.h =
      at_or h H.h (λ q. q) (λ q. absurd (omega (arith, G.inv.full.below b c h o (omega (arith, w.1))))) in
      let first : b ≡ at g.tables.first c =
      G.inv.links.one b (at g.tables.first c) c h o (rw top H.owned) in
      by_update_lem b l u.0 (fills l (updater g l).stage u.1 ∙ rw (u.2, first))

  -- every bucket outside the pool
  abbrev Either : ℕ → Type 0
  Either b = (own b ≡ in_pool) ⊎ Claimed b

  claims : (b : ℕ) → Either b
  unfolding view at_work
  claims b = go (own b) refl
    where
      go : (o : Owner) → own b ≡ o → Either b
      go in_pool e = inl e
      go (unlinked l c h) e = let t = G.inv.back.lane b l c h e in inr (by_update_lem b l t.1 (rw t.2.2))
      go (in_chain c h) e = inr (⊎_elim
          (λ lt. by_slot b c h e lt)
          (λ u. at_or (at g.tables.count b) 0
          (λ z. by_filling b c h u.0 e z (u.1, u.2, u.3))
          (λ n. by_slot b c h e (omega arith)))
          (G.inv.filled.filled b c h e))

  -- ---- no two buckets have one claim

  -- the update that claims has the object's lock, and the object no former tuple
  update_lock : (l b k : ℕ) → l < 8 → (updater g l).oid ≡ k → Work l (updater g l).stage b
      → ((view g).lock k ≡ suc l) × ((gh k).prev ≡ None)
  unfolding view
  update_lock l b k l< o z =
      let w = at_work_lem l l< (updater g l).stage refl b z in
      rw (← o) (G.inv.objs.own l l< w.0, w.1)

  one_claim : (b b' k : ℕ) (κ : Bool) → Claim b k κ → Claim b' k κ → b ≡ b'
  one_claim b b' k _ (by_current p e q) y = currents y
    where
      currents : Claim b' k false → b ≡ b'
      currents (by_current p' e' q') = let w : p ≡ p' = cc in sym q ∙ ap (λ (z : Place). z.bucket) w ∙ q'
  one_claim b b' k _ (by_former p e q) (by_former p' e' q') =
      let w : p ≡ p' = cc in sym q ∙ ap (λ (z : Place). z.bucket) w ∙ q'
  one_claim b b' k _ (by_former p e q) (by_update l l< o z) = let w = update_lock l b' k l< o z in clash (cc w.1)
  one_claim b b' k _ (by_update l l< o z) (by_former p' e' q') = let w = update_lock l b k l< o z in clash (cc w.1)
  one_claim b b' k _ (by_update l l< o z) (by_update l' l'< o' z') =
      let w : suc l ≡ suc l' = sym (update_lock l b k l< o z).0 ∙ (update_lock l' b' k l'< o' z').0 in
      let same : l ≡ l' = omega arith in
      let x : Some b ≡ Some b' =
      sym z ∙ ap (λ (j : ℕ). at_work g.tables.first (goal (updater g j)) (updater g j).stage) same ∙ z' in
      cc

  -- ---- the account

  who : (b : ℕ) → Either b → ℕ
  who b (inl e) = 0
  who b (inr c) = c.k

  kind_of : (b : ℕ) → Either b → Bool
  kind_of b (inl e) = false
  kind_of b (inr c) = c.kind

  claimed : (b : ℕ) → own b ≢ in_pool → (x : Either b)
      → (c : Claimed b) × (who b x ≡ c.k) × (kind_of b x ≡ c.kind)
  unfolding who kind_of
  claimed b n (inl e) = absurd (n e)
  claimed b n (inr c) = (c, refl, refl)

  the_claim : (b : ℕ) → own b ≢ in_pool
      → (c : Claimed b) × (who b (claims b) ≡ c.k) × (kind_of b (claims b) ≡ c.kind)
  the_claim b n = claimed b n (claims b)

  in_use : (b : ℕ) → InUse g b → own b ≢ in_pool
  in_use b u z = ⊎_elim
      (λ (i : (c : ℕ) × InChain g.tables c b). let o = linked g G b i.0 i.1 in clash (cc o.1))
      (λ (r : (l : ℕ) × Returns g l b). let o = loose g G b r.0 r.1 in clash (cc o.2))
      u

  -- two buckets outside the pool with one object and one kind
  same_claim : (b b' : ℕ) → own b ≢ in_pool → own b' ≢ in_pool → who b (claims b) ≡ who b' (claims b')
      → kind_of b (claims b) ≡ kind_of b' (claims b') → b ≡ b'
  same_claim b b' n n' e e' =
      let c = the_claim b n in
      let c' = the_claim b' n' in
      let q : c.0.k ≡ c'.0.k = sym c.1 ∙ e ∙ c'.1 in
      let q' : c.0.kind ≡ c'.0.kind = sym c.2 ∙ e' ∙ c'.2 in
      one_claim b b' c'.0.k c'.0.kind (rw (q, q') at c.0.claim) c'.0.claim

  -- a tuple that an object has, as the tables show it
  tuple_in_lem : (b : ℕ) (p : Place) → ℕ → Type 0
  tuple_in_lem b p k =
      let d = g.tables.tuples in
      Counts g b p.slot k × (tup_f d b p.slot ≡ tuple_in d (slot_at b p.slot))

  counts : (κ : Kind) (k b : ℕ) (p : Place) → sel κ (gh k) ≡ Some p → p.bucket ≡ b → tuple_in_lem b p k
  unfolding view tuple_in_lem
  counts κ k b p e q =
      let B = G.inv.slots.back κ k p e in
      let L = B.0 in
      let most = G.inv.full.most p.bucket p.cell L.h L.owned in
      let low : p.slot < at g.tables.count b = rw q at L.low in
      let s = tup_at g.tables.tuples b p.slot (omega (arith, L.low)) in
      let o : (tup_f g.tables.tuples b p.slot).oid ≡ k = rw q at B.1 in
      ((low, ap (λ (v : Tuple). v.oid) (sym s) ∙ o), s)

  reason_of : (b k : ℕ) (κ : Bool) → Claim b k κ → Reason g b k κ
  unfolding view sel tuple_in_lem
  reason_of b k _ (by_current p e q) =
      let c = counts k_cur k b p e q in
      let s : positive ((view g).tup p.bucket p.slot).time = T_true _ ((G.inv.fits.fit k).curs p e) in
      let s' : positive (tup_f g.tables.tuples b p.slot).time = rw q at s in
      Reason.current p.slot c.0 (rw c.1 at s')
  reason_of b k _ (by_former p e q) = Reason.former p.slot (counts k_prev k b p e q).0
  reason_of b k _ (by_update l l< o z) = Reason.update l l< o z

-- ---- the buckets in use, counted

-- a bucket that is not in the pool
out : Owner → Bool
out in_pool = false
out (in_chain c h) = true
out (unlinked l c h) = true

out_not : (o : Owner) → T (out o) → o ≢ in_pool
unfolding out
out_not in_pool t e = t
out_not (in_chain c h) t e = clash (cc)
out_not (unlinked l c h) t e = clash (cc)

-- the linked and the unlinked ones together
out_kinds : (o : Owner) → bit (out o) ≡ bit (isLinked o) + bit (isAway o)
unfolding out isLinked isAway bit
out_kinds in_pool = refl
out_kinds (in_chain c h) = refl
out_kinds (unlinked l c h) = refl

outs : (n : ℕ) (f : ℕ → Owner)
    → count_below n (λ b. out (f b)) ≡ count_below n (λ b. isLinked (f b)) + count_below n (λ b. isAway (f b))
unfolding sum_below
outs zero f = refl
outs (suc n) f = omega (arith, outs n f, out_kinds (f n))

-- a kind as a number
bit_below : (κ : Bool) → bit κ < 2
unfolding bit
bit_below true = omega arith
bit_below false = omega arith

bit-one : (κ κ' : Bool) → bit κ ≡ bit κ' → κ ≡ κ'
unfolding bit
bit-one true true e = refl
bit-one true false e = absurd (omega arith)
bit-one false true e = absurd (omega arith)
bit-one false false e = refl

module _ (g : Grid) (G : Good g) where
  few_used : chained g.tables + awaiting g.updaters ≤ 2 * known g.tables.index.oid
  unfolding view
  few_used =
      let R = G.inv.ranks in
      let f = G.ghost.own in
      let object : ℕ → ℕ = λ b. who g G b (claims g G b) in
      let kind : ℕ → Bool = λ b. kind_of g G b (claims g G b) in
      let heard : (b : ℕ) → T (out (f b)) → T ((view g).known (object b)) =
      λ b t. let c = the_claim g G b (out_not (f b) t) in rw c.1 c.0.heard in
      let most =
      by_pair 512 (known g.tables.index.oid) 2 (λ b. out (f b)) (λ b. R.rank (object b)) (λ b. bit (kind b))
      (λ b b< t. (R.low (object b) (heard b t), bit_below (kind b)))
      (λ b b' b< b'< t t' e e'. same_claim g G b b' (out_not (f b) t) (out_not (f b') t')
      (R.one (object b) (object b') (heard b t) (heard b' t') e) (bit-one (kind b) (kind b') e')) in
      omega (arith, outs 512 f, chains_counted g G, loose_counted g G)

  pub two_each : TwoEach g
  unfolding view
  two_each =
      record {
        object = λ b. who g G b (claims g G b);
        for_former = λ b. kind_of g G b (claims g G b);
        is_known = λ b u. let c = the_claim g G b (in_use g G b u) in rw c.1 (known_some _ c.0.heard);
        reason = λ b u.
            let c = the_claim g G b (in_use g G b u) in
            rw (c.1, c.2) (reason_of g G b c.0.k c.0.kind c.0.claim);
        once = λ b b' u u' e e'. same_claim g G b b' (in_use g G b u) (in_use g G b' u') e e';
        few = few_used;
      }
