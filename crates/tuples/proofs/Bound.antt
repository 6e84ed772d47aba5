-- WHO A QUERY HAS MET, OR MAY STILL MEET IN ITS BUCKET, STAYS KNOWN while the query is under way, whatever updates do meanwhile.
-- An object is bound while it has a current tuple, and while one is written that is to become the current one (stages 11 and 12).
-- The object of every counted tuple is bound (`live_bound`), a bound object is known (`bound_known`), and a step of any update keeps who is bound, and
-- leaves in each slot a bound object where there was one (`step_bound`). So a list of different bound objects has at most 256 entries (`bound_few`).
-- By the kind of place at which the tuple lies, and by what each stage does to places, lanes and slots (Effect, Follow).
use mathlib.Core.Path.{◌≡◌, refl, sym, ap, ◌∙◌}
use mathlib.Core.Logic.{◌≢◌, ⊎_elim}
use mathlib.Core.Bool.{true}
use Rattle.std.specs.Prelude.{Option, None, Some}
use Prim.Native.Nat.{ℕ, zero, suc, ◌<◌, ◌≤◌}
use native.Mathlib.Omega.{arith}
use lib.Dec.{T}
use Rattle.base.specs.Sums.{sum_below, bit, count_below}
use Rattle.base.proofs.Table.{upd_same, upd_other, at_or, clash}
use Rattle.machine.specs.Ends.{Ends, done, refused}
use Rattle.machine.specs.Store.{StoreOps, Store}
use Rattle.machine.proofs.Pigeon.{by_pair}
use Rattle.layout.specs.declared.place.Place.{Place}
use Rattle.stage.specs.declared.Stage.{Stage}
use Rattle.stage.specs.declared.Stage.TheVariants.{Idle, TakeObject, LockCell, LookLast, CopyLast, LowerCount, ReturnBucket, ErasePlace, ChooseCell, MakeRoom, WriteTuple, RaiseCount, SwitchPlace, DeleteOld, ReleaseObject}
use Rattle.machine.specs.Machine.{Entry, St, Out, to, do_stage}
use Rattle.cells.proofs.Chains.{in_chain}
use Rattle.tuples.proofs.Inv.{Pos, Kind, k_cur, k_prev, k_new, k_dup, sel, pl, Top, Lowering, Ok, mv, cl, bk, Ghost, numbered, Inv}
use Rattle.tuples.proofs.Facts.{at_stage}
use Rattle.tuples.proofs.Fresh.{late, main}
use Rattle.tuples.proofs.Ahead.{Goes}
use Rattle.tuples.proofs.Effect.{Effect, Erased, main_or, is_main}
use Rattle.tuples.proofs.Cells.{by_holder, own_dup, mov_dup, new_lane}
use Rattle.tuples.proofs.Main.{by_stage}
use Rattle.tuples.proofs.Follow.{coming, Follow, Names, keeps, copies, writes, Taken, Followed, held, taken, follows}

pub data Bound (g : Ghost) (d : St) (k : ℕ) : Type 0 where
  placed : (g.gh k).cur ≢ None → Bound g d k
  comes : (l : ℕ) → l < 8 → (d.lanes l).oid ≡ k → T (coming (d.lanes l).stage) → Bound g d k

some_of : (o : Option Place) → o ≢ None → (p : Place) × (o ≡ Some p)
some_of None n = absurd (n refl)
some_of (Some p) n = (p, refl)

-- a stage at which a tuple is on its way is not idle
coming_busy : (s : Stage) → T (coming s) → s ≢ Idle
unfolding coming
coming_busy s t e = let z : T (coming Idle) = rw e at t in z

-- ---- who is bound is known; every tuple that is counted is of a bound object
module _ {O : StoreOps} {S : Store O} {g : Ghost} {d : St} (I : Inv S g d) where
  -- a current or previous place: there is a current one
  has_current : (k : ℕ) (κ : Kind) → T (main κ) → (p : Place) → sel κ (g.gh k) ≡ Some p → (g.gh k).cur ≢ None
  unfolding sel
  has_current k κ mn p e = main_or κ mn
      (λ y n. let z : (g.gh k).cur ≡ Some p = rw y at e in clash (cc))
      (λ y. let z : (g.gh k).prev ≡ Some p = rw y at e in (I.fits.fit k).pair p z)

  pub bound_known : (k : ℕ) → Bound g d k → T (d.known k)
  unfolding sel
  bound_known k (placed n) = let w = some_of (g.gh k).cur n in (I.slots.back k_cur k w.0 w.1).2
  bound_known k (comes l l< o t) = rw o at (I.lanes.fine l l< (coming_busy (d.lanes l).stage t)).0

  -- the second copy of the erased place's own tuple: the current one is there still
  copy_own : (l : ℕ) (l< : l < 8) (p : Place) (m : ℕ) → (d.lanes l).stage ≡ LowerCount p m → (q : Place) → (g.gh (d.lanes l).oid).dup ≡ Some q → (g.gh (d.lanes l).oid).cur ≢ None
  unfolding Ok mv cl bk
  copy_own l l< p m st q z = by (at_stage I l l< (LowerCount p m) st)
    where
      by : {em : Entry} {gm : Pos} {t : Top} → Lowering (d.lanes l).oid p m (d.ent (d.lanes l).oid) (g.gh (d.lanes l).oid) em gm t → (g.gh (d.lanes l).oid).cur ≢ None
      by (Lowering.same x y c) = λ n. c (sym (ap (λ (u : Pos). u.cur) y) ∙ n)
      by (Lowering.other x y v) = clash (cc)

  -- past stage 12 the index says which tuple is the current one
  late_says : (l : ℕ) (l< : l < 8) (s : Stage) → (d.lanes l).stage ≡ s → T (late s) → (g.gh (d.lanes l).oid).cur ≡ (d.ent (d.lanes l).oid).cur
  unfolding late Ok mv cl bk
  late_says l l< Idle st z = absurd z
  late_says l l< TakeObject st z = absurd z
  late_says l l< (LockCell p) st z = absurd z
  late_says l l< (LookLast p) st z = absurd z
  late_says l l< (CopyLast p m) st z = absurd z
  late_says l l< (LowerCount p m) st z = absurd z
  late_says l l< (ReturnBucket p m b) st z = absurd z
  late_says l l< (ErasePlace p m) st z = absurd z
  late_says l l< ChooseCell st z = absurd z
  late_says l l< MakeRoom st z = absurd z
  late_says l l< WriteTuple st z = absurd z
  late_says l l< (RaiseCount p) st z = absurd z
  late_says l l< (SwitchPlace p) st z = absurd z
  late_says l l< (DeleteOld p) st z = ap (λ (u : Pos). u.cur) (at_stage I l l< (DeleteOld p) st).1
  late_says l l< ReleaseObject st z = ap (λ (u : Pos). u.cur) (at_stage I l l< ReleaseObject st)

  pub live_bound : (b c h i : ℕ) → g.own b ≡ in_chain c h → i < d.count b → Bound g d (d.tup b i).oid
  unfolding sel coming main
  live_bound b c h i o lt = let t = I.slots.forth b c h i o lt in go t.0 t.1
    where
      go : (κ : Kind) → sel κ (g.gh (d.tup b i).oid) ≡ Some (pl c b i) → Bound g d (d.tup b i).oid
      go k_cur e = placed (λ n. clash (cc))
      go k_prev e = placed ((I.fits.fit (d.tup b i).oid).pair _ e)
      go k_new e = let w = new_lane I (d.tup b i).oid _ e in comes w.0 w.1 w.3 (rw w.2.1 tt)
      go k_dup e = by_holder I (d.tup b i).oid
          (λ z. clash (cc))
          (λ l l< t o'.
          let e' : (g.gh (d.lanes l).oid).dup ≡ Some (pl c b i) = rw o' e in
          let w = own_dup I l l< _ refl t (pl c b i) e' in
          placed (rw o' at (copy_own l l< w.0 w.1 w.2 (pl c b i) e')))
          (λ l l< t n o'.
          let w = mov_dup I l l< _ refl t n (pl c b i) (rw o' e) in
          placed (⊎_elim
          (λ (z : (g.gh (mv (d.lanes l).oid (d.lanes l).stage)).cur ≡ Some w.0). λ y. let z' : (g.gh (d.tup b i).oid).cur ≡ Some w.0 = rw o' at z in clash (cc))
          (λ (z : (g.gh (mv (d.lanes l).oid (d.lanes l).stage)).prev ≡ Some w.0). (I.fits.fit (d.tup b i).oid).pair w.0 (rw o' at z))
          w.4))

-- ---- the list of 256 entries suffices: objects that are all different and all bound are no more than 256
all_count : (n : ℕ) → count_below n (λ _. true) ≡ n
unfolding sum_below bit
all_count zero = refl
all_count (suc n) = omega (arith, all_count n)

pub bound_few : {O : StoreOps} {S : Store O} {g : Ghost} {d : St} → Inv S g d → (f : ℕ → ℕ) (n : ℕ)
    → ((i : ℕ) → i < n → Bound g d (f i)) → ((i j : ℕ) → i < n → j < n → f i ≡ f j → i ≡ j) → n ≤ 256
bound_few {d} I f n B o =
    let R = numbered I.ranks in
    let known : (i : ℕ) → i < n → T (d.known (f i)) = λ i i<. bound_known I (f i) (B i i<) in
    let c = by_pair n 256 1 (λ _. true) (λ i. R.rank (f i)) (λ _. 0) (λ i i< _. (R.low (f i) (known i i<), omega arith))
    (λ i j i< j< _ _ e _. o i j i< j< (R.one (f i) (f j) (known i i<) (known j j<) e)) in
    omega (arith, all_count n, c)

-- ---- a step keeps who is bound
module _ {O : StoreOps} {S : Store O} {l : ℕ} {g g' : Ghost} {d d' : St} (I : Inv S g d) (I' : Inv S g' d') (l< : l < 8) (E : Effect l g d g' d') where
  -- the current place goes on, as current or previous one: only previous ones are erased
  current : (k : ℕ) → (g.gh k).cur ≢ None → Bound g' d' k
  unfolding sel
  current k n =
      let w = some_of (g.gh k).cur n in
      let t = I.slots.back k_cur k w.0 w.1 in
      ⊎_elim
      (λ (x : Erased (d.lanes l) k_cur k w.0). let z = x.prev in clash (cc))
      (λ (x : Goes g.own g'.own d.tup d'.tup g'.gh d.clock k w.0 t.0.h). placed (has_current I' k x.κ x.kind x.p' x.spot))
      (E.goes k k_cur is_main.0 w.0 t.0.h w.1 t.0.owned)

  module _ (K : Taken g l d d') (k : ℕ) where
    mine : d'.lanes l ≡ to (d.lanes l) K.s
    mine = rw K.lanes (upd_same d.lanes l (to (d.lanes l) K.s))

    other : (j : ℕ) → j ≢ l → d'.lanes j ≡ d.lanes j
    other j n = rw K.lanes (upd_other d.lanes l (to (d.lanes l) K.s) j n)

    -- the tuple that is on its way is counted, and then becomes the current one
    own_comes : (x : Stage) → (d.lanes l).stage ≡ x → T (coming x) → (d.lanes l).oid ≡ k → Bound g' d' k
    unfolding coming Follow
    own_comes (RaiseCount p) st t o = let f : T (coming K.s) = rw st at K.follow in comes l l< (rw mine o) (rw mine f)
    own_comes (SwitchPlace p) st t o =
        let f : T (late K.s) × ((d'.ent (d.lanes l).oid).cur ≡ Some p) = rw st at K.follow in
        let w = late_says I' l l< (d'.lanes l).stage refl (rw mine f.0) in
        let w' : (g'.gh (d.lanes l).oid).cur ≡ (d'.ent (d.lanes l).oid).cur = rw mine at w in
        placed (λ n. let n' : (g'.gh (d.lanes l).oid).cur ≡ None = rw o n in let z : Some p ≡ None = sym f.1 ∙ sym w' ∙ n' in clash (cc))
    own_comes Idle st t o = absurd t
    own_comes TakeObject st t o = absurd t
    own_comes (LockCell p) st t o = absurd t
    own_comes (LookLast p) st t o = absurd t
    own_comes (CopyLast p m) st t o = absurd t
    own_comes (LowerCount p m) st t o = absurd t
    own_comes (ReturnBucket p m b) st t o = absurd t
    own_comes (ErasePlace p m) st t o = absurd t
    own_comes ChooseCell st t o = absurd t
    own_comes MakeRoom st t o = absurd t
    own_comes WriteTuple st t o = absurd t
    own_comes (DeleteOld p) st t o = absurd t
    own_comes ReleaseObject st t o = absurd t

    after : Bound g d k → Bound g' d' k
    after (placed n) = current k n
    after (comes j j< o t) = at_or j l
        (λ q. own_comes (d.lanes l).stage refl (rw q at t) (rw q at o))
        (λ q. comes j j< (rw (other j q) o) (rw (other j q) t))

  pub bound_kept : Followed g l d d' → (k : ℕ) → Bound g d k → Bound g' d' k
  bound_kept (taken K) k B = after K k B
  bound_kept (held e) k (placed n) = current k n
  bound_kept (held e) k (comes j j< o t) = comes j j< (rw e o) (rw e t)

  -- the slots that a query has still to read: whatever is written over them is of a bound object
  pub slot_kept : Followed g l d d' → (b i : ℕ) → Bound g d (d.tup b i).oid → Bound g' d' (d'.tup b i).oid
  slot_kept F b i B = go F
    where
      named : (K : Taken g l d d') → Names g d d' (d.lanes l).oid K.s b i → Bound g' d' (d'.tup b i).oid
      named K (keeps e) = rw e (bound_kept (taken K) (d.tup b i).oid B)
      named K (copies b₀ c h i₀ o lt e) = rw e (bound_kept (taken K) (d.tup b₀ i₀).oid (live_bound I b₀ c h i₀ o lt))
      named K (writes e t) = comes l l< (rw (mine K (d.tup b i).oid) (sym e)) (rw (mine K (d.tup b i).oid) t)

      go : Followed g l d d' → Bound g' d' (d'.tup b i).oid
      go (held e) = let u : (d'.tup b i).oid ≡ (d.tup b i).oid = rw e in rw u (bound_kept (held e) (d.tup b i).oid B)
      go (taken K) = named K (K.names b i)

-- ---- every step of an update
both : {P Q : Out → Type 0} (o : Option Out) → Ends P ⊥ o → Ends Q (Unit {0}) o → Ends (λ (r : Out). P r × Q r) ⊥ o
both (Some r) (done p) (done q) = done (p, q)
both None (refused n) y = absurd n

weaken : {P Q : Out → Type 0} (o : Option Out) → ((r : Out) → P r → Q r) → Ends P ⊥ o → Ends Q ⊥ o
weaken (Some r) f (done p) = done (f r p)
weaken None f (refused n) = absurd n

-- who was bound is bound, and so is whoever a slot names that named a bound one
pub record Binds (g : Ghost) (d : St) (g' : Ghost) (d' : St) : Type 0 where
  pub objects : (k : ℕ) → Bound g d k → Bound g' d' k
  pub slots : (b i : ℕ) → Bound g d (d.tup b i).oid → Bound g' d' (d'.tup b i).oid

-- EVERY STEP OF AN UPDATE keeps the invariant, with its effect, and keeps who is bound.
pub step_bound : {O : StoreOps} (S : Store O) (g : Ghost) (d : St) → Inv S g d → (l : ℕ) → l < 8
    → Ends (λ (r : Out). (g' : Ghost) × Inv S g' r.0 × Effect l g d g' r.0 × Binds g d g' r.0) ⊥ (do_stage O l (d.lanes l) d (d.lanes l).stage)
step_bound S g d I l l< = weaken _
    (λ r (p : ((g' : Ghost) × Inv S g' r.0 × Effect l g d g' r.0) × Followed g l d r.0). (
      p.0.0,
      p.0.1,
      p.0.2,
      record {
        objects = bound_kept I p.0.1 l< p.0.2 p.1;
        slots = slot_kept I p.0.1 l< p.0.2 p.1;
      },
    ))
    (both _ (by_stage S g d I l l< (d.lanes l).stage refl) (follows I l l< (d.lanes l).stage refl))
