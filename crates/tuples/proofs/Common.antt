-- How each clause of the invariant gets over a step, for all stages once.
-- There are three arguments. A tuple written over touches only its own object's signs (`fit_put`) and stays in its cell if it is
-- given a place of that cell (`placed_put`). A step of one update changes nothing that another has locked, so what the others say
-- stays (`oks`, by `Local`), and with it the tuple that another has written and not yet counted (`writes`). And a sum over lanes in
-- which one term changes follows that term (`sum_one`), so that a stage which draws a stamp has one draw less to come (`ticks_step`).
use mathlib.Core.Path.{◌≡◌, refl, sym, ap, ◌∙◌}
use mathlib.Core.Logic.{◌≢◌, ◌⊎◌, inl, inr, ⊎_elim}
use mathlib.Core.Bool.{Bool}
use Rattle.std.specs.Prelude.{Some}
use Prim.Native.Nat.{ℕ, zero, suc, ◌+◌, ◌≤◌, ◌<◌}
use native.Mathlib.Omega.{arith}
use lib.Dec.{T, ltb→lt}
use lib.IntN.{ℤ, pos, negsuc, nat_abs}
use Rattle.machine.specs.Marks.{stands, stood}
use Rattle.base.specs.Table.{upd}
use Rattle.base.proofs.Table.{upd_same, upd_other, at_or, clash}
use Rattle.layout.specs.declared.place.Place.{Place}
use Rattle.layout.specs.Place.{cell_of}
use Rattle.slots.specs.Tuple.{Tuple}
use Rattle.stage.specs.declared.Stage.{Stage}
use Rattle.stage.specs.declared.Stage.TheVariants.{Idle, ReturnBucket, RaiseCount}
use Rattle.stage.specs.declared.Updater.{Updater}
use Rattle.machine.specs.Machine.{Scanner, St, put, to}
use Rattle.cells.proofs.Chains.{Owner, in_chain, unlinked}
use Rattle.tuples.proofs.Inv.{Pos, Kind, k_cur, k_prev, k_new, sel, Slots, Fit, Fits, Top, top_of, Ok, cel_held, mv, cl, goal, bk, filling, Ghost, OkAt, Lanes, CellLocks, ObjLocks, Filled, Back, draws, Ticks, Young, Placed, Written, Reading}
use Rattle.base.specs.Sums.{sum_below}
use Rattle.tuples.proofs.Local.{Local, others}
use Rattle.tuples.proofs.Slots.{put_same, put_else, slot_or}

-- ---- fits
pub fit_same : {tup tup' : ℕ → ℕ → Tuple} {g : Pos} → ((κ : Kind) (r : Place) → sel κ g ≡ Some r → (tup' r.bucket r.slot).time ≡ (tup r.bucket r.slot).time) → Fit tup g → Fit tup' g
unfolding sel
fit_same f F =
    record {
      curs = λ p e. rw (f k_cur p e) (F.curs p e);
      news = λ p e. rw (f k_new p e) (F.news p e);
      prevs = λ p e b. rw (f k_prev p e) (F.prevs p e b);
      unflagged = λ p e b. rw (f k_prev p e) (F.unflagged p e b);
      far = F.far;
      pair = F.pair;
    }

pub fits_upd : {tup : ℕ → ℕ → Tuple} {gh : ℕ → Pos} (k : ℕ) (g' : Pos) → Fits tup gh → Fit tup g' → Fits tup (upd gh k g')
fits_upd {tup} {gh} k g' F f = record { fit = λ j. at_or j k (λ q. rw (q, upd_same gh k g') f) (λ q. rw (upd_other gh k g' j q) (F.fit j)) }

-- a tuple written over: only its object's fit is touched
pub fit_put : {own : ℕ → Owner} {count : ℕ → ℕ} {tup : ℕ → ℕ → Tuple} {known : ℕ → Bool} {gh : ℕ → Pos} (G : Slots own count tup known gh) (b i : ℕ) (v : Tuple) (j : ℕ)
    → ((tup b i).oid ≢ j) → Fit tup (gh j) → Fit (put tup b i v) (gh j)
fit_put {own} {count} {tup} {known} {gh} G b i v j n F = fit_same (λ κ r e. rw (put_else tup b i v r.bucket r.slot (λ e₁ e₂. n (rw (e₁, e₂) at (G.back κ j r e).1)))) F

module _ {l : ℕ} {g g' : Ghost} {d d' : St} (a' : Updater) (L : Local l g d g' d') (lanesEq : d'.lanes ≡ upd d.lanes l a') where
  pub oks : CellLocks d.cell_lock d.lanes → ObjLocks d.lock d.lanes → ((j : ℕ) → j < 8 → OkAt j g d)
      → Ok l a'.oid (goal a') a'.stage (d'.ent a'.oid) (g'.gh a'.oid) (d'.ent (mv a'.oid a'.stage)) (g'.gh (mv a'.oid a'.stage)) (top_of d'.first d'.count d'.tup (cl (goal a') a'.stage)) (g'.own (bk a'.stage))
      → (j : ℕ) → j < 8 → OkAt j g' d'
  oks K J k m j j< = at_or j l
      (λ q. let e : d'.lanes j ≡ a' = rw (lanesEq, q, upd_same d.lanes l a') in rw (e, q) m)
      (λ n. others L K J j j< n (k j j<))

  -- the tuple that another lane has written stays
  kept_fill : CellLocks d.cell_lock d.lanes → ((j : ℕ) → j < 8 → OkAt j g d) → (j : ℕ) → j < 8 → j ≢ l → (p : Place) → (d.lanes j).stage ≡ RaiseCount p → d'.tup p.bucket p.slot ≡ d.tup p.bucket p.slot
  unfolding Ok cl cel_held mv bk
  kept_fill K k j j< n p e =
      let c = goal (d.lanes j) in
      let w = rw e at (k j j<) in
      let lock : d.cell_lock c ≡ suc j = rw e at (K.mine j j<) tt in
      let same = L.tops c j n lock in
      let b : p.bucket ≡ d.first c = ap (λ (z : Place). z.bucket) w.4 in
      let i : p.slot ≡ d.count (d.first c) = ap (λ (z : Place). z.slot) w.4 in
      let b' : d.first c ≡ d'.first c = ap (λ (z : Top). z.bucket) same in
      let i' : d.count (d.first c) ≡ d'.count (d'.first c) = ap (λ (z : Top). z.n) same in
      let f : d.tup (d.first c) (d.count (d.first c)) ≡ d'.tup (d'.first c) (d'.count (d'.first c)) = ap (λ (z : Top). z.fill) same in
      ap (λ (z : ℕ). d'.tup z p.slot) (b ∙ b') ∙ ap (d'.tup (d'.first c)) (i ∙ i') ∙ sym f ∙ sym (ap (λ (z : ℕ). d.tup z p.slot) b ∙ ap (d.tup (d.first c)) i)

  pub writes : CellLocks d.cell_lock d.lanes → ((j : ℕ) → j < 8 → OkAt j g d) → Written d.tup d.lanes
      → ((p : Place) → a'.stage ≡ RaiseCount p → ((d'.tup p.bucket p.slot).x ≡ a'.x) × ((d'.tup p.bucket p.slot).y ≡ a'.y) × ((d'.tup p.bucket p.slot).tag ≡ a'.tag)) → Written d'.tup d'.lanes
  writes K k W m = record {
    filled = λ j j< p. at_or j l
        (λ q. let e : d'.lanes j ≡ a' = rw (lanesEq, q, upd_same d.lanes l a') in rw e (m p))
        (λ n. rw (L.lanes j n) (λ e. rw (kept_fill K k j j< n p e) (W.filled j j< p e)));
  }

-- ---- where and when
pub timed : (z : ℤ) → T (stands z) → 0 < nat_abs z
timed (pos n) t = ltb→lt 0 n t
timed (negsuc n) t = absurd t

pub young_put : {tup : ℕ → ℕ → Tuple} {known : ℕ → Bool} {clock : ℕ} (clock' b i : ℕ) (v : Tuple) → clock ≤ clock' → nat_abs v.time ≤ 2147483647 → (T (stood v.time) → nat_abs v.time ≤ clock') → (0 < nat_abs v.time → T (known v.oid)) → Young tup known clock → Young (put tup b i v) known clock'
young_put {tup} clock' b i v h r h' kn Y = record {
  range = λ b' i'. slot_or b i b' i' (λ e₁ e₂. rw (e₁, e₂, put_same tup b i v) r) (λ n. rw (put_else tup b i v b' i' n) (Y.range b' i'));
  heard = λ b' i'. slot_or b i b' i' (λ e₁ e₂. rw (e₁, e₂, put_same tup b i v) kn) (λ n. rw (put_else tup b i v b' i' n) (Y.heard b' i'));
  young = λ b' i'. slot_or b i b' i'
      (λ e₁ e₂. rw (e₁, e₂, put_same tup b i v) h')
      (λ n. rw (put_else tup b i v b' i' n) (λ t. let y = Y.young b' i' t in omega arith));
}

-- a number within a bound, written over another
pub most_upd : (f : ℕ → ℕ) (most k v : ℕ) → ((j : ℕ) → f j ≤ most) → v ≤ most → (j : ℕ) → upd f k v j ≤ most
most_upd f most k v h h' j = at_or j k (λ e. rw (e, upd_same f k v) h') (λ n. rw (upd_other f k v j n) (h j))

-- a tuple with a time, in a cell
pub record Lying (c : ℕ) (t : Tuple) : Type 0 where
  pub written : 0 < nat_abs t.time
  pub here : (cell_of t.x t.y ≡ c) × (t.x < 16384) × (t.y < 16384)

-- buckets keep their owners as far as queries mind, and what was written in a cell stays written there
pub reading_step : {own own' : ℕ → Owner} {tup tup' : ℕ → ℕ → Tuple} {readers : ℕ → ℕ} {queries : ℕ → Scanner}
    → ((b q c h : ℕ) → q < 4 → (queries q).bucket ≡ Some b → (own b ≡ in_chain c h) ⊎ ((l : ℕ) × (own b ≡ unlinked l c h)) → (own' b ≡ in_chain c h) ⊎ ((l : ℕ) × (own' b ≡ unlinked l c h)))
    → ((b i c h : ℕ) → (own b ≡ in_chain c h) ⊎ ((l : ℕ) × (own b ≡ unlinked l c h)) → Lying c (tup b i) → Lying c (tup' b i))
    → Reading own tup readers queries → Reading own' tup' readers queries
reading_step {tup = tup} f w R = record {
  exact = R.exact;
  standing = λ q b q< e. let t = R.standing q b q< e in
      let kept : (i : ℕ) → i < _ → Lying _ _ = λ i lt. w b i _ t.h t.owned (record { written = t.written i lt; here = t.here i lt }) in
      record { h = t.h; owned = f b q _ t.h q< e t.owned; few = t.few; written = λ i lt. (kept i lt).written; here = λ i lt. (kept i lt).here };
}

-- a tuple written over another in a chain's bucket: who stands there stands in that chain's cell
pub written_put : (own : ℕ → Owner) (tup : ℕ → ℕ → Tuple) (b i : ℕ) (v : Tuple) (c h : ℕ) → own b ≡ in_chain c h → 0 < nat_abs v.time → (cell_of v.x v.y ≡ c) × (v.x < 16384) × (v.y < 16384)
    → (b' i' c' h' : ℕ) → (own b' ≡ in_chain c' h') ⊎ ((l : ℕ) × (own b' ≡ unlinked l c' h')) → Lying c' (tup b' i') → Lying c' (put tup b i v b' i')
written_put own tup b i v c h o lt e b' i' c' h' o' w = slot_or b i b' i'
    (λ e₁ e₂. rw (e₁, e₂, put_same tup b i v) (record {
      written = lt;
      here = (
        e.0 ∙ ⊎_elim
            (λ z. let y : in_chain c h ≡ in_chain c' h' = sym o ∙ ap own (sym e₁) ∙ z in cc)
            (λ (z : (l : ℕ) × (own b' ≡ unlinked l c' h')). let y : in_chain c h ≡ unlinked z.0 c' h' = sym o ∙ ap own (sym e₁) ∙ z.1 in clash (cc)) o',
        e.1,
        e.2,
      );
    }))
    (λ n. rw (put_else tup b i v b' i' n) w)

pub placed_put : {own : ℕ → Owner} {count : ℕ → ℕ} {tup : ℕ → ℕ → Tuple} (p : Place) (h : ℕ) (v : Tuple) → own p.bucket ≡ in_chain p.cell h → cell_of v.x v.y ≡ p.cell → 0 < nat_abs v.time → v.x < 16384 → v.y < 16384 → v.tag ≤ 9
    → Placed own count tup → Placed own count (put tup p.bucket p.slot v)
placed_put {own} {count} {tup} p h₀ v o₀ e lt x< y< m≤ P = record {
  inside = λ b c h i o l. slot_or p.bucket p.slot b i
      (λ e₁ e₂. let w : in_chain p.cell h₀ ≡ in_chain c h = cc in let w' : p.cell ≡ c = cc in rw (e₁, e₂, put_same tup p.bucket p.slot v) (e ∙ w', lt, x<, y<, m≤))
      (λ n. rw (put_else tup p.bucket p.slot v b i n) (P.inside b c h i o l));
}

pub placed_same : {own : ℕ → Owner} {count : ℕ → ℕ} {tup tup' : ℕ → ℕ → Tuple} → ((b i : ℕ) → i < count b → tup' b i ≡ tup b i) → Placed own count tup → Placed own count tup'
placed_same f P = record { inside = λ b c h i o l. rw (f b i l) (P.inside b c h i o l) }

pub placed_less : {own own' : ℕ → Owner} {count count' : ℕ → ℕ} {tup : ℕ → ℕ → Tuple} → ((b c h i : ℕ) → own' b ≡ in_chain c h → i < count' b → (own b ≡ in_chain c h) × (i < count b)) → Placed own count tup → Placed own' count' tup
placed_less f P = record { inside = λ b c h i o l. let u = f b c h i o l in P.inside b c h i u.0 u.1 }

-- ---- the clock
pub sum_one : (n l : ℕ) → l < n → (f f' : ℕ → ℕ) → ((i : ℕ) → i ≢ l → f' i ≡ f i) → sum_below n f' + f l ≡ sum_below n f + f' l
unfolding sum_below
sum_one zero l l< f f' e = absurd (omega arith)
sum_one (suc n) l l< f f' e = at_or l n
    (λ q. let w : sum_below n f' ≡ sum_below n f = sum_same n n f f' (λ i i<. e i (omega arith)) (omega arith) in rw q (omega arith))
    (λ q. let w = sum_one n l (omega arith) f f' e in let v = e n (λ z. q (sym z)) in omega arith)
  where
    sum_same : (m n : ℕ) (f f' : ℕ → ℕ) → ((i : ℕ) → i < n → f' i ≡ f i) → m ≤ n → sum_below m f' ≡ sum_below m f
    sum_same zero n f f' e h = refl
    sum_same (suc m) n f f' e h = let w = sum_same m n f f' e (omega arith) in let v = e m (omega arith) in omega arith

pub ticks_step : {l : ℕ} {lanes : ℕ → Updater} {clock clock' : ℕ} (a' : Updater) → l < 8 → clock' + draws a'.stage ≤ clock + draws (lanes l).stage → Ticks clock lanes → Ticks clock' (upd lanes l a')
ticks_step {l} {lanes} {clock} {clock'} a' l< h K = record {
  left =
      let w = sum_one 8 l l< (λ i. draws (lanes i).stage) (λ i. draws (upd lanes l a' i).stage) (λ i n. rw (upd_other lanes l a' i n)) in
      let v : draws (upd lanes l a' l).stage ≡ draws a'.stage = rw (upd_same lanes l a') in
      let k = K.left in
      omega arith;
}

-- ---- lanes
module _ {l : ℕ} {lanes : ℕ → Updater} (s : Stage) (l< : l < 8) where
  pub lanes_step : {known : ℕ → Bool} → (lanes l).stage ≢ Idle → Lanes known lanes → Lanes known (upd lanes l (to (lanes l) s))
  lanes_step n K = record {
    fine = λ j j<. at_or j l
        (λ q. rw (q, upd_same lanes l (to (lanes l) s)) (λ _. K.fine l l< n))
        (λ q. rw (upd_other lanes l (to (lanes l) s) j q) (K.fine j j<));
  }

  pub filled_step : {own own' : ℕ → Owner} {count count' cell_lock cellLock' : ℕ → ℕ}
      → ((b c h : ℕ) → own' b ≡ in_chain c h → ((0 < count' b) ⊎ (T (filling s) × (cl (goal (lanes l)) s ≡ c))) ⊎ ((own b ≡ in_chain c h) × (count b ≡ count' b) × (T (filling (lanes l).stage) → cl (goal (lanes l)) (lanes l).stage ≢ c)))
      → Filled own count cell_lock lanes → Filled own' count' cellLock' (upd lanes l (to (lanes l) s))
  filled_step f F = record {
    filled = λ b c h o. ⊎_elim
        (λ t. ⊎_elim (λ lt. inl lt) (λ (u : T (filling s) × (cl (goal (lanes l)) s ≡ c)). inr (l, l<, rw (upd_same lanes l (to (lanes l) s)) u.0, rw (upd_same lanes l (to (lanes l) s)) u.1)) t)
        (λ (t : (_ ≡ in_chain c h) × (_ ≡ _) × (T (filling (lanes l).stage) → cl (goal (lanes l)) (lanes l).stage ≢ c)). ⊎_elim
        (λ lt. inl (rw (← t.1) lt))
        (λ (u : (l : ℕ) × (l < 8) × T (filling (lanes l).stage) × (cl (goal (lanes l)) (lanes l).stage ≡ c)). at_or u.0 l
        (λ q. absurd (t.2 (rw q at u.2) (rw q at u.3)))
        (λ q. inr (u.0, u.1, rw (upd_other lanes l (to (lanes l) s) u.0 q) u.2, rw (upd_other lanes l (to (lanes l) s) u.0 q) u.3)))
        (F.filled b c h t.0))
        (f b c h o);
  }

  -- buckets and counts stay, and the lane was not about to write
  pub filled_quiet : {own : ℕ → Owner} {count cell_lock cellLock' : ℕ → ℕ} → (T (filling (lanes l).stage) → ⊥) → Filled own count cell_lock lanes → Filled own count cellLock' (upd lanes l (to (lanes l) s))
  filled_quiet n = filled_step (λ b c h o. inr (o, refl, λ t. absurd (n t)))

  pub back_step : {own own' : ℕ → Owner}
      → ((b l' c h : ℕ) → own' b ≡ unlinked l' c h → ((l' ≢ l) × (own b ≡ unlinked l' c h)) ⊎ ((l' ≡ l) × (b < 512) × ((p : Place) × (m : ℕ) × (s ≡ ReturnBucket p m b))))
      → Back own lanes → Back own' (upd lanes l (to (lanes l) s))
  back_step f B = record {
    lane = λ b l' c h o. ⊎_elim
        (λ (t : (l' ≢ l) × (_ ≡ unlinked l' c h)). rw (upd_other lanes l (to (lanes l) s) l' t.0) (B.lane b l' c h t.1))
        (λ (t : (l' ≡ l) × (b < 512) × ((p : Place) × (m : ℕ) × (s ≡ ReturnBucket p m b))). (t.1, rw t.0 l<, rw (t.0, upd_same lanes l (to (lanes l) s)) t.2))
        (f b l' c h o);
  }

  pub back_quiet : {own : ℕ → Owner} → ((p : Place) (m b : ℕ) → (lanes l).stage ≢ ReturnBucket p m b) → Back own lanes → Back own (upd lanes l (to (lanes l) s))
  back_quiet n B = back_step (λ b l' c h o. inl ((λ q. let t = B.lane b l' c h o in n _ _ b (ap (λ (z : ℕ). (lanes z).stage) (sym q) ∙ t.2.2)), o)) B
