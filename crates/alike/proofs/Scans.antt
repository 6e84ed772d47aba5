-- Every step of a query goes alike on such tables, where its stamps are one of the pairs: entering and leaving read
-- no stamp; what is read tells both the same.
use mathlib.Core.Path.{◌≡◌, refl, sym, ap, ◌∙◌}
use mathlib.Core.Bool.{Bool, true, false, not}
use Rattle.std.specs.Prelude.{Option, None, Some}
use mathlib.Core.List.{List}
use Prim.Native.Nat.{ℕ, suc, ◌-◌, ◌*◌}
use lib.Dec.{eqb, ltb}
use lib.IntN.{ℤ, pos, negsuc}
use Rattle.base.specs.Outcome.{Outcome, need, pick}
use Rattle.base.specs.Step.{Step, lift}
use Rattle.base.specs.Table.{at}
use Rattle.base.proofs.Table.{clash}
use Rattle.regions.specs.Region.{proper, inside, visited}
use Rattle.locks.specs.Lock.{look}
use Rattle.slots.specs.Stamp.{stamp_of}
use Rattle.slots.specs.Tuple.{Tuple, slot_at, need_slot, seen, read, seen_by}
use Rattle.slots.specs.declared.tuple.Seen.{Seen}
use Rattle.slots.specs.declared.stamp.Stamp.TheVariants.{Never, Current, Deleted}
use Rattle.readers.specs.Reader.{add_reader, take_reader, leave_for}
use Rattle.readers.specs.declared.Standing.{Standing}
use Rattle.hits.specs.Hits.{Hits, Listing, look_from, enlist, note}
use Rattle.query.specs.Scan.{counted, after_cell, enter_free, enter_step, leave_last, leave_step, comparable}
use Rattle.query.specs.Scan.{consider, read_step}
use Rattle.query.specs.declared.Scan.{Scan}
use Rattle.query.specs.declared.Scan.TheVariants.{Idle, Enter, Read, Finished}
use Rattle.query.specs.declared.Query.{Query}
use Rattle.tables.specs.Tables.{Tables, with_readers, with_hits}
use Rattle.queries.specs.Scans.{scan_on}
use Rattle.calls.proofs.Meet.{Meet, both_done, left_refused, right_refused, Steps, meet_need}
use Rattle.calls.proofs.Meet.{meet_pick, meet_then, meet_same, meet_lift}
use Rattle.alike.specs.Alike.{stood, tells, retimed, stamp_at, Alike, restamped}
use Rattle.alike.proofs.Like.{stood_pos}

-- ---- noting does not look at the time

-- the same but for the time
pub record Resembles (s s' : ℕ) (v v' : Seen) : Type 0 where
  pub time : v' ≡ record { oid = v.oid; x = v.x; y = v.y; tag = v.tag; deleted = v.deleted; time = v'.time }
  pub sees : seen_by s' v' ≡ seen_by s v

enlist_same : (h : Hits) (l n a : ℕ) (v : Seen) (o : Option ℕ) → enlist h l n
    (record { oid = v.oid; x = v.x; y = v.y; tag = v.tag; deleted = v.deleted; time = a }) o ≡ enlist h l n v o
unfolding enlist
enlist_same h l n a v (Some i) = refl
enlist_same h l n a v None = refl

note_same : (h : Hits) (l n : ℕ) {s s' : ℕ} {v v' : Seen} → Resembles s s' v v' → note h l n v' ≡ note h l n v
unfolding note
note_same h l n {v = v} {v' = v'} R = ap (note h l n) R.time ∙ ap (need (lib.Dec.leb n 256))
    (enlist_same h l n v'.time v (look_from h.oid v.oid n (256 * l)))

-- ---- a tuple read in both

module _ (k x y m s s' : ℕ) where
  abbrev tuple_of : ℤ → Tuple
  tuple_of z = record { oid = k; x = x; y = y; tag = m; time = z }

  current_both : (z z' : ℤ) (a b : Bool) (n n' : ℕ) → Meet (Resembles s s')
      (seen (tuple_of z) (pick a Never (Current n))) (seen (tuple_of z') (pick b Never (Current n')))
  unfolding seen pick seen_by
  current_both z z' true b n n' = left_refused
  current_both z z' false true n n' = right_refused
  current_both z z' false false n n' = both_done (record { time = refl; sees = refl })

  deleted_both : (z z' : ℤ) (a b : Bool) (n n' : ℕ) → ltb s' n' ≡ ltb s n → Meet (Resembles s s')
      (seen (tuple_of z) (pick a Never (Deleted n))) (seen (tuple_of z') (pick b Never (Deleted n')))
  unfolding seen pick seen_by
  deleted_both z z' true b n n' e = left_refused
  deleted_both z z' false true n n' e = right_refused
  deleted_both z z' false false n n' e = both_done (record { time = refl; sees = e })

  seen_both : (z z' : ℤ) → stood z' ≡ stood z → tells s' z' ≡ tells s z → Meet (Resembles s s')
      (seen (tuple_of z) (stamp_of z)) (seen (tuple_of z') (stamp_of z'))
  unfolding stamp_of tells
  seen_both (pos n) (pos m) e f = current_both (pos n) (pos m) (eqb n 0) (eqb m 0) n m
  seen_both (pos n) (negsuc m) e f = clash (let w : true ≡ false = e ∙ stood_pos n in cc)
  seen_both (negsuc n) (pos m) e f = clash (let w : false ≡ true = sym (stood_pos m) ∙ e in cc)
  seen_both (negsuc n) (negsuc m) e f = deleted_both (negsuc n) (negsuc m) (eqb n 2147483647) (eqb m 2147483647)
      (suc n) (suc m) f

module _ (O : ℕ → ℕ → Type 0) (t : Tables) (ts : List ℤ) (c : ℕ) (A : Alike O t (retimed t ts c)) (l : ℕ) (q : Query)
    (s' : ℕ) where
  abbrev t' : Tables
  t' = retimed t ts c

  abbrev q' : Query
  q' = restamped q s'

  abbrev Next : Query → Query → Type 0
  Next a b = (b ≡ restamped a s') × (a.stamp ≡ q.stamp)

  abbrev Goes : Outcome (Step Query Tables) → Outcome (Step Query Tables) → Type 0
  Goes x y = Meet (Steps Next (Alike O)) x y

  same : (T : Tables) → T.tuples.time ≡ t.tuples.time → T.clock ≡ t.clock → Alike O T (retimed T ts c)
  same T e k = record {
    rest = refl;
    long = (
      ap (λ (x : List ℤ). lib.ListN.length x) e
          ∙ A.long.0,
      A.long.1,
    );
    times = λ i. rw e (A.times i);
    bound = rw k A.bound;
    clock = rw k A.clock;
  }

  abbrev Lists : List ℕ → List ℕ → Type 0
  Lists a b = a ≡ b

  frees : (cell : ℕ) → Meet (Steps Next Lists) (enter_free t.first t.count t.readers q cell)
      (enter_free t.first t.count t.readers q' cell)
  unfolding enter_free counted
  frees cell =
      meet_need (ltb q.steps 4294967295) (ltb q.steps 4294967295) (meet_need (ltb cell 256) (ltb cell 256)
      (meet_pick (eqb (at t.first cell) 512)
      (meet_then (meet_same (after_cell q.question cell))
      (λ a b e. rw (← e) (both_done (record { number = refl; next = (refl, refl); tables = refl }))))
      (meet_then (meet_same (add_reader t.count t.readers (at t.first cell)))
      (λ a b e. rw (← e) (both_done (record { number = refl; next = (refl, refl); tables = refl }))))))

  enters : (cell : ℕ) → Goes (scan_on t l q (Enter cell)) (scan_on t' l q' (Enter cell))
  unfolding scan_on enter_step
  enters cell = meet_lift {N = Next} {Q = Lists} {R = Alike O} (with_readers t) (with_readers t')
      (λ a b e. rw (← e) (same (with_readers t a) refl refl))
      (meet_need (visited q.question cell) (visited q.question cell)
      (meet_then (meet_same (look t.cells cell)) (λ a b e. frees cell)))

  leaves_last : (cell b : ℕ) → Meet (Steps Next Lists) (leave_last t.readers q cell b)
      (leave_last t.readers q' cell b)
  unfolding leave_last
  leaves_last cell b =
      meet_then (meet_same (take_reader t.readers b))
      (λ x y e. meet_then (meet_same (after_cell q.question cell))
      (λ v w f. rw (← e, ← f) (both_done (record { number = refl; next = (refl, refl); tables = refl }))))

  leaves : (cell b : ℕ) → Goes (lift (with_readers t) (leave_step t.next t.count t.readers q cell b))
      (lift (with_readers t') (leave_step t.next t.count t.readers q' cell b))
  unfolding leave_step counted
  leaves cell b = meet_lift {N = Next} {Q = Lists} {R = Alike O} (with_readers t) (with_readers t')
      (λ x y e. rw (← e) (same (with_readers t x) refl refl))
      (meet_need (ltb q.steps 4294967295) (ltb q.steps 4294967295) (meet_need (ltb b 512) (ltb b 512)
      (meet_pick (eqb (at t.next b) 512) (leaves_last cell b)
      (meet_then (meet_same (leave_for t.count t.readers b (at t.next b)))
      (λ x y e. rw (← e) (both_done (record { number = refl; next = (refl, refl); tables = refl })))))))

  module _ (pair : O q.stamp s') where
    reads_slot : (b i : ℕ) → Meet (Resembles q.stamp s') (read t.tuples b i) (read t'.tuples b i)
    unfolding read need_slot
    reads_slot b i =
        let L = A.times (slot_at b i) in
        meet_need (ltb b 512) (ltb b 512) (meet_need (ltb i 4) (ltb i 4)
        (seen_both (at t.tuples.oid (slot_at b i)) (at t.tuples.x (slot_at b i))
        (at t.tuples.y (slot_at b i)) (at t.tuples.tag (slot_at b i)) q.stamp s'
        (stamp_at t.tuples.time (slot_at b i)) (stamp_at ts (slot_at b i)) L.stood (L.tells q.stamp s' pair)))

    considers : (v v' : Seen) → Resembles q.stamp s' v v' → Meet (λ (a b : Listing). a ≡ b)
        (consider t.hits l q v) (consider t.hits l q' v')
    unfolding consider
    considers v v' R =
        let e : inside q.question v'.x v'.y ≡ inside q.question v.x v.y = ap
        (λ (w : Seen). inside q.question w.x w.y) R.time in
        rw (e, R.sees, note_same t.hits l q.hits R)
        (meet_pick (inside q.question v.x v.y)
        (meet_need (comparable q.stamp v) (comparable s' v')
        (meet_pick (seen_by q.stamp v) (meet_same (note t.hits l q.hits v)) (both_done refl)))
        (both_done refl))

    reads : (cell : ℕ) (w : Standing) → Goes (lift (with_hits t) (read_step t.tuples t.hits l q cell w))
        (lift (with_hits t') (read_step t'.tuples t.hits l q' cell w))
    unfolding read_step counted
    reads cell w = meet_lift {N = Next} {Q = λ (a b : Hits). a ≡ b} {R = Alike O} (with_hits t) (with_hits t')
        (λ a b e. rw (← e) (same (with_hits t a) refl refl))
        (meet_need (ltb q.steps 4294967295) (ltb q.steps 4294967295)
        (meet_need (proper q.question) (proper q.question)
        (meet_need (not (eqb w.left 0)) (not (eqb w.left 0))
        (meet_then (reads_slot w.bucket (w.left - 1)) (λ v v' R.
        meet_then (considers v v' R) (λ a b e. rw (← e)
        (both_done (record { number = refl; next = (refl, refl); tables = refl }))))))))

    -- every step of a query
    pub scan_alike : (a : Scan) → Goes (scan_on t l q a) (scan_on t' l q' a)
    unfolding scan_on
    scan_alike Idle = left_refused
    scan_alike (Enter cell) = enters cell
    scan_alike (Read cell w) = meet_pick (eqb w.left 0) (leaves cell w.bucket) (reads cell w)
    scan_alike Finished = left_refused
