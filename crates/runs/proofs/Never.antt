-- A step of a query that is under way never gives 12: no cause of it holds. The machine's own step, which is never refused, says so of buckets, readers and counts;
-- what holds of the query says so of its cell, stamp, list and steps.
use mathlib.Core.Path.{◌≡◌, refl, ◌∙◌}
use mathlib.Core.Logic.{◌≢◌, ◌⊎◌, ⊎_elim}
use mathlib.Core.Bool.{Bool, true, false, not, ◌&&◌, ◌||◌}
use Rattle.std.specs.Prelude.{Option, None, Some}
use mathlib.Core.List.{List, [], ◌∷◌}
use Prim.Native.Nat.{ℕ, zero, suc, ◌+◌, ◌-◌, ◌*◌, ◌<◌, ◌≤◌}
use native.Mathlib.Omega.{arith}
use lib.Dec.{T, eqb, ltb, leb, ltb→lt, leb→le}
use lib.IntN.{ℤ, pos, negsuc, nat_abs}
use lib.ListN.{get_or, length}
use borrow.Author.Tests.{eqb-true, eqb-false, eq-eqb, ne_eqb, le-ltb, lt-leb}
use Rattle.base.specs.Outcome.{Outcome, corrupt, pick}
use Rattle.base.specs.Step.{Step}
use Rattle.base.specs.Table.{at}
use Rattle.base.proofs.Table.{at_or, clash}
use Rattle.regions.specs.Region.{visited, inside}
use Rattle.regions.proofs.Walk.{visited_below, visited_walk}
use Rattle.slots.specs.Stamp.{stamp_range}
use Rattle.slots.specs.Tuple.{tuple_in}
use Rattle.hits.specs.Hits.{Hits, look_from}
use Rattle.readers.specs.declared.Standing.{Standing}
use Rattle.query.specs.declared.Scan.TheVariants.{Enter, Read}
use Rattle.query.specs.declared.Query.{Query}
use Rattle.tables.specs.Tables.{Tables}
use Rattle.calls.specs.Causes.{Cause, broken, held, bad_stamp, first_cause}
use Rattle.calls.proofs.Numbers.{number_of}
use Rattle.queries.specs.Scans.{scan_on}
use Rattle.queries.specs.Causes.{scan_causes, scan_end, leave_causes, read_causes, is_below, magnitude, unlisted}
use Rattle.queries.proofs.Numbers.{scan_number_lem}
use Rattle.grid.specs.Run.{Grid}
use Rattle.machine.specs.Ends.{need}
use Rattle.machine.specs.Machine.{St, Out, enter_at, leave_at, read_out_at, query_step}
use Rattle.cells.proofs.Chains.{in_chain, unlinked}
use Rattle.tuples.proofs.Inv.{Numbered, numbered, Ghost, Inv}
use Rattle.tuples.proofs.Main.{ranges}
use Rattle.tuples.proofs.Walk.{keeps_walk}
use Rattle.runs.proofs.Bucket.{store}
use Rattle.runs.proofs.Deep.{stands_deep}
use Rattle.runs.specs.Sweeps.{query}
use Rattle.runs.proofs.Every.{Good}
use Rattle.runs.proofs.Going.{QueryOk}
use Rattle.hits.proofs.Look.{look_no}
use Rattle.runs.proofs.Lists.{Listed, room}
use Rattle.runs.proofs.Sim.{need_some_lem, ends_some}
use Rattle.runs.proofs.View.{view, scanner_f, tup_at}

-- a number that is not 12 comes of no refusal
pub not_refused : {S B : Type 0} (o : Outcome (Step S B)) → number_of o ≢ 12 → o ≢ corrupt
unfolding number_of
not_refused o n e = n (rw e)

-- ---- causes, one after another

module _ (cs : List Cause) (n : ℕ) where
  -- a cause of 12 that does not hold
  clear : (b : Bool) → b ≡ false → first_cause cs n ≢ 12 → first_cause (broken b ∷ cs) n ≢ 12
  unfolding first_cause pick
  clear b e h = rw e h

  -- a cause of 20: what comes after it counts where it does not hold
  passes : (b : Bool) → (b ≡ false → first_cause cs n ≢ 12) → first_cause (held b ∷ cs) n ≢ 12
  unfolding first_cause pick
  passes true h = λ z. omega arith
  passes false h = h refl

-- no cause left
none_left : (b : Bool) → first_cause [] (pick b 22 0) ≢ 12
unfolding first_cause pick
none_left true = λ z. omega arith
none_left false = λ z. omega arith

-- one of two lists of causes
either : (b : Bool) (x y : List Cause) (n : ℕ) → (b ≡ true → first_cause x n ≢ 12) → (b ≡ false → first_cause y n ≢ 12) → first_cause (pick b x y) n ≢ 12
unfolding pick
either true x y n f g = f refl
either false x y n f g = g refl

-- a test that is made only where another fails
unless_false : (a b : Bool) → (a ≡ false → b ≡ false) → (not a && b) ≡ false
unless_false true b f = refl
unless_false false b f = f refl

-- a test that fails, made after another, and after two others
second_false : (a b : Bool) → b ≡ false → (a && b) ≡ false
second_false true b e = e
second_false false b e = refl

third_false : (a b c : Bool) → c ≡ false → (a && b && c) ≡ false
third_false true true c e = e
third_false true false c e = refl
third_false false b c e = refl

not-true : (b : Bool) → b ≡ true → not b ≡ false
not-true b e = rw e

not-false : (b : Bool) → not b ≡ false → b ≡ true
not-false true e = refl
not-false false e = clash (cc)

-- ---- the machine's tests, where it is not refused

-- a bucket that a reader may be added to
pub record Open (readers count : ℕ → ℕ) (b : ℕ) : Type 0 where
  pub within : b < 512
  pub free : readers b < 4
  pub most : count b ≤ 4

module _ (d : St) where
  open_some : (b : ℕ) {r : Out} (k : Option Out) → need (ltb b 512) (need (ltb (d.readers b) 4) (need (leb (d.count b) 4) k)) ≡ Some r → Open d.readers d.count b
  open_some b k e =
      let x = need_some_lem (ltb b 512) _ e in
      let y = need_some_lem (ltb (d.readers b) 4) _ x.1 in
      let z = need_some_lem (leb (d.count b) 4) _ y.1 in
      record { within = ltb→lt _ _ x.0; free = ltb→lt _ _ y.0; most = leb→le _ _ z.0 }

  enter_some : (q c : ℕ) (r : Out) → query_step q c None d ≡ Some r → d.cell_lock c ≡ 0 → d.first c ≢ 512 → Open d.readers d.count (d.first c)
  unfolding query_step enter_at pick
  enter_some q c r e z n = open_some (d.first c) _ (rw (eq-eqb _ _ z, ne_eqb _ _ n) at e)

  leave_some : (q c b : ℕ) (r : Out) → query_step q c (Some b) d ≡ Some r → (d.queries q).left ≡ 0 → (0 < d.readers b) × (d.next b ≢ 512 → Open d.readers d.count (d.next b))
  unfolding query_step read_out_at leave_at pick
  leave_some q c b r e z =
      let x = need_some_lem (ltb 0 (d.readers b)) _ (rw z at e) in
      (ltb→lt _ _ x.0, λ n. open_some (d.next b) _ (rw (ne_eqb _ _ n) at x.1))

-- a query's step, by where it stands
walk_some : {gh : Ghost} (d : St) → Inv store gh d → (q : ℕ) → q < 4 → (c : ℕ) → c < 256 → (o : Option ℕ) → (d.queries q).bucket ≡ o → (r : Out) × (query_step q c o d ≡ Some r)
walk_some d I q q< c c< o e =
    let w = ends_some (query_step q c o d) (rw e at (keeps_walk I q q< c c<)) in
    (w.0, w.1)

-- ---- a link, a stamp and a list

-- none, or a bucket
link_fits : (n : ℕ) → (n ≢ 512 → n < 512) → n ≤ 512
link_fits n f = at_or n 512 (λ e. omega arith) (λ e. omega (arith, f e))

-- a time that is not 0, and no later than the clock, is a stamp
stamp_good : (z : ℤ) → 0 < nat_abs z → nat_abs z ≤ 2147483647 → bad_stamp z ≡ false
stamp_good (pos n) p m = ne_eqb n 0 (λ e. omega arith)
stamp_good (negsuc n) p m = ne_eqb n 2147483647 (λ e. omega arith)

-- a known object that is not listed: the list is not full
module _ {kn : ℕ → Type 0} (R : Numbered kn) (h : Hits) (o# : length h.oid ≡ 1024) (x# : length h.x ≡ 1024) (y# : length h.y ≡ 1024) (m# : length h.tag ≡ 1024) (q n : ℕ) (q< : q < 4) (L : Listed kn h.oid q n) (k : ℕ) (known : kn k) where
  not_full : (unlisted (look_from h.oid k n (256 * q)) && leb 256 n) ≡ false
  not_full = by_look (look_from h.oid k n (256 * q)) refl
    where
      by_look : (o : Option ℕ) → look_from h.oid k n (256 * q) ≡ o → (unlisted o && leb 256 n) ≡ false
      by_look None e = lt-leb 256 n (room R h o# x# y# m# q n q< L (record { oid = k; x = 0; y = 0; tag = 0; deleted = false; time = 0 }) known (λ j j<. look_no h.oid k n (256 * q) j e j<))
      by_look (Some i) e = refl

-- ---- the causes of a step, none of which holds

module _ (t : Tables) (l : ℕ) (s : Query) (c : ℕ) (few : s.steps ≤ 655616) (v : visited s.question c ≡ true) where
  steps_few : leb 4294967295 s.steps ≡ false
  steps_few = lt-leb 4294967295 s.steps (omega arith)

  enter_clear : at t.cells c ≤ 8 → (at t.cells c ≡ 0 → at t.first c ≢ 512 → Open (at t.readers) (at t.count) (at t.first c)) → at t.first c ≤ 512
      → first_cause (scan_causes t l s (Enter c)) (scan_end t s (Enter c)) ≢ 12
  unfolding scan_causes scan_end
  enter_clear k o f =
      clear _ _ _ (not-true _ v)
      (clear _ _ _ (le-ltb 8 _ k)
      (passes _ _ _ (λ z.
      let free : at t.cells c ≡ 0 = eqb-true _ _ (not-false _ z) in
      clear _ _ _ steps_few
      (clear _ _ _ (le-ltb 512 _ f)
      (clear _ _ _ (unless_false _ _ (λ e. lt-leb 4 _ (o free (eqb-false _ _ e)).free))
      (clear _ _ _ (unless_false _ _ (λ e. le-ltb 4 _ (o free (eqb-false _ _ e)).most))
      (none_left _)))))))

  module _ (b : ℕ) (b< : b < 512) where
    leave_clear : 0 < at t.readers b → at t.readers b ≤ 4 → (at t.next b ≢ 512 → Open (at t.readers) (at t.count) (at t.next b)) → (e : Bool)
        → first_cause (leave_causes t s c b) (pick e 22 0) ≢ 12
    leave_clear r> r≤ o e =
        let n = at t.next b in
        let there = not (eqb n 512) in
        let apart = not (there && eqb n b) in
        clear _ _ _ steps_few
        (clear _ _ _ (lt-leb 512 _ b<)
        (clear _ _ _ (le-ltb 512 _ (link_fits (at t.next b) (λ z. (o z).within)))
        (clear _ _ _ (unless_false _ _ (λ e. lt-leb 4 _ (o (eqb-false _ _ e)).free))
        (clear _ _ _ (unless_false _ _ (λ e. le-ltb 4 _ (o (eqb-false _ _ e)).most))
        (clear _ _ _ (second_false apart _ (ne_eqb (at t.readers b) 0 (λ z. omega arith)))
        (clear _ _ _ (second_false apart _ (le-ltb 4 _ r≤))
        (clear _ _ _ (second_false (not there) _ (not-true _ v))
        (none_left e))))))))

    read_clear : (r : ℕ) → r ≤ 4 → stamp_range s.stamp ≡ true → s.hits ≤ 256
        → bad_stamp (get_or t.tuples.time (4 * b + (r - 1)) (pos 0)) ≡ false
        → (unlisted (look_from t.hits.oid (at t.tuples.oid (4 * b + (r - 1))) s.hits (256 * l)) && leb 256 s.hits) ≡ false → (e : Bool)
        → first_cause (read_causes t l s (record { bucket = b; left = r })) (pick e 22 0) ≢ 12
    read_clear r r≤ stamped h≤ z u e =
        let i = 4 * b + (r - 1) in
        let y = get_or t.tuples.time i (pos 0) in
        let within = inside s.question (at t.tuples.x i) (at t.tuples.y i) in
        let seen = not (is_below y) || ltb s.stamp (magnitude y) in
        clear _ _ _ steps_few
        (clear _ _ _ (not-true _ (visited_walk s.question c v).0)
        (clear _ _ _ (lt-leb 512 _ b<)
        (clear _ _ _ (le-ltb 4 _ r≤)
        (clear _ _ _ z
        (clear _ _ _ (third_false within (is_below y) _ (not-true _ stamped))
        (clear _ _ _ (third_false within seen _ (le-ltb 256 _ h≤))
        (clear _ _ _ (third_false within seen _ u)
        (none_left e))))))))

-- ---- the steps of a query under way

module _ (g : Grid) (G : Good g) (q : ℕ) (q< : q < 4) where
  abbrev s : Query
  s = query g q

  abbrev t : Tables
  t = g.tables

  first≤ : (c : ℕ) → c < 256 → (view g).first c ≤ 512
  first≤ c c< = by_height (G.ghost.height c) refl
    where
      by_height : (h : ℕ) → G.ghost.height c ≡ h → (view g).first c ≤ 512
      by_height zero e = omega (arith, G.inv.links.empty c c< e)
      by_height (suc h) e = omega (arith, (G.inv.links.within _ c h (G.inv.links.top c h e)).2)

  pub enter_never : (c : ℕ) → s.stage ≡ Enter c → number_of (scan_on t q s (Enter c)) ≢ 12
  unfolding view scanner_f QueryOk
  enter_never c e =
      let Z = G.shape.lengths in
      let o = rw e at (G.asks q q<) in
      let v = o.0.visits in
      let c< : c < 256 = visited_below s.question c v in
      let w = walk_some (view g) G.inv q q< c c< None (rw e) in
      rw (scan_number_lem t q s Z (Enter c)) (enter_clear t q s c (omega (arith, o.2)) v ((ranges G.inv).cell_locks c)
      (λ z n. enter_some (view g) q c w.0 w.1 z n) (first≤ c c<))

  -- a bucket that a query stands in
  stood< : (b c h : ℕ) → (G.ghost.own b ≡ in_chain c h) ⊎ ((l : ℕ) × (G.ghost.own b ≡ unlinked l c h)) → b < 512
  stood< b c h o = ⊎_elim (λ z. (G.inv.links.within b c h z).2) (λ (z : (l : ℕ) × (G.ghost.own b ≡ unlinked l c h)). (G.inv.back.lane b z.0 c h z.1).0) o

  pub read_never : (c : ℕ) (w : Standing) → s.stage ≡ Read c w → number_of (scan_on t q s (Read c w)) ≢ 12
  unfolding view scanner_f QueryOk scan_causes scan_end
  read_never c w e =
      let Z = G.shape.lengths in
      let I = G.inv in
      let b = w.bucket in
      let r = w.left in
      let o = rw e at (G.asks q q<) in
      let v = o.0.visits in
      let at_b : ((view g).queries q).bucket ≡ Some b = rw e in
      let left : ((view g).queries q).left ≡ r = rw e in
      let k = I.reading.standing q b q< at_b in
      let b< = stood< b _ k.h k.owned in
      let few : s.steps ≤ 655616 = omega (arith, o.2 k.h (stands_deep I b _ k.h k.owned)) in
      rw (scan_number_lem t q s Z (Read c w)) (either (eqb r 0) _ _ _
      (λ z.
      let m = walk_some (view g) I q q< c (visited_below s.question c v) (Some b) at_b in
      let n = leave_some (view g) q c b m.0 m.1 (left ∙ eqb-true r 0 z) in
      leave_clear t q s c few v b b< n.0 ((ranges I).readers b) n.1 _)
      (λ z.
      let r> : r ≢ 0 = eqb-false r 0 z in
      let r≤ : r ≤ 4 = omega (arith, left, k.few) in
      let same : (view g).tup b (r - 1) ≡ tuple_in t.tuples (4 * b + (r - 1)) = tup_at t.tuples b (r - 1) (omega arith) in
      let p = k.written (r - 1) (omega (arith, left)) in
      let known : T ((view g).known (at t.tuples.oid (4 * b + (r - 1)))) = rw same at (I.young.heard b (r - 1) p) in
      let stamp : bad_stamp ((view g).tup b (r - 1)).time ≡ false = stamp_good ((view g).tup b (r - 1)).time p (I.young.range b (r - 1)) in
      read_clear t q s c few v b b< r r≤ o.0.stamped o.1.few (rw same at stamp) (not_full (numbered I.ranks) t.hits Z.hits Z.hitxs Z.hitys Z.hittags q s.hits q< o.1 _ known) _))
