-- Which lane an accepted start or clearing leaves in the numbers, known before the call; and a run of no step, which
-- changes nothing.
use mathlib.Core.Path.{◌≡◌, sym, ◌∙◌}
use mathlib.Core.Logic.{◌≢◌}
use mathlib.Core.Bool.{true}
use mathlib.Core.List.{List}
use Prim.Native.Nat.{ℕ, ◌+◌, ◌<◌, ◌≤◌}
use lib.Dec.{eqb}
use borrow.Author.Tests.{lt-ltb, le-leb, eq-eqb}
use Rattle.base.specs.Outcome.{pick}
use Rattle.regions.specs.Region.{first_visit}
use Rattle.regions.specs.declared.region.Region.{Region}
use Rattle.layout.specs.declared.question.Question.{Question as Rectangle}
use Rattle.layout.specs.declared.question.Visit.{Visit}
use Rattle.stage.specs.Turn.{is_idle}
use Rattle.stage.specs.declared.Updater.{Updater}
use Rattle.tables.specs.Tables.{Tables}
use Rattle.query.specs.Scan.{query_of}
use Rattle.query.specs.declared.Scan.TheVariants.{Enter}
use Rattle.query.specs.declared.Query.{Query}
use Rattle.calls.specs.Call.{after, after_of, unless}
use Rattle.calls.specs.Run.{ran_of}
use Rattle.updates.specs.One.{start_one}
use Rattle.queries.specs.Query.{begun, is_idle as is_idle_query}
use Rattle.queries.specs.One.{start_one as start_query}
use Rattle.collect.specs.Collect.{idled}
use Rattle.collect.specs.One.{clear_one}
use Rattle.codes.specs.Updaters.{stage_in, updater_in, with_updater, started_updater}
use Rattle.codes.specs.Queries.{asked_by, scan_in, names_query, query_in, with_query}
use Rattle.codes.proofs.Updaters.{lane_seen}
use Rattle.codes.proofs.Queries.{named_parts, lane_seen as query_seen}
use Rattle.gurtheddu.proofs.Ends.{start_away, start_done}
use Rattle.gurtheddu.proofs.OfUpdates.{alike, starting as starting_update}
use Rattle.gurtheddu.proofs.OfQueries.{alike as alike_query, starting as starting_query, clearing}
use Rattle.gurtheddu.specs.Coded.{start_update, run_update, start_sweep, run_sweep, clear_lane}

-- ---- a start of an update

-- whatever idle update p stands in the lane
pub start_update_accepted : (t : Tables) (ns : List ℕ) (l k x y m : ℕ) → l < 8 → stage_in ns l ≤ 14
    → (p : Updater) → is_idle p.stage ≡ eqb (stage_in ns l) 0
    → (n : ℕ) (t' : Tables) (v : Updater) → after t p (start_one t l p k x y m) ≡ after_of n t' v → n ≡ 0
    → (ns' : List ℕ) → ns' ≡ with_updater ns l (started_updater k x y m)
    → after t ns (start_update t ns l k x y m) ≡ after_of 0 t' ns'
unfolding start_update unless
start_update_accepted t ns l k x y m l< g p ip n t' v e i ns' h =
    let w = started_updater k x y m in
    rw (
      lt-ltb l 8 l<,
      le-leb (stage_in ns l) 14 g,
      alike t ns l k x y m (updater_in ns l) p (lane_seen ns l g ∙ sym ip),
      h,
    )
    (start_done w (with_updater ns l) t p ns _ (starting_update t l p k x y m) n t' v e i).0

pub start_update_refused : (t : Tables) (ns : List ℕ) (l k x y m : ℕ) → l < 8 → stage_in ns l ≤ 14
    → (p : Updater) → is_idle p.stage ≡ eqb (stage_in ns l) 0
    → (n : ℕ) (t' : Tables) (v : Updater) → after t p (start_one t l p k x y m) ≡ after_of n t' v → n ≢ 0
    → after t ns (start_update t ns l k x y m) ≡ after_of n t' ns
unfolding start_update unless
start_update_refused t ns l k x y m l< g p ip n t' v e i =
    let w = started_updater k x y m in
    rw (
      lt-ltb l 8 l<,
      le-leb (stage_in ns l) 14 g,
      alike t ns l k x y m (updater_in ns l) p (lane_seen ns l g ∙ sym ip),
    )
    (start_away w (with_updater ns l) t p ns _ (starting_update t l p k x y m) n t' v e i)

-- ---- a start of a query

-- the stamp is read off the lane, the cell is the first of the walk
pub start_query_accepted : (t : Tables) (ns : List ℕ) (l k : ℕ) (a : Rectangle) (r : ℕ) → l < 4 → names_query ns l ≡ true
    → k ≤ 2 → (u : Region) → u ≡ asked_by k a r → (p : Query) → is_idle_query p.stage ≡ eqb (scan_in ns l) 0
    → (n : ℕ) (t' : Tables) (v : Query) → after t p (start_query t l p u) ≡ after_of n t' v → n ≡ 0
    → (c : Visit) → c ≡ first_visit u
    → (ns' : List ℕ) → ns' ≡ with_query ns l (query_of u v.stamp 0 0 (Enter c.cell))
    → after t ns (start_sweep t ns l k a r) ≡ after_of 0 t' ns'
unfolding start_sweep unless
start_query_accepted t ns l k a r l< g k≤ u eu p ip n t' v e i c ec ns' h =
    let d = start_done (begun u (t.clock + 1)) (with_query ns l) t p ns _ (starting_query t l p u) n t' v e i in
    let b : query_of u v.stamp 0 0 (Enter c.cell) ≡ begun u (t.clock + 1) =
    λ j. query_of u (d.1 j).stamp 0 0 (Enter (ec j).cell) in
    rw (
      lt-ltb l 4 l<,
      g,
      le-leb k 2 k≤,
      ← eu,
      alike_query t l (query_in ns l) p u (query_seen ns l (named_parts ns l g).0 ∙ sym ip),
      h,
      b,
    ) d.0

pub start_query_refused : (t : Tables) (ns : List ℕ) (l k : ℕ) (a : Rectangle) (r : ℕ) → l < 4 → names_query ns l ≡ true
    → k ≤ 2 → (u : Region) → u ≡ asked_by k a r → (p : Query) → is_idle_query p.stage ≡ eqb (scan_in ns l) 0
    → (n : ℕ) (t' : Tables) (v : Query) → after t p (start_query t l p u) ≡ after_of n t' v → n ≢ 0
    → after t ns (start_sweep t ns l k a r) ≡ after_of n t' ns
unfolding start_sweep unless
start_query_refused t ns l k a r l< g k≤ u eu p ip n t' v e i =
    rw (
      lt-ltb l 4 l<,
      g,
      le-leb k 2 k≤,
      ← eu,
      alike_query t l (query_in ns l) p u (query_seen ns l (named_parts ns l g).0 ∙ sym ip),
    )
    (start_away (begun u (t.clock + 1)) (with_query ns l) t p ns _ (starting_query t l p u) n t' v e i)

-- ---- a clearing

-- the lane is idled
pub clear_done : (t : Tables) (ns : List ℕ) (l : ℕ) → l < 4 → names_query ns l ≡ true → (q : Query) → q ≡ query_in ns l
    → (n : ℕ) (t' : Tables) (v : Query) → after t q (clear_one t l q) ≡ after_of n t' v → n ≡ 0
    → (ns' : List ℕ) → ns' ≡ with_query ns l (idled (query_in ns l))
    → after t ns (clear_lane t ns l) ≡ after_of 0 t' ns'
unfolding clear_lane unless
clear_done t ns l l< g q eq n t' v e z ns' h =
    let d = start_done (idled q) (with_query ns l) t q ns _ (clearing t l q) n t' v e z in
    rw (lt-ltb l 4 l<, g, h, ← eq) d.0

pub clear_refused : (t : Tables) (ns : List ℕ) (l : ℕ) → l < 4 → names_query ns l ≡ true → (q : Query) → q ≡ query_in ns l
    → (n : ℕ) (t' : Tables) (v : Query) → after t q (clear_one t l q) ≡ after_of n t' v → n ≢ 0
    → after t ns (clear_lane t ns l) ≡ after_of n t' ns
unfolding clear_lane unless
clear_refused t ns l l< g q eq n t' v e z =
    rw (lt-ltb l 4 l<, g, ← eq) (start_away (idled q) (with_query ns l) t q ns _ (clearing t l q) n t' v e z)

-- ---- a run of no step

pub run_update_none : (n l : ℕ) (t : Tables) (ns : List ℕ) → n ≡ 0 → run_update n l t ns ≡ ran_of 0 0 t ns
unfolding run_update pick
run_update_none n l t ns z = rw (eq-eqb n 0 z)

pub run_sweep_none : (n l : ℕ) (t : Tables) (ns : List ℕ) → n ≡ 0 → run_sweep n l t ns ≡ ran_of 0 0 t ns
unfolding run_sweep pick
run_sweep_none n l t ns z = rw (eq-eqb n 0 z)
