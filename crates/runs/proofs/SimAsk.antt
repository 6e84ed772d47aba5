-- The start of a query: the invariant holds at a later clock, and the query stands in no bucket.
use mathlib.Core.Path.{◌≡◌, refl, sym, ap, ◌∙◌}
use mathlib.Core.Bool.{true}
use Rattle.std.specs.Prelude.{None}
use mathlib.Core.List.{List}
use Prim.Native.Nat.{ℕ, ◌+◌, ◌<◌, ◌≤◌}
use native.Mathlib.Omega.{arith}
use lib.Dec.{ltb}
use lib.ListN.{get_or, set, length-set}
use borrow.Author.Tests.{ltb-true}
use Rattle.base.proofs.Table.{at_or, clash, upd_same, upd_other}
use Rattle.base.specs.Table.{upd}
use Rattle.layout.specs.Question.{corners_on, ordered}
use Rattle.regions.specs.Region.{right_radius}
use Rattle.regions.specs.declared.region.Region.{Region}
use Rattle.query.specs.declared.Scan.{Scan}
use Rattle.query.specs.declared.Scan.TheVariants.{Idle as IdleQuery, Enter, Read, Finished}
use Rattle.query.specs.declared.Query.{Query}
use Rattle.tables.specs.Tables.{Tables, with_clock, right_lengths}
use Rattle.calls.specs.Call.{answered}
use Rattle.queries.specs.Query.{idle_query, is_idle as isIdleQuery, begun, query_start}
use Rattle.grid.specs.Run.{Grid, grid_of}
use Rattle.machine.specs.Store.{StoreOps, Store}
use Rattle.machine.specs.Machine.{St, Scanner, with_clock as withClockM}
use Rattle.tuples.proofs.Inv.{Ghost, Inv}
use Rattle.runs.proofs.Sizes.{lengths_clock}
use Rattle.runs.proofs.View.{view, Shape, scanner_f}
use Rattle.tuples.proofs.Main.{draws_16}
use Rattle.runs.proofs.SameBut.{other_queries}
use Rattle.runs.proofs.SimStart.{unless_answered, answered-one, moved_to}
use Rattle.runs.proofs.SimSteps.{queries_set}

-- The invariant at a later clock, while that leaves room for every draw.
pub later_clock : {O : StoreOps} {S : Store O} {gh : Ghost} {d : St} (n : ℕ) → Inv S gh d → d.clock ≤ n → n ≤ 2147483600 → Inv S gh (withClockM d n)
later_clock {d = d} n I le early =
    record {
      links = I.links;
      full = I.full;
      stored = I.stored;
      slots = I.slots;
      fits = I.fits;
      free = I.free;
      ok = I.ok;
      ranks = I.ranks;
      ticks = record { left = omega (arith, draws_16 d.lanes) };
      young = record { range = I.young.range; young = λ b i t. omega (arith, I.young.young b i t); heard = I.young.heard };
      loose = I.loose;
      bounded = I.bounded;
      reading = I.reading;
      placed = I.placed;
      written = I.written;
      lanes = I.lanes;
      cells = I.cells;
      objs = I.objs;
      filled = I.filled;
      back = I.back;
    }

-- a query that is to enter a cell stands in no bucket, nor does an idle one
entering_outside : (c : ℕ) → (scanner_f (Enter c)).bucket ≡ None
unfolding scanner_f
entering_outside c = refl

idle_outside : (s : Scan) → isIdleQuery s ≡ true → (scanner_f s).bucket ≡ None
unfolding isIdleQuery scanner_f
idle_outside IdleQuery e = refl
idle_outside (Enter c) e = clash (cc)
idle_outside (Read c s) e = clash (cc)
idle_outside Finished e = clash (cc)

-- what a start leaves has the right shape, and the invariant holds of it
abbrev pub QueryBegins : {O : StoreOps} → Store O → Ghost → Grid → Tables → List Query → Type 0
QueryBegins S gh g t' qs' = Shape (grid_of t' g.updaters qs') × Inv S gh (view (grid_of t' g.updaters qs'))

-- the grid that a start leaves
query_begun : {O : StoreOps} {S : Store O} {gh : Ghost} (g : Grid) (l : ℕ) (v : Query) → Shape g → Inv S gh (view g) → l < 4 → (scanner_f (get_or g.queries l idle_query).stage).bucket ≡ None → (scanner_f v.stage).bucket ≡ None → g.tables.clock < 2147483600
    → QueryBegins S gh g (with_clock g.tables (g.tables.clock + 1)) (set g.queries l v)
unfolding view
query_begun g l v Z I l< was is early =
    let qs = (view g).queries in (
      record { lengths = lengths_clock g.tables Z.lengths (g.tables.clock + 1); updaters = Z.updaters; queries = length-set g.queries l v ∙ Z.queries; index = Z.index; coded = Z.coded },
      rw (queries_set g.queries l v (omega (arith, Z.queries))) (other_queries (later_clock (g.tables.clock + 1) I (omega arith) (omega arith)) (upd qs l (scanner_f v.stage))
          (λ j. at_or j l
          (λ z. rw (z, upd_same qs l (scanner_f v.stage)) (is ∙ sym was))
          (λ n. ap (λ (s : Scanner). s.bucket) (upd_other qs l (scanner_f v.stage) j n)))
          (λ j b. at_or j l
          (λ z. rw z (λ e. clash (cc)))
          (λ n e. upd_other qs l (scanner_f v.stage) j n))),
    )

-- An accepted start of a query keeps the shape and the invariant: it draws a stamp, and the query stands in no bucket yet.
pub query_begins : {O : StoreOps} {S : Store O} {gh : Ghost} (g : Grid) → Shape g → Inv S gh (view g) → (l : ℕ) (u : Region) (t' : Tables) (qs' : List Query)
    → query_start g.tables g.queries l u ≡ answered 0 t' qs' → QueryBegins S gh g t' qs'
unfolding query_start
query_begins {S = S} {gh = gh} g Z I l u t' qs' h =
    let t = g.tables in
    let h1 = unless_answered (right_lengths t) 12 _ h in
    let h2 = unless_answered (ltb l 4) 1 _ h1.1 in
    let h3 = unless_answered (isIdleQuery (get_or g.queries l idle_query).stage) 2 _ h2.1 in
    let h4 = unless_answered (corners_on u.area) 5 _ h3.1 in
    let h5 = unless_answered (ordered u.area) 6 _ h4.1 in
    let hr = unless_answered (right_radius u) 32 _ h5.1 in
    let h6 = unless_answered (ltb t.clock 2147483600) 8 _ hr.1 in
    let h7 = answered-one h6.1 in
    moved_to (QueryBegins S gh g) h7.0 h7.1
    (query_begun g l (begun u (t.clock + 1)) Z I (ltb-true l 4 h2.0) (idle_outside _ h3.0) (entering_outside _) (ltb-true _ _ h6.0))
