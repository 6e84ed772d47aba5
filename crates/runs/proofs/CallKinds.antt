-- Three kinds of calls beside starts and steps, and what each keeps of every grid of a run:
-- one that leaves the grid as it is (a refusal, a reading); one that idles the lane of a finished query, which the
-- machine does not tell from the old one; one on a grid at rest that changes tables alone, where no query is left to
-- be disturbed, so that the shape and the invariant are all there is to show. A grid at rest may be given other
-- times and another clock.
use mathlib.Core.Path.{◌≡◌, refl, ◌∙◌, fun_ext}
use mathlib.Core.Logic.{◌≢◌}
use mathlib.Core.List.{List}
use Prim.Native.Nat.{ℕ, ◌<◌, ◌≤◌}
use native.Mathlib.Omega.{arith}
use lib.IntN.{ℤ}
use lib.ListN.{length, get_or, set, length-set}
use lib.Seq.{get_or-set_same, get_or-set_other}
use Rattle.base.specs.Table.{at}
use Rattle.base.proofs.Table.{at_or}
use Rattle.stage.specs.declared.Updater.{Updater}
use Rattle.query.specs.declared.Scan.{Scan}
use Rattle.query.specs.declared.Scan.TheVariants.{Idle, Finished}
use Rattle.query.specs.declared.Query.{Query}
use Rattle.tables.specs.Tables.{Tables, with_times, with_clock}
use Rattle.queries.specs.Query.{idle_query}
use Rattle.collect.specs.Collect.{idled}
use Rattle.grid.specs.Run.{Grid, grid_of, Call, call}
use Rattle.machine.specs.Machine.{Scanner}
use Rattle.tuples.proofs.Atrest.{Resting, Retimed, retimed}
use Rattle.tuples.proofs.Inv.{Ghost, Inv}
use Rattle.runs.specs.Rest.{AtRest}
use Rattle.runs.specs.Sweeps.{query}
use Rattle.runs.proofs.Bucket.{store}
use Rattle.runs.proofs.Every.{Good}
use Rattle.runs.proofs.Going.{QueryOk}
use Rattle.runs.proofs.Sizes.{lengths_times, lengths_clock}
use Rattle.runs.proofs.View.{view, Knows, scanner_f, Shape}

-- ---- one that changes nothing

-- A CALL THAT LEAVES THE GRID AS IT IS, and does not give 12
pub same_good : (c : Call) (g : Grid) → (call c g).1 ≡ g → (call c g).0.number ≢ 12 → Good g
    → ((call c g).0.number ≢ 12) × Good (call c g).1
same_good c g e n G = (n, rw e G)

-- ---- one that idles a lane

-- what holds of the queries
abbrev pub Asks : Tables → List Updater → List Query → Type 0
Asks t us qs = (q : ℕ) → q < 4 → QueryOk (Knows (grid_of t us qs)) (at t.next) t.hits.oid q
    (get_or qs q idle_query) (get_or qs q idle_query).stage

-- lane l replaced: what holds of the new one and of the others holds of each
pub asks_set : (P : ℕ → Query → Type 0) (qs : List Query) (l : ℕ) (v : Query) → l < length qs → P l v
    → ((q : ℕ) → P q (get_or qs q idle_query)) → (q : ℕ) → P q (get_or (set qs l v) q idle_query)
asks_set P qs l v h own others q = at_or q l
    (λ z. rw (z, get_or-set_same qs l v idle_query h) own)
    (λ n. rw (get_or-set_other qs l q v idle_query n) (others q))

-- nothing is asked of an idle query
idle_ok : (kn : ℕ → Type 0) (nx : ℕ → ℕ) (l : List ℕ) (q : ℕ) (s : Query) → QueryOk kn nx l q s Idle
unfolding QueryOk
idle_ok kn nx l q s = tt

-- a finished one stands in no bucket, as an idle one does
stands_idle : (s : Scan) → s ≡ Finished → scanner_f Idle ≡ scanner_f s
unfolding scanner_f
stands_idle s e = rw e

-- the grid with the lane of a query idled
abbrev pub idled_grid : Grid → ℕ → Grid
idled_grid g l = grid_of g.tables g.updaters (set g.queries l (idled (query g l)))

module _ (g : Grid) (G : Good g) (l : ℕ) (l< : l < 4) (f : (query g l).stage ≡ Finished) where
  -- the machine sees the queries as before
  idled_same : ◌≡◌ {A = ℕ → Scanner} (λ q. scanner_f (query (idled_grid g l) q).stage) (λ q. scanner_f (query g q).stage)
  idled_same = fun_ext (asks_set (λ q s. scanner_f s.stage ≡ scanner_f (query g q).stage) g.queries l
      (idled (query g l))
      (omega (arith, G.shape.queries)) (stands_idle (query g l).stage f) (λ q. refl))

  pub idled_inv : Inv store G.ghost (view (idled_grid g l))
  unfolding view
  idled_inv = rw idled_same G.inv

  idled_asks : Asks g.tables g.updaters (idled_grid g l).queries
  unfolding view
  idled_asks =
      asks_set (λ q s. q < 4 → QueryOk (Knows g) (at g.tables.next) g.tables.hits.oid q s
      s.stage) g.queries l
      (idled (query g l)) (omega (arith, G.shape.queries))
      (λ _. idle_ok (Knows g) (at g.tables.next) g.tables.hits.oid l (idled (query g l)))
      G.asks

  -- A CALL THAT IDLES THE LANE OF A FINISHED QUERY
  pub idled_good : Good (idled_grid g l)
  idled_good =
      record {
        shape = record {
          lengths = G.shape.lengths;
          updaters = G.shape.updaters;
          queries = length-set g.queries l (idled (query g l)) ∙ G.shape.queries;
          index = G.shape.index;
          coded = G.shape.coded;
        };
        ghost = G.ghost;
        inv = idled_inv;
        asks = idled_asks;
      }

-- ---- one on a grid at rest

-- A CALL THAT LEAVES A GRID AT REST: its shape and its invariant are all that is to be shown.
pub rest_good : (g : Grid) → AtRest g → Shape g → (gh : Ghost) → Inv store gh (view g) → Good g
unfolding QueryOk
rest_good g R Z gh I = record { shape = Z; ghost = gh; inv = I; asks = λ q q<. rw (R.queries q q<) tt }

-- the machine is at rest too
pub resting : (g : Grid) → AtRest g → Resting (view g)
unfolding view scanner_f
resting g R = record { lanes = R.updates; queries = λ q q<. rw (R.queries q q<) }

-- ---- other times and another clock

abbrev pub retimed_grid : Grid → List ℤ → ℕ → Grid
retimed_grid g times clock = grid_of (with_clock (with_times g.tables times) clock) g.updaters g.queries

module _ (g : Grid) (R : AtRest g) (times : List ℤ) (clock : ℕ) (c≤ : clock ≤ 2147483647)
    (T : Retimed clock (view g).tup (view (retimed_grid g times clock)).tup) where
  pub retimed_inv : {gh : Ghost} → Inv store gh (view g) → Inv store gh (view (retimed_grid g times clock))
  unfolding view
  retimed_inv I = retimed I (resting g R) clock (view (retimed_grid g times clock)).tup c≤ T

  -- A GRID AT REST GIVEN OTHER TIMES AND ANOTHER CLOCK
  pub retimed_good : length times ≡ 2048 → Good g → Good (retimed_grid g times clock)
  retimed_good n G =
      let Z = G.shape in
      rest_good (retimed_grid g times clock) (record { updates = R.updates; queries = R.queries })
      (record {
        lengths = lengths_clock _ (lengths_times g.tables Z.lengths times n) clock;
        updaters = Z.updaters;
        queries = Z.queries;
        index = Z.index;
        coded = Z.coded;
      })
      G.ghost (retimed_inv G.inv)
