-- EVERY LIST OF CALLS: what holds of the grid and its past holds at the start, and every call keeps it. By induction on the list.
use mathlib.Core.Path.{◌≡◌, refl}
use mathlib.Core.List.{List, [], ◌∷◌}
use Prim.Native.Nat.{ℕ}
use Rattle.stage.specs.declared.Stage.TheVariants.{Idle}
use Rattle.query.specs.declared.Scan.TheVariants.{Idle as IdleQuery}
use Rattle.updates.specs.Update.{idle_updater, idle_updaters}
use Rattle.queries.specs.Query.{idle_query, idle_queries}
use Rattle.grid.specs.Run.{Grid, Call, start_update, step_update, start_query, step_query, collect, read, clear, rewind, call, run, answers, empty_grid}
use Rattle.grid.proofs.Both.{read_stays}
use Rattle.runs.specs.Sweeps.{query}
use Rattle.runs.proofs.Empty.{all_same, empty_good, empty_unknown}
use Rattle.runs.proofs.Runs.{call_good}
use Rattle.runs.proofs.View.{view}
use Rattle.tuples.proofs.Fresh.{late}
use Rattle.base.proofs.Table.{clash}
use Rattle.freshness.specs.History.{Event, event_of, recall, events, past, under_way, standing}
use Rattle.freshness.proofs.CallKinds.{fresh_same}
use Rattle.freshness.proofs.Fine.{Fresh, Fine}
use Rattle.freshness.proofs.Past.{Valid}
use Rattle.freshness.proofs.Queries.{query_fresh}
use Rattle.freshness.proofs.Starting.{start_fresh, query_start_fresh, collect_fresh, clear_fresh}
use Rattle.freshness.proofs.Rewound.{rewind_fresh}
use Rattle.freshness.proofs.Stepping.{update_fresh}

-- ---- the empty grid

lane_idle : (l : ℕ) → ((view empty_grid).lanes l).stage ≡ Idle
unfolding view empty_grid idle_updaters
lane_idle l = rw (all_same 8 l idle_updater)

query_idle : (q : ℕ) → (query empty_grid q).stage ≡ IdleQuery
unfolding empty_grid idle_queries
query_idle q = rw (all_same 4 q idle_query)

pub empty_fine : Fine [] empty_grid
unfolding under_way standing late
empty_fine =
    let G = empty_good in
    record {
      good = G;
      fresh = record {
        ghost = G.ghost;
        inv = G.inv;
        now = record {
          valid = Valid.fresh;
          rest = λ l l< e. refl;
          busy = λ l l< n. absurd (n (lane_idle l));
          aims = λ l l<. record { switch = λ p e. let w = lane_idle l in clash (cc); there = λ t. absurd (rw (lane_idle l) at t); spot = λ t. absurd (rw (lane_idle l) at t) };
          stays = λ k n. absurd (n refl);
          positive = λ b c h i o lt t. absurd (empty_unknown _ (G.inv.young.heard b i (G.inv.placed.inside b c h i o lt).1));
        };
        sees = λ q q< n. absurd (n (query_idle q));
      };
    }

-- ---- one call
call_fresh : (c : Call) (g : Grid) (es : List Event) → Fine es g → Fresh (recall (event_of c (call c g).0.number) es) (call c g).1
unfolding call event_of recall
call_fresh (start_update l k x y m) g es F = start_fresh g es F.fresh l k x y m F.good.shape
call_fresh (step_update l) g es F = update_fresh g F.good es F.fresh l
call_fresh (start_query q u) g es F = query_start_fresh g F.good.shape es F.fresh q u
call_fresh (step_query q) g es F = query_fresh g F.good es F.fresh q
call_fresh (collect q n) g es F = collect_fresh g F.good es F.fresh q n
call_fresh (read q n) g es F = fresh_same es g (call (read q n) g).1 (read_stays q n g) F.fresh
call_fresh (clear q) g es F = clear_fresh g F.good es F.fresh q
call_fresh rewind g es F = rewind_fresh g es F

pub call_fine : (c : Call) (g : Grid) (es : List Event) → Fine es g → Fine (recall (event_of c (call c g).0.number) es) (call c g).1
call_fine c g es F = record { good = (call_good c g F.good).1; fresh = call_fresh c g es F }

-- every list of them
pub run_fine : (cs : List Call) (g : Grid) (es : List Event) → Fine es g → Fine (events cs (answers cs g) es) (run cs g)
unfolding run answers events
run_fine [] g es F = F
run_fine (c ∷ cs) g es F = run_fine cs (call c g).1 (recall (event_of c (call c g).0.number) es) (call_fine c g es F)

-- from the empty grid
pub every : (cs : List Call) → Fine (past cs) (run cs empty_grid)
unfolding past
every cs = run_fine cs empty_grid [] empty_fine
