-- DEMAND 3, one theorem about every list of calls from the empty grid, refused ones included, in any order: nothing is assumed.
-- By induction on the list: each call keeps what ties the past to the grid, and the claims hold of it; the bound is read off the end.
use mathlib.Core.Path.{◌≡◌, refl, subst}
use mathlib.Core.Bool.{Bool, true, false}
use Rattle.std.specs.Prelude.{None}
use mathlib.Core.List.{List, [], ◌∷◌, ◌++◌}
use Prim.Native.Nat.{ℕ, ◌≤◌}
use lib.Dec.{T}
use Rattle.base.specs.Lists.{In}
use Rattle.base.specs.Outcome.{pick}
use Rattle.base.specs.Table.{at}
use Rattle.base.proofs.Table.{by_test}
use Rattle.calls.specs.Call.{accepted_number}
use Rattle.grid.specs.Run.{Grid, Call, start_update, step_update, start_query, step_query, collect, read, clear, rewind, call, run, empty_grid}
use Rattle.runs.specs.Rest.{AtRest}
use Rattle.runs.specs.Sweeps.{query}
use Rattle.runs.proofs.Every.{Good}
use Rattle.runs.proofs.View.{view}
use Rattle.cost.specs.Account.{Event, event_of, settled, history, deed, deed_of, accepted, only_if, tally, Sweep, Bounded, AccountedOf, Accounted, AccountedFrom}
use Rattle.cost.proofs.Live.{live_bounded}
use Rattle.cost.proofs.Claims.{Claim, no_claim}
use Rattle.cost.proofs.Collected.{keep_collect, keep_read, keep_clear}
use Rattle.cost.proofs.Queries.{keep_query_start, keep_query_step}
use Rattle.cost.proofs.Rel.{Fits, All, Rel, all_at}
use Rattle.cost.proofs.Rewound.{keep_rewind}
use Rattle.cost.proofs.Settled.{before_it, rel_settled}
use Rattle.cost.proofs.Start.{empty_rel}
use Rattle.cost.proofs.Updates.{keep_update_start, keep_update_step}

-- a call of an update is neither a step of a query nor a collection
no_steps : (c : Call) (g : Grid) → ((n : ℕ) → (accepted c n).goes ≡ None) → ((n : ℕ) → (accepted c n).collects ≡ None) → ((deed (event_of c g)).goes ≡ None) × ((deed (event_of c g)).collects ≡ None)
unfolding deed pick only_if
no_steps c g a b = go (accepted_number (call c g).0.number)
  where
    go : (x : Bool) → ((pick x (accepted c (call c g).0.number) (deed_of None None None None None)).goes ≡ None) × ((pick x (accepted c (call c g).0.number) (deed_of None None None None None)).collects ≡ None)
    go true = (a _, b _)
    go false = (refl, refl)

-- one call
keep : (c : Call) (past : List Event) (g : Grid) → Rel past g → Rel (event_of c g ∷ past) (call c g).1 × Claim (event_of c g) past
keep (start_update l k x y m) past g R = (keep_update_start past g R l k x y m, let w = no_steps (start_update l k x y m) g (λ n. refl) (λ n. refl) in no_claim _ past w.0 w.1)
keep (step_update l) past g R = (keep_update_step past g R l, let w = no_steps (step_update l) g (λ n. refl) (λ n. refl) in no_claim _ past w.0 w.1)
keep (start_query l u) past g R = keep_query_start past g R l u
keep (step_query l) past g R = keep_query_step past g R l
keep (collect l n) past g R = keep_collect past g R l n
keep (read l n) past g R = keep_read past g R l n
keep (clear l) past g R = keep_clear past g R l
keep rewind past g R = (keep_rewind past g R, let w = no_steps rewind g (λ n. refl) (λ n. refl) in no_claim _ past w.0 w.1)

-- every event of a list, with what came before it
data Every : List Event → Type 0 where
  nothing_yet : Every []
  and_then : {e : Event} {past : List Event} → Claim e past → Every past → Every (e ∷ past)

every_at : (after before : List Event) (e : Event) → Every (after ++ e ∷ before) → Claim e before
every_at [] before e (and_then c w) = c
every_at (x ∷ after) before e (and_then c w) = every_at after before e w

-- what ties the past to the grid that a list of calls leaves
pub rel_run : (cs : List Call) (past : List Event) (g : Grid) → Rel past g → Rel (history cs g past) (run cs g)
unfolding history run
rel_run [] past g R = R
rel_run (c ∷ cs) past g R = rel_run cs (event_of c g ∷ past) (call c g).1 (keep c past g R).0

-- all that was claimed on the way
claims : (cs : List Call) (past : List Event) (g : Grid) → Rel past g → Every past → Every (history cs g past)
unfolding history
claims [] past g R E = E
claims (c ∷ cs) past g R E = let k = keep c past g R in claims cs (event_of c g ∷ past) (call c g).1 k.0 (and_then k.1 E)

bounds : (past : List Event) (g : Grid) → Rel past g → (s : Sweep) → Fits past g s → ((k : ℕ) → s.updates k ≤ 1) → Bounded s
bounds past g R s F h = by_test s.over
    (λ z. (F.closed z).bounded h)
    (λ z. let U = F.under z in live_bounded U.live (before_it (at g.tables.next) (query g s.lane) (query g s.lane).stage (tally past s.lane) U.busy U.unfinished (R.match s.lane U.lane)) h)

accounted_of : (cs : List Call) (before : List Event) (g₀ : Grid) → Rel before g₀ → Every before → AccountedOf (history cs g₀ before)
accounted_of cs before g₀ R₀ E₀ =
    let E = claims cs before g₀ R₀ E₀ in
    let past = history cs g₀ before in
    let g = run cs g₀ in
    let R = rel_run cs before g₀ R₀ in
    record {
      steps = λ after before e l n z d. (every_at after before e (subst Every z E)).steps l n d;
      collections = λ after before e l z d. (every_at after before e (subst Every z E)).collections l d;
      queries = λ ss ts s z h. bounds past g R s (all_at ss s ts (subst (All (Fits past g)) z R.all)) h;
    }

-- THE ACCOUNT of every list of calls from the empty grid
pub accounted : (cs : List Call) → Accounted cs
accounted cs = accounted_of cs [] empty_grid empty_rel nothing_yet

-- AND FROM ANY GOOD GRID AT REST, with a list of the objects that it knows
pub accounted_from : (g : Grid) → Good g → AtRest g → (ks : List ℕ) → ((k : ℕ) → T ((view g).known k) → In k ks) → (cs : List Call) → AccountedFrom g ks cs
unfolding deed only_if
accounted_from g G Q ks kept cs =
    accounted_of cs (settled ks ∷ []) g (rel_settled (settled ks) [] empty_grid g ks refl empty_rel G Q.updates Q.queries kept)
    (and_then (no_claim (settled ks) [] refl refl) nothing_yet)
