-- A rewind over variable tables and lanes: of the lanes only whether all are idle is looked at.
use mathlib.Core.Path.{◌≡◌, refl, sym, ap, ◌∙◌}
use mathlib.Core.Bool.{Bool, true, false, not, ◌&&◌}
use mathlib.Core.List.{List}
use Prim.Native.Nat.{ℕ}
use lib.Dec.{eqb}
use lib.ListN.{replicate}
use mir.Val.{bool_byte}
use Rattle.std.specs.Prelude.{Result, Ok, Err}
use Rattle.tables.specs.Tables.{Tables}
use Rattle.calls.specs.Call.{After, after, after_of, unless}
use Rattle.calls.specs.Refusals.{call_number, told_call}
use Rattle.calls.specs.declared.refusal.Refusal.{Refusal}
use Rattle.stage.specs.declared.Updater.{Updater}
use Rattle.query.specs.declared.Query.{Query}
use Rattle.stage.specs.Turn.{is_idle}
use Rattle.queries.specs.Query.{is_idle as isIdleQuery, idle_queries}
use Rattle.rest.specs.Rest.{all_below, updaters_idle, queries_idle, is_at_rest}
use Rattle.rewind.specs.Rewind.{rewind_tables}
use Rattle.codes.specs.Rest.{stages_to, scans_to, updaters_in, queries_in}
use Rattle.codes.proofs.Rest.{rest_told}
use Rattle.gurtheddu.specs.Coded.{rewind_deck}

-- of the lanes only this is looked at
by_rest : (t : Tables) (us us' : List Updater) (qs qs' : List Query) → is_at_rest us qs ≡ is_at_rest us' qs'
    → rewind_tables t us qs ≡ rewind_tables t us' qs'
unfolding rewind_tables
by_rest t us us' qs qs' e = rw e

-- eight lanes alike, and no query
eight : (u : Updater) (b : Bool) → is_idle u.stage ≡ b → is_at_rest (replicate 8 u) idle_queries ≡ b
unfolding is_at_rest updaters_idle queries_idle all_below isIdleQuery idle_queries
eight u true e = rw e
eight u false e = rw e

-- the number of whether a lane is not idle is 0 if all are idle
resting : (r b : Bool) (m : ℕ) → m ≡ bool_byte b → b ≡ not r → eqb m 0 ≡ r
resting true b m e f = rw (e, f)
resting false b m e f = rw (e, f)

-- the number that its Result tells
pub told_unit : (r : Result (Unit {0}) Refusal) (t : Tables) → told_call tt r t ≡ after_of (call_number r) t tt
told_unit (Ok x) t = refl
told_unit (Err e) t = refl

-- what a rewind does with eight updates alike, which are idle exactly if all lanes are
pub rewind_as : (t : Tables) (us qs : List ℕ) → true ≡ stages_to us 14 → true ≡ scans_to qs 3
    → {b : Bool} → b ≡ not (stages_to us 0 && scans_to qs 0) → {m : ℕ} → m ≡ bool_byte b
    → (u : Updater) → is_idle u.stage ≡ eqb m 0 → (ws : List Query) → ws ≡ idle_queries
    → {a : After (Unit {0})} → after t tt (rewind_tables t (replicate 8 u) ws) ≡ a
    → after t tt (rewind_deck t us qs) ≡ a
unfolding rewind_deck unless
rewind_as t us qs e f {b} h {m} k u i ws w d =
    let idle : is_idle u.stage ≡ (stages_to us 0 && scans_to qs 0) = i ∙ resting _ b m k h in
    let same : is_at_rest (updaters_in us) (queries_in qs) ≡ is_at_rest (replicate 8 u) ws =
    rest_told us qs (sym e) (sym f) ∙ sym (rw w (eight u (stages_to us 0 && scans_to qs 0) idle)) in
    rw (← e, ← f) (ap (after t tt) (by_rest t (updaters_in us) (replicate 8 u) (queries_in qs) ws same) ∙ d)
