-- Readings, clearings and collections keep what ties the past to the grid: a reading changes nothing, and the other two only the lane of a finished query. What an
-- accepted reading or collection hands back is the count of the last query of its lane, which has finished (CallKinds.antt).
use mathlib.Core.Path.{◌≡◌, refl, sym, ap, ◌∙◌}
use Rattle.std.specs.Prelude.{Option, None, Some}
use mathlib.Core.List.{List, [], ◌∷◌}
use Prim.Native.Nat.{ℕ}
use Rattle.base.proofs.Table.{clash}
use Rattle.query.specs.declared.Query.{Query}
use Rattle.tables.specs.Tables.{Tables}
use Rattle.calls.specs.Call.{Result, refused, answered, after}
use Rattle.collect.specs.Collect.{Handed, handed_of, read_query, clear_query, collect_query}
use Rattle.collect.proofs.Cases.{Finished, read_answered, clear_answered, collect_answered}
use Rattle.grid.specs.Run.{Grid, grid_of, Call, collect, read, clear, answer_of, call}
use Rattle.runs.specs.Sweeps.{query}
use Rattle.runs.proofs.CallKinds.{idled_grid}
use Rattle.runs.proofs.Starts.{is_finished_lem}
use Rattle.cost.specs.Account.{Event, event_of, Deed, deed, deed_of, Counted}
use Rattle.cost.proofs.Rel.{Rel}
use Rattle.cost.proofs.CallKinds.{Idles, rel_nothing, rel_same, rel_idled, counted}
use Rattle.cost.proofs.Verdict.{Verdict, no, yes, read_verdict, clear_verdict, collect_verdict, query_over, deed_refused, deed_accepted}
use Rattle.cost.proofs.Claims.{Claim, no_claim}

-- an event that is at most a list handed back is no start, no end and no step
idles : (e : Event) {c : Option ℕ} → deed e ≡ deed_of None None None None c → Idles e
idles e is = record { begins = rw is; ends = rw is; asks = rw is; goes = rw is; settles = rw is }

-- a list is handed back
one-collection : (past : List Event) (l : ℕ) (e : Event) → deed e ≡ deed_of None None None None (Some l) → Counted l e.answer.steps past → Claim e past
one-collection past l e is F = record {
  steps = λ l' n' z. let w : ◌≡◌ {A = Option (ℕ × ℕ)} None (Some (l', n')) = sym (ap (λ (d : Deed). d.goes) is) ∙ z in clash (cc);
  collections = λ l' z. let w : Some l ≡ Some l' = sym (ap (λ (d : Deed). d.collects) is) ∙ z in let a : l' ≡ l = cc in rw a F;
}

module _ (past : List Event) (g : Grid) (R : Rel past g) where
  abbrev t : Tables
  t = g.tables

  -- the steps of the query in a lane, as they are told of it
  told : (l : ℕ) → Finished t g.queries l → (k : ℕ) → k ≡ (query g l).steps → Counted l k past
  told l F k e = let O = query_over F in rw e (counted past g R l O.lane O.busy O.finished)

  -- the lane idled
  idled : (l : ℕ) → Finished t g.queries l → (e : Event) → Idles e → Rel (e ∷ past) (idled_grid g l)
  idled l F e is = let O = query_over F in rel_idled e past is g R l O.lane (is_finished_lem _ O.finished)

  module _ (l n : ℕ) where
    -- the event of a call that hands a list back, and the grid that it leaves
    abbrev handed : Call → Result Handed → Event
    handed c r = let a = after t (handed_of g.queries 0 []) r in record { call = c; answer = answer_of a.number a.lanes.steps a.lanes.part; seen = (event_of c g).seen; settles = None }

    abbrev grid_from : Result Handed → Grid
    grid_from r = let a = after t (handed_of g.queries 0 []) r in grid_of a.tables g.updaters a.lanes.queries

    -- a refused one
    none_handed : (c : Call) (k : ℕ) → deed (handed c (refused k)) ≡ deed_of None None None None None → Rel (handed c (refused k) ∷ past) (grid_from (refused k)) × Claim (handed c (refused k)) past
    unfolding after
    none_handed c k is = (rel_nothing (handed c (refused k)) past g is R, no_claim (handed c (refused k)) past (rw is) (rw is))

    collect_by : (r : Result Handed) → collect_query t g.queries l n ≡ r → Verdict r → Rel (handed (collect l n) r ∷ past) (grid_from r) × Claim (handed (collect l n) r) past
    unfolding after
    collect_by _ e (no k a) = none_handed (collect l n) k (deed_refused (handed (collect l n) (refused k)) refl a)
    collect_by _ e (yes t' h) =
        let ev = handed (collect l n) (answered 0 t' h) in
        let is : deed ev ≡ deed_of None None None None (Some l) = deed_accepted ev 0 refl refl refl in
        let C = collect_answered t g.queries l n e in
        let F = C.passed.query in
        let same : grid_of t' g.updaters h.queries ≡ idled_grid g l = rw (C.tables, C.handed) in
        (rw same (idled l F ev (idles ev is)), one-collection past l ev is (told l F h.steps (ap (λ (x : Handed). x.steps) C.handed)))

    pub keep_collect : Rel (event_of (collect l n) g ∷ past) (call (collect l n) g).1 × Claim (event_of (collect l n) g) past
    unfolding call
    keep_collect = collect_by (collect_query t g.queries l n) refl (collect_verdict t g.queries l n)

    read_by : (r : Result Handed) → read_query t g.queries l n ≡ r → Verdict r → Rel (handed (read l n) r ∷ past) (grid_from r) × Claim (handed (read l n) r) past
    unfolding after
    read_by _ e (no k a) = none_handed (read l n) k (deed_refused (handed (read l n) (refused k)) refl a)
    read_by _ e (yes t' h) =
        let ev = handed (read l n) (answered 0 t' h) in
        let is : deed ev ≡ deed_of None None None None (Some l) = deed_accepted ev 0 refl refl refl in
        let C = read_answered t g.queries l n e in
        let same : grid_of t' g.updaters h.queries ≡ g = rw (C.tables, C.handed) in
        (rw same (rel_same ev past (idles ev is) g R), one-collection past l ev is (told l C.passed.query h.steps (ap (λ (x : Handed). x.steps) C.handed)))

    pub keep_read : Rel (event_of (read l n) g ∷ past) (call (read l n) g).1 × Claim (event_of (read l n) g) past
    unfolding call
    keep_read = read_by (read_query t g.queries l n) refl (read_verdict t g.queries l n)

  module _ (l : ℕ) where
    abbrev clearing : Result (List Query) → Event
    clearing r = record { call = clear l; answer = answer_of (after t g.queries r).number 0 []; seen = (event_of (clear l) g).seen; settles = None }

    abbrev cleared_grid : Result (List Query) → Grid
    cleared_grid r = let a = after t g.queries r in grid_of a.tables g.updaters a.lanes

    clear_by : (r : Result (List Query)) → clear_query t g.queries l ≡ r → Verdict r → Rel (clearing r ∷ past) (cleared_grid r) × Claim (clearing r) past
    unfolding after
    clear_by _ e (no k a) =
        let ev = clearing (refused k) in
        let is = deed_refused ev refl a in
        (rel_nothing ev past g is R, no_claim ev past (rw is) (rw is))
    clear_by _ e (yes t' qs') =
        let ev = clearing (answered 0 t' qs') in
        let is : deed ev ≡ deed_of None None None None None = deed_accepted ev 0 refl refl refl in
        let C = clear_answered t g.queries l e in
        let same : grid_of t' g.updaters qs' ≡ idled_grid g l = rw (C.tables, C.lanes) in
        (rw same (idled l C.passed ev (idles ev is)), no_claim ev past (rw is) (rw is))

    pub keep_clear : Rel (event_of (clear l) g ∷ past) (call (clear l) g).1 × Claim (event_of (clear l) g) past
    unfolding call
    keep_clear = clear_by (clear_query t g.queries l) refl (clear_verdict t g.queries l)
