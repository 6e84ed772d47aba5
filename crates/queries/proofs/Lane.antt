-- THE CALLS OVER ALL LANES ARE THOSE IN ONE: `query_start` and `query_step` are `start_one` and `step_one` in the lane that they name, put among the others.
use mathlib.Core.Path.{◌≡◌, refl, sym, ap, ◌∙◌}
use mathlib.Core.List.{List}
use Prim.Native.Nat.{ℕ, ◌≤◌}
use lib.ListN.{get_or}
use borrow.Author.Tests.{le-ltb}
use Rattle.base.specs.Outcome.{pick}
use Rattle.regions.specs.declared.region.Region.{Region}
use Rattle.query.specs.declared.Query.{Query}
use Rattle.tables.specs.Tables.{Tables, right_lengths}
use Rattle.calls.specs.Call.{after, after_of, placed}
use Rattle.calls.proofs.Lane.{past, steps, stays, no_such}
use Rattle.queries.specs.Query.{idle_query, query_start, query_step}
use Rattle.queries.specs.Scans.{scan_on}
use Rattle.queries.specs.One.{start_one, step_one}

module _ (t : Tables) (qs : List Query) (l : ℕ) where
  abbrev lane : Query
  lane = get_or qs l idle_query

  pub start_in : (u : Region) → after t qs (query_start t qs l u) ≡ placed qs l (after t lane (start_one t l lane u))
  unfolding query_start start_one after
  start_in u =
      past idle_query t qs l _ 12 _ _ (past idle_query t qs l _ 1 _ _ (past idle_query t qs l _ 2 _ _
      (past idle_query t qs l _ 5 _ _ (past idle_query t qs l _ 6 _ _ (past idle_query t qs l _ 32 _ _
      (past idle_query t qs l _ 8 _ _ refl))))))

  pub step_in : after t qs (query_step t qs l) ≡ placed qs l (after t lane (step_one t l lane))
  unfolding query_step step_one
  step_in =
      past idle_query t qs l _ 12 _ _ (past idle_query t qs l _ 1 _ _ (past idle_query t qs l _ 3 _ _ (past idle_query t qs l _ 9 _ _
      (steps idle_query t qs l (λ s. s) (scan_on t l lane lane.stage)))))

  -- a call that is refused in its lane leaves the lanes as they were
  module _ (n : ℕ) (t' : Tables) where
    pub start_kept : (u : Region) → after t lane (start_one t l lane u) ≡ after_of n t' lane → after t qs (query_start t qs l u) ≡ after_of n t' qs
    start_kept u h = start_in u ∙ ap (placed qs l) h ∙ sym (stays idle_query t' qs l n)

    pub step_kept : after t lane (step_one t l lane) ≡ after_of n t' lane → after t qs (query_step t qs l) ≡ after_of n t' qs
    step_kept h = step_in ∙ ap (placed qs l) h ∙ sym (stays idle_query t' qs l n)

  -- a lane that is none
  module _ (h : 4 ≤ l) (n : ℕ) (e : n ≡ pick (right_lengths t) 1 12) where
    pub start_none : (u : Region) → after t qs (query_start t qs l u) ≡ after_of n t qs
    unfolding query_start
    start_none u = rw (le-ltb l 4 h, e) (no_such t qs (right_lengths t) _)

    pub step_none : after t qs (query_step t qs l) ≡ after_of n t qs
    unfolding query_step
    step_none = rw (le-ltb l 4 h, e) (no_such t qs (right_lengths t) _)
