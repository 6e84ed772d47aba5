-- READING AND CLEARING AMONG ALL LANES ARE THOSE OF ONE: `read_into` is `read_one_into` with the lanes beside it, `clear_query` is `clear_one` in the lane that it
-- names, put among the others.
use mathlib.Core.Path.{◌≡◌, refl, sym, ◌∙◌}
use mathlib.Core.Bool.{Bool, true, false}
use mathlib.Core.List.{List, []}
use Prim.Native.Nat.{ℕ, ◌≤◌}
use lib.ListN.{get_or}
use borrow.Author.Tests.{le-ltb}
use Rattle.base.specs.Outcome.{pick}
use Rattle.query.specs.declared.Query.{Query}
use Rattle.tables.specs.Tables.{Tables, right_lengths}
use Rattle.calls.specs.Call.{Result, answered, after, after_of, unless, placed}
use Rattle.calls.proofs.Lane as lanes
use Rattle.queries.specs.Query.{idle_query}
use Rattle.collect.specs.Collect.{Handed, handed_of, read_query, clear_query}
use Rattle.collect.specs.Filling.{Filling, filling_of, written, read_into}
use Rattle.collect.specs.One.{HandedOne, handed_one_of, read_one_of, clear_one, written_one, read_one_into, beside_lanes}

module _ (t : Tables) (qs : List Query) (l : ℕ) where
  abbrev lane : Query
  lane = get_or qs l idle_query

  -- ---- a clearing

  pub clear_in : after t qs (clear_query t qs l) ≡ placed qs l (after t lane (clear_one t l lane))
  unfolding clear_query clear_one after
  clear_in =
      lanes.past idle_query t qs l _ 12 _ _ (lanes.past idle_query t qs l _ 1 _ _ (lanes.past idle_query t qs l _ 3 _ _
      (lanes.past idle_query t qs l _ 10 _ _ refl)))

  -- one that is refused leaves every lane as it is
  pub clear_refuses : (n : ℕ) → after t lane (clear_one t l lane) ≡ after_of n t lane
      → after t qs (clear_query t qs l) ≡ after_of n t qs
  clear_refuses n e = clear_in ∙ rw e (sym (lanes.stays idle_query t qs l n))

  -- a lane that is none
  pub clear_none : 4 ≤ l → (n : ℕ) → n ≡ pick (right_lengths t) 1 12 → after t qs (clear_query t qs l) ≡ after_of n t qs
  unfolding clear_query
  clear_none h n e = rw (le-ltb l 4 h, e) (lanes.no_such t qs (right_lengths t) _)

  -- ---- a reading

  module _ (out : List ℕ) where
    -- what a reading comes to, with everything afterwards
    abbrev all : Result Handed → Filling
    all r = written (after t (handed_of qs 0 []) r) out

    abbrev one : Result HandedOne → Filling
    one r = beside_lanes qs (written_one (after t (handed_one_of 0 []) r) out)

    -- a test that may refuse
    past : (b : Bool) (n : ℕ) (k : Result Handed) (k' : Result HandedOne) → all k ≡ one k' → all (unless b n k) ≡ one (unless b n k')
    unfolding unless after
    past true n k k' h = h
    past false n k k' h = refl

    ends : (k : ℕ) (p : List ℕ) → all (answered 0 t (handed_of qs k p)) ≡ one (answered 0 t (handed_one_of k p))
    unfolding after
    ends k p = refl

    pub read_in : read_into t qs l out ≡ beside_lanes qs (read_one_into t l lane out)
    unfolding read_into read_one_into read_query read_one_of
    read_in = past _ 12 _ _ (past _ 1 _ _ (past _ 3 _ _ (past _ 10 _ _ (past _ 11 _ _ (past _ 12 _ _ (ends _ _))))))

    -- a lane that is none
    pub read_none : 4 ≤ l → (n : ℕ) → n ≡ pick (right_lengths t) 1 12 → read_into t qs l out ≡ filling_of n t qs 0 0 out
    unfolding read_into read_query
    read_none h n e = rw (le-ltb l 4 h, lanes.no_such t (handed_of qs 0 []) (right_lengths t) _, e)
