-- DEMANDS 2 AND 3 SPEAK OF ONE HISTORY. Demand 2 reads its history off calls and answers (History.antt); demand 3 has
-- one of its own, with the tables that a step of a query found (cost/specs/Account.antt).
-- Claimed here of a list of calls: both say the same of the updates under way, of the objects known, and of the
-- updates during a query, so that 'one update of an object' means the same in both.
use Rattle.std.specs.Prelude.{◌≡◌, true, false, ◌↔◌, List, [], ◌∷◌, ◌++◌, ℕ, length}
use Rattle.std.specs.Prelude.{Option, None, Some}
use Rattle.base.specs.Lists.{In}
use Rattle.grid.specs.Run.{Call, step_query, empty_grid}
use Rattle.base.specs.Spot.{Hit, Mem}
use Rattle.cost.specs.Account.{Event as Entry, history, under_way as underWayBy, known, Sweep, sweeps, latest}
use Rattle.freshness.specs.History.{Event, begins, past, under_way, question, updates}
use Rattle.freshness.specs.Fresh.{Finishes}

-- the history of demand 3, of a list of calls made from the empty grid
abbrev pub account : List Call → List Entry
account cs = history cs empty_grid []

-- the object of an update
unfoldable pub object_of : Option Hit → Option ℕ
object_of None = None
object_of (Some h) = Some h.oid

-- an update of object k has begun
pub record Begun (k : ℕ) (es : List Event) : Type 0 where
  pub lane : ℕ
  pub hit : Hit
  pub there : Mem (begins lane hit) es
  pub object : hit.oid ≡ k

-- a query of demand 3 is that of lane q in the history of demand 2: the same question, as many updates of each
-- object during it
pub record SameQuery (q : ℕ) (s : Sweep) (es : List Event) : Type 0 where
  pub asked : question q es ≡ Some s.question
  pub during : (k : ℕ) → s.updates k ≡ length (updates q k es)

-- THE CLAIM about a list of calls
pub record SameHistory (cs : List Call) : Type 0 where
  -- the object whose update is under way in each lane
  pub under : (l : ℕ) → underWayBy (account cs) l ≡ object_of (under_way l (past cs))
  -- the objects known: those of which an update has begun
  pub knows : (k : ℕ) → In k (known (account cs)) ↔ Begun k (past cs)
  -- a query that is under way
  pub going : (q : ℕ) (s : Sweep) → latest q (sweeps (account cs)) ≡ Some s → s.over ≡ false
      → SameQuery q s (past cs)
  -- the query that the next step finishes, as that step leaves it (a finished one stays as it was: `follow` of
  -- Account.antt)
  pub finishing : (q : ℕ) → Finishes cs q
      → (s : Sweep) × (latest q (sweeps (account (cs ++ step_query q ∷ []))) ≡ Some s) × (s.finished ≡ true)
      × SameQuery q s (past cs)
