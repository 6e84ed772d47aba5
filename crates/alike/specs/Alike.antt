-- TWO GRIDS THAT DIFFER IN THE SIZES OF STAMPS AND IN THE CLOCK ALONE, so that no query under way can tell them apart.
-- One is a grid of a run, the other what it would be had its clock been wound back; each call keeps the relation.
use Rattle.std.specs.Prelude.{◌≡◌, ◌≢◌, Bool, ◌||◌, ◌&&◌, List, ℕ, ◌<◌, ◌≤◌, ltb, ℤ, pos, nat_abs, get_or, length}
use Rattle.std.specs.Int.Signed.{lt_z}
use Rattle.slots.specs.Tuple.{tuples_of}
use Rattle.tables.specs.Tables.{Tables, tables_of}
use Rattle.query.specs.declared.Scan.TheVariants.{Idle}
use Rattle.query.specs.declared.Query.{Query}
use Rattle.query.specs.Scan.{query_of}
use Rattle.grid.specs.Run.{Grid}
use Rattle.runs.specs.Sweeps.{query}

-- ---- stamps

-- above zero: the object stands here; below zero: it was here
abbrev pub stands : ℤ → Bool
stands z = lt_z (pos 0) z

abbrev pub stood : ℤ → Bool
stood z = lt_z z (pos 0)

-- a query with stamp s takes it for a place of its object: above zero, or below zero and larger than s
unfoldable pub tells : ℕ → ℤ → Bool
tells s z = stands z || (stood z && ltb s (nat_abs z))

-- Two stamps say the same: they have the same sign, and each query under way, with stamp s in one grid and s' in the
-- other (O s s'), is told the same by them.
pub record Like (O : ℕ → ℕ → Type 0) (z z' : ℤ) : Type 0 where
  pub stands : stands z' ≡ stands z
  pub stood : stood z' ≡ stood z
  pub tells : (s s' : ℕ) → O s s' → tells s' z' ≡ tells s z

-- ---- tables

-- all tables, with other stamps and another clock
abbrev pub retimed : Tables → List ℤ → ℕ → Tables
retimed t ts c =
    tables_of t.first t.cells t.count t.next t.readers
    (tuples_of t.tuples.oid t.tuples.x t.tuples.y t.tuples.tag ts) t.index t.pool t.hits c

abbrev pub stamp_at : List ℤ → ℕ → ℤ
stamp_at ts i = get_or ts i (pos 0)

-- They differ in the stamps and the clock alone; the stamps of each slot say the same; no query has a stamp above its
-- clock; and the second clock is not ahead of the first.
pub record Alike (O : ℕ → ℕ → Type 0) (t t' : Tables) : Type 0 where
  pub rest : t' ≡ retimed t t'.tuples.time t'.clock
  pub long : (length t.tuples.time ≡ 2048) × (length t'.tuples.time ≡ 2048)
  pub times : (i : ℕ) → Like O (stamp_at t.tuples.time i) (stamp_at t'.tuples.time i)
  pub bound : (s s' : ℕ) → O s s' → (s ≤ t.clock) × (s' ≤ t'.clock)
  pub clock : t'.clock ≤ t.clock

-- ---- grids

-- a query with another stamp
abbrev pub restamped : Query → ℕ → Query
restamped q s = query_of q.question s q.hits q.steps q.stage

-- s and s' are the stamps of a query that is not idle
pub data Pair (g g' : Grid) (s s' : ℕ) : Type 0 where
  pair : (q : ℕ) → q < 4 → (query g q).stage ≢ Idle → (query g q).stamp ≡ s → (query g' q).stamp ≡ s' → Pair g g' s s'

-- THE RELATION: the tables are alike, the updaters are the same, and so are the queries but for their stamps.
pub record Both (g g' : Grid) : Type 0 where
  pub tables : Alike (Pair g g') g.tables g'.tables
  pub updaters : g'.updaters ≡ g.updaters
  pub queries : (q : ℕ) → query g' q ≡ restamped (query g q) (query g' q).stamp
