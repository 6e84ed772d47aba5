-- Two updates, stepped by turns, can go back without end: request j excludes that all wait, not this. The grid after
-- three turns of the two lanes is the grid before them, in every table and lane, so the same comes again.
use Rattle.std.specs.Prelude.{◌≡◌, refl, Bool, true, false, ◌&&◌, List, [], ◌∷◌, ◌++◌, ℕ, zero, suc, eqb, ℤ, pos, negsuc, get_or, replicate}
use Rattle.std.proofs.Common.{sym, ap, ◌∙◌, eqb-true}
use Rattle.base.proofs.Table.{clash}
use Rattle.slots.specs.Tuple.{tuples_of}
use Rattle.index.specs.Index.{index_of}
use Rattle.hits.specs.Hits.{hits_of}
use Rattle.tables.specs.Tables.{Tables, tables_of}
use Rattle.grid.specs.Run.{Grid, grid_of, empty_grid, Call, run}
use Rattle.stage.specs.declared.Stage.TheVariants.{TakeObject, LockCell}
use Rattle.stage.specs.declared.Updater.{Updater}
use Rattle.updates.specs.Update.{idle_updater}
use Rattle.queries.specs.Query.{idle_query}
use Rattle.edges.specs.Still.{swapped, turns, opened_here}

-- ---- equal lists, by a test

and_both : (a b : Bool) → (a && b) ≡ true → (a ≡ true) × (b ≡ true)
and_both true b e = (refl, e)
and_both false b e = clash (cc)

same : List ℕ → List ℕ → Bool
same [] [] = true
same [] (b ∷ m) = false
same (a ∷ l) [] = false
same (a ∷ l) (b ∷ m) = eqb a b && same l m

same_list : (l m : List ℕ) → same l m ≡ true → l ≡ m
unfolding same
same_list [] [] e = refl
same_list [] (b ∷ m) e = clash (cc)
same_list (a ∷ l) [] e = clash (cc)
same_list (a ∷ l) (b ∷ m) e = let w = and_both _ _ e in rw (eqb-true a b w.0, same_list l m w.1)

stamp : ℤ → ℤ → Bool
stamp (pos a) (pos b) = eqb a b
stamp (pos a) (negsuc b) = false
stamp (negsuc a) (pos b) = false
stamp (negsuc a) (negsuc b) = eqb a b

same_stamp : (a b : ℤ) → stamp a b ≡ true → a ≡ b
unfolding stamp
same_stamp (pos a) (pos b) e = ap pos (eqb-true a b e)
same_stamp (pos a) (negsuc b) e = clash (cc)
same_stamp (negsuc a) (pos b) e = clash (cc)
same_stamp (negsuc a) (negsuc b) e = ap negsuc (eqb-true a b e)

stamps : List ℤ → List ℤ → Bool
stamps [] [] = true
stamps [] (b ∷ m) = false
stamps (a ∷ l) [] = false
stamps (a ∷ l) (b ∷ m) = stamp a b && stamps l m

same_stamps : (l m : List ℤ) → stamps l m ≡ true → l ≡ m
unfolding stamps
same_stamps [] [] e = refl
same_stamps [] (b ∷ m) e = clash (cc)
same_stamps (a ∷ l) [] e = clash (cc)
same_stamps (a ∷ l) (b ∷ m) e = let w = and_both _ _ e in rw (same_stamp a b w.0, same_stamps l m w.1)

-- ---- equal tables

-- table by table
abbrev tests : Tables → Tables → List Bool
tests t u =
    same t.first u.first ∷ same t.cells u.cells ∷ same t.count u.count ∷ same t.next u.next
    ∷ same t.readers u.readers ∷ same t.pool u.pool ∷ eqb t.clock u.clock
    ∷ same t.tuples.oid u.tuples.oid ∷ same t.tuples.x u.tuples.x ∷ same t.tuples.y u.tuples.y
    ∷ same t.tuples.tag u.tuples.tag ∷ stamps t.tuples.time u.tuples.time
    ∷ same t.index.oid u.index.oid ∷ same t.index.lock u.index.lock
    ∷ same t.index.current u.index.current ∷ same t.index.previous u.index.previous
    ∷ same t.hits.oid u.hits.oid ∷ same t.hits.x u.hits.x ∷ same t.hits.y u.hits.y
    ∷ same t.hits.tag u.hits.tag ∷ []

same_tables : (t u : Tables) → tests t u ≡ replicate 20 true → t ≡ u
same_tables t u h =
    let is : (n : ℕ) → get_or (tests t u) n false ≡ get_or (replicate 20 true) n false =
    λ n. ap (λ (l : List Bool). get_or l n false) h in
    λ i. tables_of
    (same_list t.first u.first (is 0) i)
    (same_list t.cells u.cells (is 1) i)
    (same_list t.count u.count (is 2) i)
    (same_list t.next u.next (is 3) i)
    (same_list t.readers u.readers (is 4) i)
    (tuples_of
    (same_list t.tuples.oid u.tuples.oid (is 7) i)
    (same_list t.tuples.x u.tuples.x (is 8) i)
    (same_list t.tuples.y u.tuples.y (is 9) i)
    (same_list t.tuples.tag u.tuples.tag (is 10) i)
    (same_stamps t.tuples.time u.tuples.time (is 11) i))
    (index_of
    (same_list t.index.oid u.index.oid (is 12) i)
    (same_list t.index.lock u.index.lock (is 13) i)
    (same_list t.index.current u.index.current (is 14) i)
    (same_list t.index.previous u.index.previous (is 15) i))
    (same_list t.pool u.pool (is 5) i)
    (hits_of
    (same_list t.hits.oid u.hits.oid (is 16) i)
    (same_list t.hits.x u.hits.x (is 17) i)
    (same_list t.hits.y u.hits.y (is 18) i)
    (same_list t.hits.tag u.hits.tag (is 19) i))
    (eqb-true t.clock u.clock (is 6) i)

-- ---- three turns

-- before them, and after
before : Grid
before = run swapped empty_grid

after : Grid
after = run turns before

tables_tested : tests after.tables before.tables ≡ replicate 20 true
unfolding opened_here before after same stamp stamps
tables_tested = refl

-- lane 0 has the lock of object 7 and is to lock the cell of its former place, lane 1 is at stage 1
abbrev lanes : List Updater
lanes =
    record { oid = 7; x = 2100; y = 100; tag = 0; stage = LockCell (record { cell = 0; bucket = 511; slot = 0 }) }
    ∷ record { oid = 8; x = 3100; y = 100; tag = 0; stage = TakeObject }
    ∷ idle_updater ∷ idle_updater ∷ idle_updater ∷ idle_updater ∷ idle_updater ∷ idle_updater ∷ []

lanes_before : before.updaters ≡ lanes
unfolding opened_here before
lanes_before = refl

lanes_after : after.updaters ≡ lanes
unfolding opened_here before after
lanes_after = refl

queries_before : before.queries ≡ idle_query ∷ idle_query ∷ idle_query ∷ idle_query ∷ []
unfolding opened_here before
queries_before = refl

queries_after : after.queries ≡ idle_query ∷ idle_query ∷ idle_query ∷ idle_query ∷ []
unfolding opened_here before after
queries_after = refl

-- THE SAME GRID
pub turned : run turns (run swapped empty_grid) ≡ run swapped empty_grid
unfolding before after
turned = λ i. grid_of
    (same_tables after.tables before.tables tables_tested i)
    ((lanes_after ∙ sym lanes_before) i)
    ((queries_after ∙ sym queries_before) i)

-- so many times
unfoldable pub turns_of : ℕ → List Call
turns_of zero = []
turns_of (suc n) = turns ++ turns_of n

-- FOR EVERY n THERE IS A RUN of 3n turns, each lane under way stepped once in each turn, in which no update ends.
pub without_end : (n : ℕ) → run (turns_of n) (run swapped empty_grid) ≡ run swapped empty_grid
unfolding turns_of run
without_end zero = refl
without_end (suc n) = ap (run (turns_of n)) turned ∙ without_end n
