-- The claims about every list of calls (crate runs), computed on runs that come close to their edges: a crowded cell,
-- a bucket awaiting its return under a reader, a moved tuple of another object, of both kinds, a bucket that another
-- update still names, an index that wraps. One table, one proof.
use Rattle.std.specs.Prelude.{◌≡◌, refl, List, [], ◌∷◌, ◌++◌, ℕ, zero, suc, ◌+◌, eqb, ℤ, pos, negsuc, get_or, drop, set, replicate}
use Rattle.std.specs.Prelude.{Option, None, Some}
use Rattle.base.specs.Outcome.{pick}
use Rattle.base.specs.Table.{at}
use Rattle.layout.specs.Place.{cell_of}
use Rattle.index.specs.Search.{search, known}
use Rattle.index.specs.Index.{Entry, entry_for, entry_of, position}
use Rattle.index.specs.declared.search.Search.{Search}
use Rattle.index.specs.declared.search.Search.TheVariants.{Found, Empty}
use Rattle.pool.specs.Pool.{members, size}
use Rattle.cells.specs.Walk.{chain_of}
use Rattle.stage.specs.declared.Updater.{Updater}
use Rattle.tables.specs.Tables.{Tables, empty_tables, with_first, with_pool}
use Rattle.updates.specs.Update.{idle_updater}
use Rattle.grid.specs.Run.{Grid, empty_grid, Call, step_update, run, answers}
use Rattle.runs.specs.Accounts.{at_work}
use Rattle.runs.specs.Apart.{in_hand}
use Rattle.runs.specs.Counting.{found, chained, awaiting, returning}
use Rattle.runs.specs.Quiet.{held_cell, held_objects}
use Rattle.runs.specs.Sweeps.{standing}
use Rattle.examples.specs.Trials.{Row, row, start, steps, sweep, sweeps, numbers_of}
use Rattle.examples.specs.Trials.{gives, says, Holds, both, opened}

-- a report of an object to its end, by lane 0, in so many steps
abbrev report : ℕ → ℕ → ℕ → ℕ → List Call
report k x y n = start 0 k x y ∷ steps 0 n

-- buckets in the pool, in chains, awaiting their return, and the objects known: of the middle two together there are
-- at most twice as many as of the last
counts : List Call → List ℕ
counts cs =
    let g = run cs empty_grid in
    size g.tables.pool ∷ chained g.tables ∷ awaiting g.updaters ∷ known g.tables.index.oid ∷ []

-- how many tuples each of some buckets has
each : List ℕ → List ℕ → List ℕ
each count [] = []
each count (b ∷ l) = at count b ∷ each count l

counts_in : List ℕ → Option (List ℕ) → List ℕ
counts_in count None = []
counts_in count (Some l) = each count l

-- the tuples of the buckets of a cell, from the first bucket on
along : List Call → ℕ → List ℕ
along cs c = let t = (run cs empty_grid).tables in counts_in t.count (chain_of t.first t.next c)

-- readers of a bucket, and the queries that stand in it
readers_of : List Call → ℕ → List ℕ
readers_of cs b = let g = run cs empty_grid in at g.tables.readers b ∷ standing g.queries b ∷ []

-- an object's current and previous place, as numbers
places : Option Entry → List ℕ
places None = []
places (Some e) = e.current ∷ e.previous ∷ []

-- 1 for a stamp above zero, 2 for one below
signed : ℤ → ℕ
signed (pos n) = 1
signed (negsuc n) = 2

-- what stands at a slot: its object, and its sign
slot_of : Grid → ℕ → List ℕ
slot_of g i = at g.tables.tuples.oid i ∷ signed (get_or g.tables.tuples.time i (pos 0)) ∷ []

-- the places of object k, and the tuple at slot i
named : List Call → ℕ → ℕ → List ℕ
named cs k i = let g = run cs empty_grid in places (entry_for g.tables.index k) ++ slot_of g i

-- five objects in one cell
abbrev crowd : List Call
crowd = report 1 100 100 7 ++ report 2 100 100 7 ++ report 3 100 100 7 ++ report 4 100 100 7 ++ report 5 100 100 7

-- object 9 leaves cell 0 and cell 1 while a sweep stands in the bucket of cell 0: its third report waits at stage 6
abbrev waiting : List Call
waiting = report 9 100 100 7 ++ report 9 1100 100 8 ++ sweep 0 0 0 1023 1023 ∷ (sweeps 0 1 ++ report 9 2100 100 6)

-- objects 7 and 8 share a bucket; 7 goes on twice, and 8's tuple is moved into its slot
abbrev moved_current : List Call
moved_current = report 7 100 100 7 ++ report 8 200 200 7 ++ report 7 1100 100 8 ++ report 7 2100 100 13

-- the same, with a former tuple of 8
abbrev moved_former : List Call
moved_former = report 7 100 100 7 ++ report 8 200 200 7 ++ report 8 1100 100 8 ++ report 7 1100 100 8 ++ report 7 2100 100 13

-- ---- where each bucket is

list_or : Option (List ℕ) → List ℕ
list_or None = []
list_or (Some l) = l

one_or : Option ℕ → List ℕ
one_or None = []
one_or (Some b) = b ∷ []

-- the buckets of the chains of the cells below n
in_chains : Tables → ℕ → List ℕ
in_chains t zero = []
in_chains t (suc n) = list_or (chain_of t.first t.next n) ++ in_chains t n

-- the buckets that updates have still to return
to_return : List Updater → List ℕ
to_return [] = []
to_return (u ∷ us) = pick (returning u.stage) (one_or (at_work [] 0 u.stage)) [] ++ to_return us

-- how often each bucket is met, t being how often it was met before
meet : List ℕ → List ℕ → List ℕ
meet t [] = t
meet t (b ∷ l) = meet (set t b (at t b + 1)) l

-- how many numbers of a list are n
many : ℕ → List ℕ → ℕ
many n [] = 0
many n (x ∷ l) = pick (eqb x n) 1 0 + many n l

-- how many buckets are met never, once and twice in the pool, the chains and the lanes
how_often_in : Tables → List Updater → List ℕ
how_often_in t us =
    let m = meet (replicate 512 0) (members t.pool ++ in_chains t 256 ++ to_return us) in
    many 0 m ∷ many 1 m ∷ many 2 m ∷ []

how_often : List Call → List ℕ
how_often cs = let g = run cs empty_grid in how_often_in g.tables g.updaters

-- tables that no run leaves: bucket 5 is in the chains of cells 0 and 1, and bucket 6 nowhere; the pool has the others
abbrev damaged : Tables
damaged =
    let p = set (set (set empty_tables.pool 5 510) 6 511) 512 510 in
    with_pool (with_first empty_tables (set (set empty_tables.first 0 5) 1 5)) p

-- Object 9 leaves cell 0 and cell 1; lane 0 has returned the bucket of cell 0 and is about to erase the former place,
-- at stage 7. Object 5 is reported in cell 3 by lane 1, at stage 9.
abbrev erasing : List Call
erasing = report 9 100 100 7 ++ report 9 1100 100 8 ++ report 9 2100 100 6 ++ start 1 5 3100 100 ∷ steps 1 2

-- the first bucket of cell 3, how many the pool has, the buckets that lane 0 has in hand, the former place of object 9
room_at : List Call → List ℕ
room_at cs =
    let g = run cs empty_grid in
    let t = g.tables in
    at t.first 3 ∷ size t.pool
    ∷ in_hand (get_or g.updaters 0 idle_updater).stage ++ drop 1 (places (entry_for t.index 9))

-- ---- the index

-- the entry at which an object is found; 1000 more where it is not
found_at : Search → ℕ
found_at (Found i) = i
found_at (Empty i) = 1000 + i

-- three objects entered: the searches for 377 and 987 start at entry 511, that for 233 at entry 0
abbrev wrapped : List Call
wrapped = start 0 377 100 100 ∷ start 1 987 200 200 ∷ start 2 233 300 300 ∷ []

-- the objects at entries 511, 0 and 1, and where they are found
entries : List Call → List ℕ
entries cs =
    let o = (run cs empty_grid).tables.index.oid in
    at o 511 ∷ at o 0 ∷ at o 1
    ∷ found_at (search o 377) ∷ found_at (search o 987) ∷ found_at (search o 233) ∷ found_at (search o 1364) ∷ []

-- ---- locks

lock_of : Option Entry → ℕ
lock_of None = 1000
lock_of (Some e) = e.lock

-- what lane 0 holds: its cell and its objects; and the locks of cell 0, of cell 2 and of objects 7 and 8
locks_of : List Call → List ℕ
locks_of cs =
    let g = run cs empty_grid in
    let t = g.tables in
    let u = get_or g.updaters 0 idle_updater in
    one_or (held_cell u.stage (cell_of u.x u.y)) ++ held_objects u.stage u.oid
    ++ at t.cells 0 ∷ at t.cells 2 ∷ lock_of (entry_for t.index 7) ∷ lock_of (entry_for t.index 8) ∷ []

-- 7 goes on a second time, with 8's tuple moved into its slot: up to stage 5, and to stage 10
abbrev moving : ℕ → List Call
moving n = report 7 100 100 7 ++ report 8 200 200 7 ++ report 7 1100 100 8 ++ report 7 2100 100 n

-- ---- tuples

-- a slot's coordinates, and their cell
spot_at : List Call → ℕ → List ℕ
spot_at cs i =
    let t = (run cs empty_grid).tables.tuples in
    at t.x i ∷ at t.y i ∷ cell_of (at t.x i) (at t.y i) ∷ []

-- ---- the rows, in parts that are computed one by one

-- counts and readers
unfoldable count_rows : List Row
count_rows =
    row (counts crowd) (510 ∷ 2 ∷ 0 ∷ 5 ∷ [])
    ∷ row (along crowd 0) (1 ∷ 4 ∷ [])
    ∷ row (drop 25 (numbers_of (answers waiting empty_grid))) (20 ∷ [])
    ∷ row (counts waiting) (510 ∷ 1 ∷ 1 ∷ 1 ∷ [])
    ∷ row (readers_of waiting 511) (1 ∷ 1 ∷ [])
    ∷ []

-- moved tuples
unfoldable moved_rows : List Row
moved_rows =
    -- slot 0 of bucket 511, in cell 0: place number 2,044
    row (named moved_current 8 2044) (2044 ∷ 524288 ∷ 8 ∷ 1 ∷ [])
    ∷ row (counts moved_current) (509 ∷ 3 ∷ 0 ∷ 2 ∷ [])
    ∷ row (drop 1 (named moved_former 8 2044)) (2044 ∷ 8 ∷ 2 ∷ [])
    -- the tuple of 8 is where 8 was reported, in cell 0
    ∷ row (spot_at moved_current 2044) (200 ∷ 200 ∷ 0 ∷ [])
    ∷ []

-- each bucket in one place, and what stage 9 takes
unfoldable bucket_rows : List Row
bucket_rows =
    row (how_often crowd) (0 ∷ 512 ∷ 0 ∷ [])
    ∷ row (how_often waiting) (0 ∷ 512 ∷ 0 ∷ [])
    -- the sum alone does not tell: 510 buckets in the pool and 2 in chains, yet one is met never and one twice
    ∷ row (size damaged.pool ∷ chained damaged ∷ []) (510 ∷ 2 ∷ [])
    ∷ row (how_often_in damaged []) (1 ∷ 510 ∷ 1 ∷ [])
    -- cell 3 has no bucket, the pool has 511, lane 0 has none in hand; the place to erase is slot 0 of bucket 511
    ∷ row (room_at erasing) (512 ∷ 511 ∷ 2044 ∷ [])
    -- stage 9 of lane 1 takes bucket 511, which that place still names
    ∷ row (room_at (erasing ++ step_update 1 ∷ [])) (511 ∷ 510 ∷ 2044 ∷ [])
    ∷ row (how_often (erasing ++ step_update 1 ∷ [])) (0 ∷ 512 ∷ 0 ∷ [])
    ∷ []

-- the index and the locks
unfoldable index_rows : List Row
index_rows =
    -- 987 has come round to entry 0, so 233 is at entry 1; 1364 is not known: its search goes from 511 to entry 2
    row (entries wrapped) (377 ∷ 987 ∷ 233 ∷ 511 ∷ 0 ∷ 1 ∷ 1002 ∷ [])
    -- an entry that no run leaves: 7 at entry 5, where its search, which ends at the empty entry 167, does not come
    ∷ row (found_at (search (set (replicate 512 0) 5 7) 7) ∷ []) (1167 ∷ [])
    -- at stage 5 lane 0 holds cell 0 and objects 7 and 8, at stage 10 cell 2 and object 7; then nothing
    ∷ row (locks_of (moving 4)) (0 ∷ 7 ∷ 8 ∷ 1 ∷ 0 ∷ 1 ∷ 1 ∷ [])
    ∷ row (locks_of (moving 8)) (2 ∷ 7 ∷ 0 ∷ 1 ∷ 1 ∷ 0 ∷ [])
    ∷ row (locks_of (moving 13)) (0 ∷ 0 ∷ 0 ∷ 0 ∷ [])
    ∷ []

pub table : List Row
table = count_rows ++ moved_rows ++ bucket_rows ++ index_rows

-- what the computations open
unfoldable opened_here : ℕ
unfolding opened counts each counts_in along readers_of places signed slot_of named size found chained awaiting returning
    standing entry_for entry_of position list_or one_or in_chains to_return meet many how_often how_often_in room_at found_at entries
    lock_of locks_of spot_at at_work in_hand held_cell held_objects
opened_here = 0

count_rows_lem : Holds count_rows
unfolding opened_here count_rows
count_rows_lem = refl

moved_rows_lem : Holds moved_rows
unfolding opened_here moved_rows
moved_rows_lem = refl

bucket_rows_lem : Holds bucket_rows
unfolding opened_here bucket_rows
bucket_rows_lem = refl

index_rows_lem : Holds index_rows
unfolding opened_here index_rows
index_rows_lem = refl

-- THE PROOF: the claims hold on these runs, with the numbers that stand here
pub claims : gives table ≡ says table
unfolding table
claims = both _ index_rows (both _ bucket_rows (both count_rows moved_rows count_rows_lem moved_rows_lem) bucket_rows_lem) index_rows_lem
