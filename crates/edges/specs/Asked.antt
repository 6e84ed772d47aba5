-- Questions with a radius (document 02, request e), computed on runs from the empty grid: the numbers of their starts,
-- and the steps and lists of their sweeps. One table, one proof.
use Rattle.std.specs.Prelude.{refl, List, [], ◌∷◌, ◌++◌, ℕ}
use Rattle.regions.specs.declared.region.Kind.{Kind}
use Rattle.regions.specs.declared.region.Kind.TheVariants.{Touching, Within, Centre}
use Rattle.tables.specs.Tables.{empty_tables, with_clock}
use Rattle.updates.specs.Update.{idle_updaters}
use Rattle.queries.specs.Query.{question_of, idle_queries}
use Rattle.grid.specs.Run.{Grid, grid_of, empty_grid, Call, start_query, collect, call, run, answers}
use Rattle.examples.specs.Trials.{Row, row, start, steps, sweeps, numbers_of}
use Rattle.examples.specs.Trials.{Holds, both, opened}

-- ---- calls

abbrev ask : Kind → ℕ → ℕ → ℕ → ℕ → ℕ → Call
ask k x0 y0 x1 y1 r = start_query 0 (question_of k x0 y0 x1 y1 r)

-- the square from (1000, 1000) to (2000, 2000)
abbrev big : Kind → ℕ → Call
big k r = ask k 1000 1000 2000 2000 r

-- a carrier is reported once
abbrev report : ℕ → ℕ → ℕ → List Call
report k x y = start 0 k x y ∷ steps 0 7

-- carriers 1, 2 and 3 left of and below the square, and 4 in its middle
abbrev four : List Call
four = report 1 500 1000 ++ report 2 600 700 ++ report 3 599 700 ++ report 4 1500 1500

-- ---- what is computed of them

-- the numbers of some calls
abbrev numbers : Grid → List Call → List ℕ
numbers g cs = numbers_of (answers cs g)

-- a grid whose clock is spent
abbrev spent : Grid
spent = grid_of (with_clock empty_tables 2147483600) idle_updaters idle_queries

-- number, steps and entries of a collection from lane 0 after some calls, a start of a query and n steps of it
unfoldable listed : List Call → Call → ℕ → List ℕ
listed cs q n =
    let a = (call (collect 0 1024) (run (cs ++ q ∷ sweeps 0 n) empty_grid)).0 in
    a.number ∷ a.steps ∷ a.part

-- ---- rows

unfoldable start_rows : List Row
start_rows =
    -- a radius of 511 is accepted, 512 is 32; the centre question has none
    row (numbers empty_grid (big Touching 511 ∷ [])) (0 ∷ [])
    ∷ row (numbers empty_grid (big Touching 512 ∷ big Within 512 ∷ big Touching 4294967295 ∷ [])) (32 ∷ 32 ∷ 32 ∷ [])
    ∷ row (numbers empty_grid (big Centre 512 ∷ [])) (0 ∷ [])
    -- 5 before 6 before 32 before 8
    ∷ row (numbers spent (ask Touching 10 0 9 16384 512 ∷ ask Touching 10 0 9 0 512 ∷ [])) (5 ∷ 6 ∷ [])
    ∷ row (numbers spent (big Touching 512 ∷ big Touching 511 ∷ [])) (32 ∷ 8 ∷ [])
    ∷ row (numbers spent (big Within 512 ∷ big Within 0 ∷ [])) (32 ∷ 8 ∷ [])
    -- a taken lane before all of these
    ∷ row (numbers empty_grid (big Within 511 ∷ ask Touching 10 0 9 16384 512 ∷ [])) (0 ∷ 2 ∷ [])
    ∷ []

unfoldable list_rows : List Row
list_rows =
    -- T lists what is 500 away, by a side or by the corner (400 and 300), and not 401 and 300: nine cells, two of them
    -- with tuples
    row (listed four (big Touching 500) 15) (0 ∷ 15 ∷ 2 ∷ 600 ∷ 700 ∷ 0 ∷ 1 ∷ 500 ∷ 1000 ∷ 0 ∷ 4 ∷ 1500 ∷ 1500 ∷ 0 ∷ [])
    -- W lists the middle, and with 501 nothing: four cells
    ∷ row (listed four (big Within 500) 10) (0 ∷ 10 ∷ 4 ∷ 1500 ∷ 1500 ∷ 0 ∷ [])
    ∷ row (listed four (big Within 501) 10) (0 ∷ 10 ∷ [])
    -- with radius 0 all three ask the same
    ∷ row (listed four (big Touching 0) 10) (0 ∷ 10 ∷ 4 ∷ 1500 ∷ 1500 ∷ 0 ∷ [])
    ∷ row (listed four (big Within 0) 10) (0 ∷ 10 ∷ 4 ∷ 1500 ∷ 1500 ∷ 0 ∷ [])
    ∷ row (listed four (big Centre 0) 10) (0 ∷ 10 ∷ 4 ∷ 1500 ∷ 1500 ∷ 0 ∷ [])
    ∷ []

-- at the edges of the deck, and cells in grown corners
unfoldable edge_rows : List Row
edge_rows =
    -- the last point with radius 511: cell 255 and no other; 511 away is listed, 512 not
    row (listed (report 5 16383 15872 ++ report 6 16383 15871) (ask Touching 16383 16383 16383 16383 511) 4)
    (0 ∷ 4 ∷ 5 ∷ 16383 ∷ 15872 ∷ 0 ∷ [])
    -- the first point
    ∷ row (listed (report 5 511 0 ++ report 6 512 0) (ask Touching 0 0 0 0 511) 4) (0 ∷ 4 ∷ 5 ∷ 511 ∷ 0 ∷ 0 ∷ [])
    -- a point at the corner of four cells, radius 1: four steps, although no point of cell 0 qualifies
    ∷ row (listed [] (ask Touching 1024 1024 1024 1024 1) 4) (0 ∷ 4 ∷ [])
    ∷ row (listed (report 5 1023 1023) (ask Touching 1024 1024 1024 1024 1) 6) (0 ∷ 6 ∷ [])
    ∷ row (listed (report 5 1023 1024) (ask Touching 1024 1024 1024 1024 1) 6) (0 ∷ 6 ∷ 5 ∷ 1023 ∷ 1024 ∷ 0 ∷ [])
    -- W at the deck's edge: the rectangle's own edge counts
    ∷ row (listed (report 5 0 511 ++ report 6 511 511) (ask Within 0 0 1022 1022 511) 4)
    (0 ∷ 4 ∷ 6 ∷ 511 ∷ 511 ∷ 0 ∷ [])
    ∷ []

-- each part by computing it
start_rows_lem : Holds start_rows
unfolding opened start_rows
start_rows_lem = refl

list_rows_lem : Holds list_rows
unfolding opened listed list_rows
list_rows_lem = refl

edge_rows_lem : Holds edge_rows
unfolding opened listed edge_rows
edge_rows_lem = refl

-- THE TABLE
pub asked_table : List Row
asked_table = start_rows ++ list_rows ++ edge_rows

-- THE PROOF: every row gives what it says
pub asked : Holds asked_table
unfolding asked_table
asked = both _ edge_rows (both start_rows list_rows start_rows_lem list_rows_lem) edge_rows_lem
