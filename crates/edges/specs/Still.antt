-- Request j, computed on runs near its edges: what a step of each lane would now give where all but one are held, where
-- eight lanes report one object, and where two updates are stepped by turns. One table, one proof.
use Rattle.std.specs.Prelude.{◌≡◌, refl, List, [], ◌∷◌, ◌++◌, ℕ, zero, suc}
use Rattle.grid.specs.Run.{Grid, empty_grid, Call, step_query, run, answers}
use Rattle.progress.specs.Progress.{updating, querying, number_now}
use Rattle.examples.specs.Trials.{Row, row, start, step, steps, sweep, numbers_of, gives, says, Holds, both, opened}

-- ---- what is shown of a run

-- the numbers that a step would give now, of n update lanes from l on and of n query lanes from q on
updates_now : Grid → ℕ → ℕ → List ℕ
updates_now g l zero = []
updates_now g l (suc n) = number_now g (updating l) ∷ updates_now g (suc l) n

queries_now : Grid → ℕ → ℕ → List ℕ
queries_now g q zero = []
queries_now g q (suc n) = number_now g (querying q) ∷ queries_now g (suc q) n

-- of the eight update lanes, then of the four query lanes
now : List Call → List ℕ
now cs = let g = run cs empty_grid in updates_now g 0 8 ++ queries_now g 0 4

-- a step of each lane, one after the other, and the numbers that they give
abbrev round : List Call
round =
    step 0 ∷ step 1 ∷ step 2 ∷ step 3 ∷ step 4 ∷ step 5 ∷ step 6 ∷ step 7
    ∷ step_query 0 ∷ step_query 1 ∷ step_query 2 ∷ step_query 3 ∷ []

round_after : List Call → List ℕ
round_after cs = numbers_of (answers round (run cs empty_grid))

-- numbers n times
abbrev eight : ℕ → List ℕ → List ℕ
eight n l = n ∷ n ∷ n ∷ n ∷ n ∷ n ∷ n ∷ n ∷ l

abbrev seven : ℕ → List ℕ → List ℕ
seven n l = n ∷ n ∷ n ∷ n ∷ n ∷ n ∷ n ∷ l

abbrev four : ℕ → List ℕ
four n = n ∷ n ∷ n ∷ n ∷ []

-- ---- the runs

-- a report of an object to its end, by lane 0, in so many steps
abbrev report : ℕ → ℕ → ℕ → ℕ → List Call
report k x y n = start 0 k x y ∷ steps 0 n

-- lanes 1 to 7 report an object each, the objects k₁ to k₇, all into cell 0
abbrev others : ℕ → ℕ → ℕ → ℕ → ℕ → ℕ → ℕ → List Call
others k₁ k₂ k₃ k₄ k₅ k₆ k₇ =
    start 1 k₁ 10 10 ∷ start 2 k₂ 20 20 ∷ start 3 k₃ 30 30 ∷ start 4 k₄ 40 40 ∷ start 5 k₅ 50 50 ∷ start 6 k₆ 60 60
    ∷ start 7 k₇ 70 70 ∷ []

-- query lanes 1 to 3 are to enter cell 0, and all four
abbrev three : List Call
three = sweep 1 0 0 1023 1023 ∷ sweep 2 0 0 1023 1023 ∷ sweep 3 0 0 1023 1023 ∷ []

abbrev all_four : List Call
all_four = sweep 0 0 0 1023 1023 ∷ three

-- Eight lanes report object 7: nobody has stepped; lane 0 has its lock; it is to release it; it has ended.
abbrev crowd : ℕ → List Call
crowd n = start 0 7 100 100 ∷ others 7 7 7 7 7 7 7 ++ steps 0 n

-- Lane 0 holds object 1 and cell 0, at stage 9. Lanes 1 to 3 wait for the object, lanes 4 to 7 at stage 8 and all
-- queries for the cell.
abbrev writing : List Call
writing =
    start 0 1 100 100 ∷ step 0 ∷ step 0 ∷ others 1 1 1 4 5 6 7 ++ step 4 ∷ step 5 ∷ step 6 ∷ step 7 ∷ all_four

-- Object 9 has left cell 0 and cell 1; lane 0 is to return the bucket of cell 0, at stage 6, in which query 0 stands.
-- Lanes 1 to 3 wait for object 9, lanes 4 to 7 at stage 8 and the other queries for cell 0.
abbrev returning : List Call
returning =
    report 9 100 100 7 ++ report 9 1100 100 8 ++ sweep 0 0 0 1023 1023 ∷ step_query 0 ∷ report 9 2100 100 5
    ++ others 9 9 9 4 5 6 7 ++ step 4 ∷ step 5 ∷ step 6 ∷ step 7 ∷ three

-- Objects 7 and 8 have left cell 0, where 8's tuple is the last. Lane 0 reports 7 and holds it and cell 0, at stage 3;
-- lane 1 reports 8 and holds it, at stage 2, where it waits for cell 0. Lanes 2 to 4 wait for object 7, lanes 5 to 7
-- for object 8, and all queries for cell 0.
abbrev crossed : List Call
crossed =
    report 7 100 100 7 ++ report 8 200 200 7 ++ report 7 1100 100 8 ++ report 8 1100 200 8
    ++ start 0 7 2100 100 ∷ step 0 ∷ step 0 ∷ others 8 7 7 7 8 8 8 ++ step 1 ∷ all_four

-- Objects 7 and 8 have changed cells: 7 came from cell 0 and stands last in cell 1, 8 came from cell 1 and stands last
-- in cell 0. Lane 0 reports 7 and has its lock; lane 1 reports 8 and is at stage 1.
abbrev pub swapped : List Call
swapped =
    report 7 100 100 7 ++ report 8 1100 100 7 ++ report 7 1100 100 8 ++ report 8 100 100 8
    ++ start 0 7 2100 100 ∷ start 1 8 3100 100 ∷ step 0 ∷ []

-- three turns of the two lanes: each comes to stage 3 while the other has its object
abbrev pub turns : List Call
turns = step 0 ∷ step 1 ∷ step 0 ∷ step 1 ∷ step 0 ∷ step 1 ∷ []

-- ---- the rows, in parts that are computed one by one

unfoldable crowd_rows : List Row
crowd_rows =
    row (now (crowd 0)) (eight 0 (four 3))
    ∷ row (now (crowd 1)) (0 ∷ seven 20 (four 3))
    ∷ row (now (crowd 6)) (22 ∷ seven 20 (four 3))
    ∷ row (now (crowd 7)) (3 ∷ seven 0 (four 3))
    ∷ []

-- all but one are held: the one moves on, is a query with a bucket open, goes back
unfoldable held_rows : List Row
held_rows =
    row (now writing) (0 ∷ seven 20 (four 20))
    ∷ row (now returning) (eight 20 (0 ∷ 20 ∷ 20 ∷ 20 ∷ []))
    ∷ row (now crossed) (21 ∷ seven 20 (four 20))
    -- in a round of steps the same one moves; once lane 0 has gone back, others do
    ∷ row (round_after returning) (eight 20 (0 ∷ 20 ∷ 20 ∷ 20 ∷ []))
    ∷ row (round_after crossed) (21 ∷ 0 ∷ 0 ∷ 20 ∷ 20 ∷ 20 ∷ 20 ∷ 20 ∷ four 20)
    ∷ []

-- lanes 0 and 1 alone are under way, and stepped by turns both go back; what follows is in Turns.antt
unfoldable turn_rows : List Row
turn_rows =
    row (now swapped) (0 ∷ 0 ∷ 3 ∷ 3 ∷ 3 ∷ 3 ∷ 3 ∷ 3 ∷ four 3)
    ∷ row (numbers_of (answers turns (run swapped empty_grid))) (0 ∷ 0 ∷ 21 ∷ 0 ∷ 0 ∷ 21 ∷ [])
    ∷ []

pub table : List Row
table = crowd_rows ++ held_rows ++ turn_rows

-- what the computations open
unfoldable pub opened_here : ℕ
unfolding opened updates_now queries_now now round_after
opened_here = 0

crowd_rows_lem : Holds crowd_rows
unfolding opened_here crowd_rows
crowd_rows_lem = refl

held_rows_lem : Holds held_rows
unfolding opened_here held_rows
held_rows_lem = refl

turn_rows_lem : Holds turn_rows
unfolding opened_here turn_rows
turn_rows_lem = refl

-- THE PROOF: the numbers on these runs are those that stand here
pub steps_now : gives table ≡ says table
unfolding table
steps_now = both _ turn_rows (both crowd_rows held_rows crowd_rows_lem held_rows_lem) turn_rows_lem
