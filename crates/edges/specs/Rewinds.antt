-- A rewind (document 02, request a), computed on runs from the empty grid: what it gives, what it leaves of stamps and
-- clock, and that the calls after it are answered as without it. One table, one proof.
use Rattle.std.specs.Prelude.{◌≡◌, refl, List, [], ◌∷◌, ◌++◌, map, ℕ, suc, ◌+◌, ℤ, pos, negsuc, get_or, drop, length}
use Rattle.std.proofs.Common.{sym, ap, ◌∙◌, arith}
use Rattle.tables.specs.Tables.{Tables, with_times, with_clock}
use Rattle.rest.specs.Rest.{all_below, updaters_idle, queries_idle, is_at_rest}
use Rattle.rewind.specs.Rewind.{wound_stamp, wound_clock, wound_tables, rewind_tables}
use Rattle.grid.specs.Run.{Grid, grid_of, empty_grid, Call, collect, rewind, Answer, run, answers}
use Rattle.examples.specs.Trials.{Row, row, start, steps, sweep, sweeps, numbers_of}
use Rattle.examples.specs.Trials.{Holds, both, opened}

-- the numbers, steps and entries of all answers, one after the other
unfoldable said_by : List Answer → List ℕ
said_by [] = []
said_by (a ∷ l) = a.number ∷ a.steps ∷ a.part ++ said_by l

-- the clock, and the stamps of slots 0 of buckets 511 and 510: n above zero as 2n, n below as 2n + 1
unfoldable number_of : ℤ → ℕ
number_of (pos n) = n + n
number_of (negsuc n) = suc (suc n + suc n)

unfoldable stamp_at : Tables → ℕ → ℕ
stamp_at t i = number_of (get_or t.tuples.time i (pos 0))

unfoldable stamps_of : Tables → List ℕ
stamps_of t = t.clock ∷ stamp_at t 2044 ∷ stamp_at t 2040 ∷ []

abbrev after : List Call → List ℕ
after cs = stamps_of (run cs empty_grid).tables

-- Carrier 9 was at (100, 100) and stands at (1100, 100): one tuple below zero in cell 0, one above in cell 1.
abbrev pub moved : List Call
moved = (start 0 9 100 100 ∷ steps 0 7) ++ start 0 9 1100 100 ∷ steps 0 8

-- a sweep of cell 0, where 9 was, and its collection
abbrev pub left : List Call
left = (sweep 0 0 0 1023 1023 ∷ sweeps 0 3) ++ collect 0 1024 ∷ []

-- a sweep that has begun when 9 goes back to cell 0
abbrev during : List Call
during = (sweep 0 0 0 2047 1023 ∷ sweeps 0 3) ++ (start 0 9 200 200 ∷ steps 0 14) ++ sweeps 0 3 ++ collect 0 1024 ∷ []

-- what the calls after a rewind say, and without it
abbrev with : List Call → List ℕ
with cs = said_by (answers cs (run (moved ++ rewind ∷ []) empty_grid))

abbrev without : List Call → List ℕ
without cs = said_by (answers cs (run moved empty_grid))

unfoldable rewind_rows : List Row
rewind_rows =
    -- twice in a row on a fresh deck: 0 twice
    row (numbers_of (answers (rewind ∷ rewind ∷ []) empty_grid)) (0 ∷ 0 ∷ [])
    -- a report under way, a sweep under way, a sweep finished and not collected: 30; collected: 0
    ∷ row (numbers_of (answers (start 0 9 1 1 ∷ rewind ∷ []) empty_grid)) (0 ∷ 30 ∷ [])
    ∷ row (numbers_of (answers (sweep 3 0 0 1023 0 ∷ rewind ∷ sweeps 3 1 ++ rewind ∷ collect 3 0 ∷ rewind ∷ []) empty_grid))
    (0 ∷ 30 ∷ 22 ∷ 30 ∷ 0 ∷ 0 ∷ [])
    ∷ []

-- stamps -3 and 2 and a clock of 3 become -1, 1 and 1
unfoldable stamp_rows : List Row
stamp_rows =
    row (after moved) (3 ∷ 7 ∷ 4 ∷ [])
    ∷ row (after (moved ++ rewind ∷ [])) (1 ∷ 3 ∷ 2 ∷ [])
    ∷ []

unfoldable alike_rows : List Row
alike_rows =
    -- a place left long ago is not listed after a rewind either
    row (with left) (0 ∷ 0 ∷ 0 ∷ 0 ∷ 0 ∷ 0 ∷ 22 ∷ 0 ∷ 0 ∷ 3 ∷ [])
    ∷ row (without left) (0 ∷ 0 ∷ 0 ∷ 0 ∷ 0 ∷ 0 ∷ 22 ∷ 0 ∷ 0 ∷ 3 ∷ [])
    -- a tuple flagged during the sweep is
    ∷ row (drop 42 (with during)) (22 ∷ 0 ∷ 0 ∷ 6 ∷ 9 ∷ 1100 ∷ 100 ∷ 0 ∷ [])
    ∷ row (drop 42 (without during)) (22 ∷ 0 ∷ 0 ∷ 6 ∷ 9 ∷ 1100 ∷ 100 ∷ 0 ∷ [])
    ∷ []

-- what the computations open besides
unfoldable opens : ℕ
unfolding opened number_of stamp_at stamps_of said_by all_below updaters_idle queries_idle is_at_rest wound_stamp wound_clock wound_tables
    rewind_tables
opens = 0

-- each part by computing it
rewind_rows_lem : Holds rewind_rows
unfolding opens rewind_rows
rewind_rows_lem = refl

stamp_rows_lem : Holds stamp_rows
unfolding opens stamp_rows
stamp_rows_lem = refl

alike_rows_lem : Holds alike_rows
unfolding opens alike_rows
alike_rows_lem = refl

-- THE TABLE
pub rewind_table : List Row
rewind_table = rewind_rows ++ stamp_rows ++ alike_rows

-- THE PROOF: every row gives what it says
pub rewinds : Holds rewind_table
unfolding rewind_table
rewinds = both _ alike_rows (both rewind_rows stamp_rows rewind_rows_lem stamp_rows_lem) alike_rows_lem

-- ---- A CONTROL: the promise of a rewind (crate alike) is not kept by one that turns a stamp below zero to 1

unfoldable pub turned : ℤ → ℤ
turned (pos n) = wound_stamp (pos n)
turned (negsuc n) = pos 1

-- the grid after such a rewind
abbrev pub turned_grid : Grid → Grid
turned_grid g =
    let t = g.tables in
    grid_of (with_clock (with_times t (map turned t.tuples.time)) (wound_clock t.clock)) g.updaters g.queries

-- the sweep of cell 0 then lists 9 where it was, as if it stood there; without a rewind it lists nothing
listed : said_by (answers left (turned_grid (run moved empty_grid)))
    ≡ 0 ∷ 0 ∷ 0 ∷ 0 ∷ 0 ∷ 0 ∷ 22 ∷ 0 ∷ 0 ∷ 3 ∷ 9 ∷ 100 ∷ 100 ∷ 0 ∷ []
unfolding opens turned
listed = refl

unlisted : without left ≡ 0 ∷ 0 ∷ 0 ∷ 0 ∷ 0 ∷ 0 ∷ 22 ∷ 0 ∷ 0 ∷ 3 ∷ []
unfolding opens
unlisted = refl

-- no answer is 8, so that the promise would have them equal
pub control : answers left (turned_grid (run moved empty_grid)) ≡ answers left (run moved empty_grid) → ⊥
control e =
    let n : ◌≡◌ {A = ℕ} 14 10 = ap length (sym listed ∙ ap said_by e ∙ unlisted) in
    absurd (omega arith)
