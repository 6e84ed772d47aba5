-- Document 01's starred trials (trials at the bench) as rows of one table, and one proof that covers the table.
-- A row has what a definition gives and what document 01 says it gives.
use Rattle.std.specs.Prelude.{◌≡◌, refl, List, [], ◌∷◌, ◌++◌, ℕ, zero, suc, length, drop, get_or}
use Rattle.std.specs.Prelude.{Option, None, Some}
use Rattle.base.specs.Lists.{numbers_from}
use Rattle.base.specs.Outcome.{pick, one, need, awaits, and_then}
use Rattle.layout.specs.Place.{on_grid, cell_of, encode, decode}
use Rattle.layout.specs.Question.{corners, corners_on, ordered}
use Rattle.regions.specs.Region.{centre, cells_touched}
use Rattle.regions.specs.Trials.{opened as questions}
use Rattle.index.specs.Search.{start as hash, search, probe, after as after#, known}
use Rattle.index.specs.Index.{enter, enter_at, empty}
use Rattle.index.specs.Places.{read_place, put_place, erase_place, shift}
use Rattle.pool.specs.Pool.{height, with_height, members, fresh, take_top as pool-take, give as pool-give}
use Rattle.locks.specs.Lock.{look, take_lock, release}
use Rattle.slots.specs.Stamp.{stamp_of, stamp_range}
use Rattle.slots.specs.Tuple.{need_slot, copy, overwrite, delete, sign, sign_of, seen, read, seen_by}
use Rattle.cells.specs.Chain.{first_bucket, need_some, last_in, lower, give_back, push, make_room, write, raise}
use Rattle.stage.specs.declared.Stage.{Stage}
use Rattle.stage.specs.declared.Stage.TheVariants.{Idle, TakeObject, LockCell, LookLast, CopyLast, LowerCount, ReturnBucket, ErasePlace, ChooseCell, MakeRoom, WriteTuple, RaiseCount, SwitchPlace, DeleteOld, ReleaseObject}
use Rattle.stage.specs.Turn.{at_entry, attempt, draw, is_idle, hold}
use Rattle.acquire.specs.Acquire.{stage1, stage2, stage3, go_back, stage14}
use Rattle.erase.specs.Erase.{stage4, stage5, stage6, stage7, free_cell, correct, correct_moved}
use Rattle.choose.specs.Choose.{rewrite, lock_new, choose, stage8}
use Rattle.write.specs.Write.{stage9, stage10}
use Rattle.commit.specs.Commit.{stage11, stage12, stage13}
use Rattle.tables.specs.Tables.{empty_tables, right_lengths, right_cells, right_tuples, right_index, right_hits}
use Rattle.base.specs.Step.{lift}
use Rattle.turns.specs.Stages.{stage_on}
use Rattle.readers.specs.Reader.{add_reader, take_reader, leave_for}
use Rattle.hits.specs.Hits.{look_from, enlist, note}
use Rattle.query.specs.Scan.{counted, after_cell, enter_free, enter_step, leave_last, leave_step, comparable, consider, read_step}
use Rattle.calls.specs.Call.{after, unless, stepped}
use Rattle.updates.specs.Update.{update_start, update_step, started, search_has_room, idle_updater, idle_updaters}
use Rattle.queries.specs.Scans.{scan_on}
use Rattle.queries.specs.Query.{query_start, query_step, idle_queries, is_finished, is_idle as isIdleQuery}
use Rattle.collect.specs.Collect.{read_query, clear_query, cleared, then_clear, collect_query, entries_from}
use Rattle.grid.specs.Run.{Grid, empty_grid, Call, start_update, step_update, start_query, step_query, collect, Answer, call, run, answers}
use Rattle.base.specs.Table.{upd}
use Rattle.cells.specs.Walk.{chain_of, buckets_from, in_front, tuples_in}
use Rattle.base.specs.Sums.{sum_below, bit}
use Rattle.cost.specs.Account.{Event, history, deed, only_if, under_way, among, known as known_of, tally, tally_step, step_of, Sweep, sweeps as queriesOf, latest, total}

pub record Row : Type 0 where
  pub gives : List ℕ
  pub says : List ℕ

abbrev pub row : List ℕ → List ℕ → Row
row g s = record { gives = g; says = s }

-- the number for a rectangle by its corners
abbrev corners_number : ℕ → ℕ → ℕ → ℕ → ℕ
corners_number x0 y0 x1 y1 = (corners (record { x0 = x0; y0 = y0; x1 = x1; y1 = y1 })).number

-- ---- runs from the empty grid

-- a report with mark 0
abbrev pub start : ℕ → ℕ → ℕ → ℕ → Call
start l k x y = start_update l k x y 0

-- with a mark
abbrev pub marked : ℕ → ℕ → ℕ → ℕ → ℕ → Call
marked l k x y m = start_update l k x y m

abbrev pub step : ℕ → Call
step l = step_update l

abbrev pub sweep : ℕ → ℕ → ℕ → ℕ → ℕ → Call
sweep l x0 y0 x1 y1 = start_query l (centre (record { x0 = x0; y0 = y0; x1 = x1; y1 = y1 }))

-- the numbers that the calls give, one after the other
unfoldable pub numbers_of : List Answer → List ℕ
numbers_of [] = []
numbers_of (a ∷ l) = a.number ∷ numbers_of l

abbrev numbers : Grid → List Call → List ℕ
numbers g cs = numbers_of (answers cs g)

-- n steps of one lane
unfoldable pub steps : ℕ → ℕ → List Call
steps l zero = []
steps l (suc n) = step l ∷ steps l n

unfoldable pub sweeps : ℕ → ℕ → List Call
sweeps l zero = []
sweeps l (suc n) = step_query l ∷ sweeps l n

-- the steps and the entries that a collection from lane 0 hands back after the calls, after its number
pub collected : List Call → List ℕ
collected cs = let a = (call (collect 0 1024) (run cs empty_grid)).0 in a.number ∷ a.steps ∷ a.part

-- the account of the last query of lane 0 after the calls: its steps, K, N, whether it has finished, what was found in its cells, and the tally's count
account_by : Option Sweep → ℕ → List ℕ
account_by None n = []
account_by (Some q) n = q.steps ∷ cells_touched q.question ∷ length q.objects ∷ bit q.finished ∷ total q.entered ∷ n ∷ []

pub account : List Call → List ℕ
account cs = let past = history cs empty_grid [] in account_by (latest 0 (queriesOf past)) (tally past 0).count

-- the tally's answers to the accepted steps of queries, the last one first
pub tallied : List Event → List ℕ
tallied [] = []
tallied (e ∷ past) = only_if (deed e).goes (λ a. (step_of e.seen (tally past a.0)).0 ∷ tallied past) (tallied past)

-- the number of a stage in document 01, 0 for idle
stage_no : Stage → ℕ
stage_no Idle = 0
stage_no TakeObject = 1
stage_no (LockCell p) = 2
stage_no (LookLast p) = 3
stage_no (CopyLast p m) = 4
stage_no (LowerCount p m) = 5
stage_no (ReturnBucket p m b) = 6
stage_no (ErasePlace p m) = 7
stage_no ChooseCell = 8
stage_no MakeRoom = 9
stage_no WriteTuple = 10
stage_no (RaiseCount p) = 11
stage_no (SwitchPlace p) = 12
stage_no (DeleteOld p) = 13
stage_no ReleaseObject = 14

-- the stages at which lane 0 stands after each call
pub stages : Grid → List Call → List ℕ
stages g [] = []
stages g (k ∷ ks) = let h = (call k g).1 in stage_no (get_or h.updaters 0 idle_updater).stage ∷ stages h ks

-- how many updates of object k there were during the last query of lane 0
during_by : Option Sweep → ℕ → List ℕ
during_by None k = []
during_by (Some q) k = one (q.updates k)

pub during : List Call → ℕ → List ℕ
during cs k = during_by (latest 0 (queriesOf (history cs empty_grid []))) k

-- carrier 7 is reported once, at (100, 100)
abbrev seven : List Call
seven = start 0 7 100 100 ∷ steps 0 7

-- Carrier 9 was at (100, 100) and stands at (1100, 100). A sweep of cells 0 to 2 finishes cells 0 and 1; 9 goes to
-- (2100, 100); the sweep goes on: 8 steps, and 9.
abbrev eight : List Call
eight =
    (start 0 9 100 100 ∷ steps 0 7) ++ (start 0 9 1100 100 ∷ steps 0 8) ++ (sweep 0 0 0 3071 100 ∷ sweeps 0 6)
    ++ (start 0 9 2100 100 ∷ steps 0 14) ++ sweeps 0 2

abbrev nine : List Call
nine = eight ++ step_query 0 ∷ []

-- The same with a sweep of cells 0 to 3, which finishes cell 2 too; 9 goes to (3100, 100): 12 steps.
abbrev twelve : List Call
twelve =
    (start 0 9 100 100 ∷ steps 0 7) ++ (start 0 9 1100 100 ∷ steps 0 8) ++ (sweep 0 0 0 4095 100 ∷ sweeps 0 6)
    ++ (start 0 9 2100 100 ∷ steps 0 14) ++ sweeps 0 3 ++ (start 0 9 3100 100 ∷ steps 0 14) ++ sweeps 0 3

-- Carrier 9 stands at (2100, 100). A sweep of cells 0 to 2 finishes cells 0 and 1; 9 goes to (100, 100) and then to
-- (1100, 100).
abbrev lost : List Call
lost =
    (start 0 9 2100 100 ∷ steps 0 7) ++ (sweep 0 0 0 3071 100 ∷ sweeps 0 2) ++ (start 0 9 100 100 ∷ steps 0 8)
    ++ (start 0 9 1100 100 ∷ steps 0 14) ++ sweeps 0 1

-- A sweep, collected, and another one of its lane, which is blocked at the cell that a report has locked; a step of
-- lane 4 is refused.
abbrev again : List Call
again =
    seven ++ (sweep 0 0 0 1023 1023 ∷ sweeps 0 3)
    ++ collect 0 1024 ∷ start 0 8 200 200 ∷ step 0 ∷ step 0 ∷ sweep 0 0 0 1023 1023 ∷ step_query 0 ∷ step_query 4 ∷ []

-- ---- the rows, in parts that are computed one by one

-- numbers of places and entries, and coordinates at the edge
unfoldable pub number_rows : List Row
number_rows =
    -- where the search starts for carrier 1, 2 and 4,294,967,295
    row (one (hash 1)) (one 316)
    ∷ row (one (hash 2)) (one 120)
    ∷ row (one (hash 4294967295)) (one 195)
    -- coordinate 16,383 is accepted, 16,384 gives 5, in x and in y
    ∷ row (one (corners_number 16383 16383 16383 16383)) (one 0)
    ∷ row (one (corners_number 0 0 16384 0)) (one 5)
    ∷ row (one (corners_number 0 0 0 16384)) (one 5)
    -- the cell of (16,383, 16,383)
    ∷ row (one (cell_of 16383 16383)) (one 255)
    -- a rectangle of one point is accepted; lower x one above upper gives 6
    ∷ row (one (corners_number 100 100 100 100)) (one 0)
    ∷ row (one (corners_number 101 100 100 100)) (one 6)
    -- a report and a sweep at coordinate 16,383 are accepted; 16,384 gives 5, in x and in y, at either corner
    ∷ row (numbers empty_grid (start 0 7 16383 16383 ∷ start 1 8 16384 0 ∷ start 1 8 0 16384 ∷ [])) (0 ∷ 5 ∷ 5 ∷ [])
    ∷ row (numbers empty_grid (sweep 0 16383 16383 16383 16383 ∷ sweep 1 0 0 16384 0 ∷ sweep 1 0 0 0 16384 ∷ []))
    (0 ∷ 5 ∷ 5 ∷ [])
    ∷ row (numbers empty_grid (sweep 0 16384 0 16384 0 ∷ sweep 0 0 16384 0 16384 ∷ [])) (5 ∷ 5 ∷ [])
    -- and a carrier reported there is listed there
    ∷ row (collected ((start 0 7 16383 16383 ∷ steps 0 7) ++ sweep 0 16383 16383 16383 16383 ∷ sweeps 0 3))
    (0 ∷ 3 ∷ 7 ∷ 16383 ∷ 16383 ∷ 0 ∷ [])
    ∷ []

-- reports
unfoldable pub report_rows : List Row
report_rows =
    -- first report: 7 steps
    row (numbers empty_grid (start 0 7 100 100 ∷ steps 0 7)) (0 ∷ 0 ∷ 0 ∷ 0 ∷ 0 ∷ 0 ∷ 0 ∷ 22 ∷ [])
    -- within the cell: 3
    ∷ row (drop 8 (numbers empty_grid (seven ++ start 0 7 200 200 ∷ steps 0 3))) (0 ∷ 0 ∷ 0 ∷ 22 ∷ [])
    -- to another cell with no former place: 8
    ∷ row (drop 8 (numbers empty_grid (seven ++ start 0 7 2000 100 ∷ steps 0 8)))
    (0 ∷ 0 ∷ 0 ∷ 0 ∷ 0 ∷ 0 ∷ 0 ∷ 0 ∷ 22 ∷ [])
    -- a former tuple alone in its cell: stage 3 goes on, stage 5 unlinks, so every stage is passed
    ∷ row (drop 17 (stages empty_grid (seven ++ (start 0 7 2000 100 ∷ steps 0 8) ++ start 0 7 4000 100 ∷ steps 0 14)))
    (1 ∷ 2 ∷ 3 ∷ 4 ∷ 5 ∷ 6 ∷ 7 ∷ 8 ∷ 9 ∷ 10 ∷ 11 ∷ 12 ∷ 13 ∷ 14 ∷ 0 ∷ [])
    -- two lanes report one carrier: the second is held at stage 1
    ∷ row (numbers empty_grid (start 0 7 100 100 ∷ step 0 ∷ start 1 7 300 300 ∷ step 1 ∷ [])) (0 ∷ 0 ∷ 0 ∷ 20 ∷ [])
    ∷ []

-- sweeps and their lists
unfoldable pub sweep_rows : List Row
sweep_rows =
    -- a rectangle of one point is accepted, and a carrier on it is listed; lower x one above upper gives 6
    row (drop 8 (numbers empty_grid (seven ++ sweep 0 100 100 100 100 ∷ sweep 1 101 100 100 100 ∷ []))) (0 ∷ 6 ∷ [])
    ∷ row (collected (seven ++ sweep 0 100 100 100 100 ∷ sweeps 0 3)) (0 ∷ 3 ∷ 7 ∷ 100 ∷ 100 ∷ 0 ∷ [])
    -- an empty deck, one cell: one step, no entry
    ∷ row (numbers empty_grid (sweep 0 0 0 1023 1023 ∷ sweeps 0 1)) (0 ∷ 22 ∷ [])
    ∷ row (collected (sweep 0 0 0 1023 1023 ∷ sweeps 0 1)) (0 ∷ 1 ∷ [])
    -- carrier 9, alone and reported once, is at (2100, 100); the sweep has passed cell 0; 9 goes to (100, 100) to the end: listed at (2100, 100), 5 steps
    ∷ row (collected ((start 0 9 2100 100 ∷ steps 0 7) ++ (sweep 0 0 0 3071 100 ∷ sweeps 0 1) ++ (start 0 9 100 100 ∷ steps 0 8) ++ sweeps 0 4)) (0 ∷ 5 ∷ 9 ∷ 2100 ∷ 100 ∷ 0 ∷ [])
    -- carrier 9, alone, was at (100, 100), stands at (1100, 100); the same sweep finishes cells 0 and 1; 9 goes to (2100, 100): listed there after 9 steps
    ∷ row (collected nine) (0 ∷ 9 ∷ 9 ∷ 2100 ∷ 100 ∷ 0 ∷ [])
    -- which finishes with that step
    ∷ row (drop 39 (numbers empty_grid nine)) (0 ∷ 0 ∷ 22 ∷ [])
    -- the same rectangle on two decks with different carriers in it: different lists
    ∷ row (collected (seven ++ sweep 0 0 0 1023 1023 ∷ sweeps 0 3)) (0 ∷ 3 ∷ 7 ∷ 100 ∷ 100 ∷ 0 ∷ [])
    ∷ row (collected ((start 0 8 200 200 ∷ steps 0 7) ++ sweep 0 0 0 1023 1023 ∷ sweeps 0 3)) (0 ∷ 3 ∷ 8 ∷ 200 ∷ 200 ∷ 0 ∷ [])
    ∷ []

-- marks (document 02, request d)
unfoldable pub mark_rows : List Row
mark_rows =
    -- mark 9 is accepted, 10 gives 31; a point off the deck comes before it
    row (numbers empty_grid (marked 0 7 100 100 9 ∷ marked 1 8 100 100 10 ∷ marked 1 8 16384 0 10 ∷ [])) (0 ∷ 31 ∷ 5 ∷ [])
    -- a report with mark 3, then one within the cell with mark 5: listed with 5
    ∷ row (collected ((marked 0 7 100 100 3 ∷ steps 0 7) ++ (marked 0 7 200 200 5 ∷ steps 0 3) ++ sweep 0 0 0 1023 1023 ∷ sweeps 0 3))
    (0 ∷ 3 ∷ 7 ∷ 200 ∷ 200 ∷ 5 ∷ [])
    -- a report that moves during the sweep: the mark listed is that of the place listed
    ∷ row (collected ((marked 0 9 2100 100 1 ∷ steps 0 7) ++ (sweep 0 0 0 3071 100 ∷ sweeps 0 1) ++ (marked 0 9 100 100 2 ∷ steps 0 8) ++ sweeps 0 4))
    (0 ∷ 5 ∷ 9 ∷ 2100 ∷ 100 ∷ 1 ∷ [])
    -- a tuple that stage 4 moves keeps its mark: 8 with mark 4 stands behind 7 in the cell that 7 leaves
    ∷ row (collected ((marked 0 7 100 100 3 ∷ steps 0 7) ++ (marked 0 8 200 200 4 ∷ steps 0 7) ++ (marked 0 7 1100 100 6 ∷ steps 0 8)
    ++ (marked 0 7 2100 100 7 ∷ steps 0 13) ++ sweep 0 0 0 1023 1023 ∷ sweeps 0 3))
    (0 ∷ 3 ∷ 8 ∷ 200 ∷ 200 ∷ 4 ∷ [])
    ∷ []

-- the account of a sweep and the tally's answers
unfoldable pub account_rows : List Row
account_rows =
    -- the sweep of 9 steps: K = 3 and N = 1, so 9 is K + 6N and more than K + 5N; 6 buckets and tuples were found
    row (account nine) (9 ∷ 3 ∷ 1 ∷ 1 ∷ 6 ∷ 9 ∷ [])
    -- before its last step it has had 8, and has not finished
    ∷ row (account eight) (8 ∷ 3 ∷ 1 ∷ 0 ∷ 6 ∷ 8 ∷ [])
    -- a collected one does not count for the next, nor does a step that is blocked or refused
    ∷ row (account again) (0 ∷ 1 ∷ 2 ∷ 0 ∷ 0 ∷ 0 ∷ [])
    ∷ row (tallied (history again empty_grid [])) (20 ∷ 22 ∷ 0 ∷ 0 ∷ [])
    ∷ []

-- how many reports there are during a sweep, and that the bound is for one of each carrier
unfoldable pub bound_rows : List Row
bound_rows =
    -- one report of carrier 9 during the sweep of 9 steps, which is all that the bound allows
    row (during nine 9) (one 1)
    -- with two it does not hold: 12 steps, K = 4, N = 1, and K + 6N = 10
    ∷ row (during twelve 9) (one 2)
    ∷ row (account twelve) (12 ∷ 4 ∷ 1 ∷ 1 ∷ 8 ∷ 12 ∷ [])
    -- nor is a carrier listed then that has all its places inside
    ∷ row (collected lost) (0 ∷ 3 ∷ [])
    ∷ []

-- THE TABLE: more rows go into a part, or into a part of their own
unfoldable pub table : List Row
table = number_rows ++ report_rows ++ sweep_rows ++ mark_rows ++ account_rows ++ bound_rows

unfoldable pub gives : List Row → List (List ℕ)
gives [] = []
gives (r ∷ t) = r.gives ∷ gives t

unfoldable pub says : List Row → List (List ℕ)
says [] = []
says (r ∷ t) = r.says ∷ says t

-- a part of which every row gives what it says
abbrev pub Holds : List Row → Type 0
Holds t = gives t ≡ says t

gives_both : (s t : List Row) → gives (s ++ t) ≡ gives s ++ gives t
unfolding gives
gives_both [] t = refl
gives_both (r ∷ s) t = rw (gives_both s t)

says_both : (s t : List Row) → says (s ++ t) ≡ says s ++ says t
unfolding says
says_both [] t = refl
says_both (r ∷ s) t = rw (says_both s t)

-- two parts together
pub both : (s t : List Row) → Holds s → Holds t → Holds (s ++ t)
both s t h k = rw (gives_both s t, says_both s t, h, k)

-- what the computations open
unfoldable pub opened : ℕ
unfolding questions gives says stages stage_no upd during during_by account account_by tallied history deed only_if under_way among
    known_of tally tally_step queriesOf latest total chain_of buckets_from in_front tuples_in
    sum_below bit corners corners_on ordered on_grid cell_of pick hash numbers_of sweeps collected steps call run answers
    empty_grid empty_tables add_reader take_reader leave_for look_from enlist note counted after_cell
    enter_free enter_step leave_last leave_step comparable consider read_step scan_on query_start query_step idle_queries
    is_finished isIdleQuery read_query clear_query cleared then_clear collect_query entries_from seen read seen_by idle_updaters after update_start update_step
    stepped started stage_on lift unless is_idle search_has_room right_lengths right_cells right_tuples right_index right_hits
    need awaits and_then at_entry attempt draw look take_lock release search probe after# known enter enter_at empty
    members height with_height pool-take pool-give fresh numbers_from encode decode read_place put_place erase_place
    shift stamp_of need_slot stamp_range copy overwrite delete sign sign_of first_bucket need_some last_in lower give_back
    push make_room write raise hold stage1 stage2 stage3 go_back stage14 stage4 stage5 stage6 stage7 free_cell
    correct correct_moved rewrite lock_new choose stage8 stage9 stage10 stage11 stage12 stage13
opened = 0
