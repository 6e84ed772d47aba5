-- THE OPERATIONS OVER CODED LANES: each is the operation in one lane on what the lane's numbers say, and the lane's numbers afterwards are those of the
-- lane that it leaves; a refused call, and a run that carries out no step, leaves them as they are.
-- A lane that is none comes first (1), then a number that names no stage or no kind of question (12): the lane cannot be told without it.
use Rattle.std.specs.Prelude.{List, ℕ, eqb, ltb, length, replicate}
use Rattle.base.specs.Numbers.{DONE, NO-SUCH-LANE, CORRUPT}
use Rattle.base.specs.Outcome.{pick}
use Rattle.layout.specs.declared.question.Question.{Question as Rectangle}
use Rattle.tables.specs.Tables.{Tables, right_lengths, empty_tables}
use Rattle.calls.specs.Call.{Result, refused, answered, unless}
use Rattle.calls.specs.Run.{Ran, ran_of}
use Rattle.updates.specs.One.{start_one}
use Rattle.update_run.specs.Run.{run_one}
use Rattle.queries.specs.One.{start_one as start_query}
use Rattle.query_run.specs.Run.{run_one as runQuery}
use Rattle.collect.specs.One.{FillingOne, filling_one_of, read_one_into, clear_one}
use Rattle.codes.specs.Updaters.{names_stage, updater_in, with_updater}
use Rattle.codes.specs.Queries.{names_kind, asked_by, names_query, query_in, with_query}
use Rattle.codes.specs.Rest.{stages_to, scans_to, updaters_in, queries_in}
use Rattle.rewind.specs.Rewind.{rewind_tables}

-- what a call in one lane comes to, where `store` puts the lane's numbers in their place
unfoldable pub coded : {L : Type 0} → (L → List ℕ) → Result L → Result (List ℕ)
coded store (refused n) = refused n
coded store (answered n t u) = answered n t (store u)

-- the same of a run
abbrev pub coded_run : {L : Type 0} → List ℕ → (L → List ℕ) → Ran L → Ran (List ℕ)
coded_run ns store r = ran_of r.number r.made r.tables (pick (eqb r.made 0) ns (store r.lanes))

-- A START of an update of object k, to stand at (x, y) with tag m, in lane l.
unfoldable pub start_update : Tables → List ℕ → ℕ → ℕ → ℕ → ℕ → ℕ → Result (List ℕ)
start_update t ns l k x y m =
    unless (ltb l 8) NO-SUCH-LANE
    (unless (names_stage ns l) CORRUPT
    (coded (with_updater ns l) (start_one t l (updater_in ns l) k x y m)))

-- UP TO n STEPS of the update in lane l.
unfoldable pub run_update : ℕ → ℕ → Tables → List ℕ → Ran (List ℕ)
run_update n l t ns =
    pick (eqb n 0) (ran_of DONE 0 t ns)
    (pick (ltb l 8)
    (pick (names_stage ns l) (coded_run ns (with_updater ns l) (run_one n l t (updater_in ns l))) (ran_of CORRUPT 0 t ns))
    (ran_of NO-SUCH-LANE 0 t ns))

-- A START of a query in lane l: the number of its kind of question, its rectangle and its radius.
unfoldable pub start_sweep : Tables → List ℕ → ℕ → ℕ → Rectangle → ℕ → Result (List ℕ)
start_sweep t ns l k a r =
    unless (ltb l 4) NO-SUCH-LANE
    (unless (names_query ns l) CORRUPT
    (unless (names_kind k) CORRUPT
    (coded (with_query ns l) (start_query t l (query_in ns l) (asked_by k a r)))))

-- UP TO n STEPS of the query in lane l.
unfoldable pub run_sweep : ℕ → ℕ → Tables → List ℕ → Ran (List ℕ)
run_sweep n l t ns =
    pick (eqb n 0) (ran_of DONE 0 t ns)
    (pick (ltb l 4)
    (pick (names_query ns l) (coded_run ns (with_query ns l) (runQuery n l t (query_in ns l))) (ran_of CORRUPT 0 t ns))
    (ran_of NO-SUCH-LANE 0 t ns))

-- A READING from lane l into the list out: the lanes' numbers are not among what is afterwards, they stay as they are.
unfoldable pub read_from : Tables → List ℕ → ℕ → List ℕ → FillingOne
read_from t ns l out =
    pick (ltb l 4)
    (pick (names_query ns l) (read_one_into t l (query_in ns l) out) (filling_one_of CORRUPT t 0 0 out))
    (filling_one_of NO-SUCH-LANE t 0 0 out)

-- A CLEARING of lane l.
unfoldable pub clear_lane : Tables → List ℕ → ℕ → Result (List ℕ)
clear_lane t ns l =
    unless (ltb l 4) NO-SUCH-LANE
    (unless (names_query ns l) CORRUPT
    (coded (with_query ns l) (clear_one t l (query_in ns l))))

-- the numbers of both kinds of lanes
pub record Lanes : Type 0 where
  pub updaters : List ℕ
  pub queries : List ℕ

abbrev pub lanes_of : List ℕ → List ℕ → Lanes
lanes_of us qs = record { updaters = us; queries = qs }

-- A FRESH DECK: the empty grid, and every number of every lane 0, which is the code of an idle lane.
unfoldable pub reset_deck : Tables → Lanes → Result Lanes
reset_deck t ls =
    unless (right_lengths t) CORRUPT
    (answered DONE empty_tables (lanes_of (replicate (length ls.updaters) 0) (replicate (length ls.queries) 0)))

-- A REWIND: 12 where a lane's number names no stage; else that of the lanes which the numbers say. The lanes' numbers stay as they are.
unfoldable pub rewind_deck : Tables → List ℕ → List ℕ → Result (Unit {0})
rewind_deck t us qs =
    unless (stages_to us 14) CORRUPT
    (unless (scans_to qs 3) CORRUPT
    (rewind_tables t (updaters_in us) (queries_in qs)))
