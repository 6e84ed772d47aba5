-- The calls of updates in one lane (document 01: report start, report step): what `update_start` and `update_step` do with the lane that they name.
-- That the calls over all lanes are these, in that lane, is proofs/Lane.antt.
use Rattle.std.specs.Prelude.{not, ℕ, suc, eqb, leb, ltb}
use Rattle.base.specs.Numbers.{DONE, NO-SUCH-LANE, LANE-TAKEN, LANE-IDLE}
use Rattle.base.specs.Numbers.{NO-OBJECT, OFF-GRID, TAG-OVER, GRID-FULL, CLOCK-EXHAUSTED, CORRUPT}
use Rattle.base.specs.Outcome.{Outcome, corrupt, blocked, done}
use Rattle.layout.specs.Place.{on_grid}
use Rattle.index.specs.Search.{search}
use Rattle.index.specs.Index.{Index, enter}
use Rattle.stage.specs.Turn.{is_idle}
use Rattle.stage.specs.declared.Stage.TheVariants.{TakeObject}
use Rattle.stage.specs.declared.Updater.{Updater}
use Rattle.tables.specs.Tables.{Tables, with_index, right_lengths}
use Rattle.calls.specs.Call.{Result, refused, answered, unless, stepped}
use Rattle.turns.specs.Stages.{stage_on}
use Rattle.updates.specs.Update.{search_has_room, with_stage}

-- A step of the update u of lane l.
unfoldable pub step_one : Tables → ℕ → Updater → Result Updater
step_one t l u =
    unless (right_lengths t) CORRUPT
    (unless (ltb l 8) NO-SUCH-LANE
    (unless (not (is_idle u.stage)) LANE-IDLE
    (stepped t u (with_stage u) (stage_on t (suc l) u u.stage))))

unfoldable pub started_one : Tables → Updater → Outcome Index → Result Updater
started_one t u corrupt = refused CORRUPT
started_one t u blocked = refused CORRUPT
started_one t u (done d) = answered DONE (with_index t d) u

-- A start of an update of object k, to stand at (x, y) with tag m, in lane l, where the update u is.
unfoldable pub start_one : Tables → ℕ → Updater → ℕ → ℕ → ℕ → ℕ → Result Updater
start_one t l u k x y m =
    unless (right_lengths t) CORRUPT
    (unless (ltb l 8) NO-SUCH-LANE
    (unless (is_idle u.stage) LANE-TAKEN
    (unless (not (eqb k 0)) NO-OBJECT
    (unless (on_grid x y) OFF-GRID
    (unless (leb m 9) TAG-OVER
    (unless (search_has_room (search t.index.oid k) t.index.oid) GRID-FULL
    (unless (ltb t.clock 2147483600) CLOCK-EXHAUSTED
    (started_one t (record { oid = k; x = x; y = y; tag = m; stage = TakeObject }) (enter t.index k)))))))))
