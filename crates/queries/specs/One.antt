-- The calls of range queries in one lane (document 01: sweep start, sweep step): what `query_start` and `query_step` do with the lane that they name.
-- That the calls over all lanes are these, in that lane, is proofs/Lane.antt.
use Rattle.std.specs.Prelude.{not, ℕ, ◌+◌, ltb}
use Rattle.base.specs.Numbers.{DONE, NO-SUCH-LANE, LANE-TAKEN, LANE-IDLE}
use Rattle.base.specs.Numbers.{OFF-GRID, CROSSED-CORNERS, RADIUS-OVER, CLOCK-EXHAUSTED, QUERY-FINISHED, CORRUPT}
use Rattle.layout.specs.Question.{corners_on, ordered}
use Rattle.regions.specs.Region.{right_radius}
use Rattle.regions.specs.declared.region.Region.{Region}
use Rattle.query.specs.declared.Query.{Query}
use Rattle.tables.specs.Tables.{Tables, with_clock, right_lengths}
use Rattle.calls.specs.Call.{Result, answered, unless, stepped}
use Rattle.queries.specs.Query.{is_idle, is_finished, begun}
use Rattle.queries.specs.Scans.{scan_on}

-- A start of a query with the question u in lane l, where the query q is.
unfoldable pub start_one : Tables → ℕ → Query → Region → Result Query
start_one t l q u =
    unless (right_lengths t) CORRUPT
    (unless (ltb l 4) NO-SUCH-LANE
    (unless (is_idle q.stage) LANE-TAKEN
    (unless (corners_on u.area) OFF-GRID
    (unless (ordered u.area) CROSSED-CORNERS
    (unless (right_radius u) RADIUS-OVER
    (unless (ltb t.clock 2147483600) CLOCK-EXHAUSTED
    (answered DONE (with_clock t (t.clock + 1)) (begun u (t.clock + 1)))))))))

-- A step of the query q of lane l.
unfoldable pub step_one : Tables → ℕ → Query → Result Query
step_one t l q =
    unless (right_lengths t) CORRUPT
    (unless (ltb l 4) NO-SUCH-LANE
    (unless (not (is_idle q.stage)) LANE-IDLE
    (unless (not (is_finished q.stage)) QUERY-FINISHED
    (stepped t q (λ s. s) (scan_on t l q q.stage)))))
