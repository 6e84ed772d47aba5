-- THE NUMBERS OF REFUSALS AND OF STEPS (document 01's table, base/specs/Numbers.antt), and everything after a call as its Result tells it.
use Rattle.std.specs.Prelude.{ℕ, Result, Ok, Err}
use Rattle.base.specs.Numbers.{DONE, BLOCKED, RESTARTED, FINISHED}
use Rattle.base.specs.Numbers.{NO-SUCH-LANE, LANE-TAKEN, LANE-IDLE, NO-OBJECT, OFF-GRID, CROSSED-CORNERS, GRID-FULL, CLOCK-EXHAUSTED}
use Rattle.base.specs.Numbers.{QUERY-FINISHED, QUERY-UNFINISHED, SHORT-OUTPUT, CORRUPT, UNREADABLE, BUSY, TAG-OVER, RADIUS-OVER}
use Rattle.regions.specs.declared.region.BadRegion.{BadRegion}
use Rattle.regions.specs.declared.region.BadRegion.TheVariants.{OffGrid as RegionOffGrid, Crossed, Wide}
use Rattle.tables.specs.Tables.{Tables}
use Rattle.calls.specs.Call.{After, after_of}
use Rattle.calls.specs.declared.refusal.Refusal.{Refusal}
use Rattle.calls.specs.declared.refusal.Refusal.TheVariants.{NoSuchLane, LaneTaken, LaneIdle, NoObject, OffGrid, CrossedCorners, GridFull, ClockExhausted}
use Rattle.calls.specs.declared.refusal.Refusal.TheVariants.{QueryFinished, QueryUnfinished, ShortOutput, Corrupt, Unreadable, Busy, TagOver, RadiusOver}
use Rattle.calls.specs.declared.pace.Pace.{Pace}
use Rattle.calls.specs.declared.pace.Pace.TheVariants.{Moved, Blocked, Restarted, Finished}
use Rattle.calls.specs.declared.pace.Stepped.{Stepped}

abbrev pub refusal_number : Refusal → ℕ
refusal_number NoSuchLane = NO-SUCH-LANE
refusal_number LaneTaken = LANE-TAKEN
refusal_number LaneIdle = LANE-IDLE
refusal_number NoObject = NO-OBJECT
refusal_number OffGrid = OFF-GRID
refusal_number CrossedCorners = CROSSED-CORNERS
refusal_number GridFull = GRID-FULL
refusal_number ClockExhausted = CLOCK-EXHAUSTED
refusal_number QueryFinished = QUERY-FINISHED
refusal_number QueryUnfinished = QUERY-UNFINISHED
refusal_number ShortOutput = SHORT-OUTPUT
refusal_number Corrupt = CORRUPT
refusal_number Unreadable = UNREADABLE
refusal_number Busy = BUSY
refusal_number TagOver = TAG-OVER
refusal_number RadiusOver = RADIUS-OVER

abbrev pub pace_number : Pace → ℕ
pace_number Moved = DONE
pace_number Blocked = BLOCKED
pace_number Restarted = RESTARTED
pace_number Finished = FINISHED

-- why a start with a question that is not accepted is refused
abbrev pub refusal_of : BadRegion → Refusal
refusal_of RegionOffGrid = OffGrid
refusal_of Crossed = CrossedCorners
refusal_of Wide = RadiusOver

-- of a step, or of a run of steps
abbrev pub end_number : Result Pace Refusal → ℕ
end_number (Ok p) = pace_number p
end_number (Err r) = refusal_number r

-- of a call that takes no step
abbrev pub call_number : {A : Type 0} → Result A Refusal → ℕ
call_number (Ok a) = DONE
call_number (Err r) = refusal_number r

-- AFTER A CALL on the lanes ls that takes no step, where t are the tables: accepted it hands the lanes back, refused they are as they were.
abbrev pub told_call : {L : Type 0} → L → Result L Refusal → Tables → After L
told_call ls (Ok ls') t = after_of DONE t ls'
told_call ls (Err r) t = after_of (refusal_number r) t ls

-- AFTER A STEP on the lanes ls.
abbrev pub told_step : {L : Type 0} → L → Result (Stepped L) Refusal → Tables → After L
told_step ls (Ok s) t = after_of (pace_number s.pace) t s.lanes
told_step ls (Err r) t = after_of (refusal_number r) t ls
