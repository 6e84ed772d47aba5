-- How a step of an update ends, in document 01's numbers, and the words that the stages are written in.
use Rattle.std.specs.Prelude.{Bool, true, false, List, ℕ, ◌+◌, ltb}
use Rattle.std.specs.Prelude.{None, Some, Result, Ok, Err}
use Rattle.base.specs.Numbers.{DONE, BLOCKED, RESTARTED, FINISHED, CORRUPT}
use Rattle.base.specs.Outcome.{Outcome, corrupt, blocked, done, need, and_then}
use Rattle.base.specs.Step.{Said, said, Step, step_of}
use Rattle.base.specs.declared.Stop.{Stop}
use Rattle.base.specs.declared.Stop.TheVariants.{Corrupt, Blocked}
use Rattle.locks.specs.Lock.{take_lock}
use Rattle.index.specs.declared.search.Search.{Search}
use Rattle.index.specs.declared.search.Search.TheVariants.{Found, Empty}
use Rattle.stage.specs.declared.Stage.{Stage}
use Rattle.stage.specs.declared.Stage.TheVariants.{Idle, TakeObject, LockCell, LookLast, CopyLast, LowerCount, ReturnBucket, ErasePlace, ChooseCell, MakeRoom, WriteTuple, RaiseCount, SwitchPlace, DeleteOld, ReleaseObject}
use Rattle.stage.specs.declared.Turn.{Turn}
use Rattle.stage.specs.declared.Turn.TheVariants.{Advanced, Restarted, Finished}

-- broken tables: 12; held: 20; moved on: 0 and the next stage; went back: 21, to stage 1; finished: 22, idle
abbrev pub turn_says : Result Turn Stop → Said Stage
turn_says (Err Corrupt) = said CORRUPT None
turn_says (Err Blocked) = said BLOCKED None
turn_says (Ok (Advanced s)) = said DONE (Some s)
turn_says (Ok Restarted) = said RESTARTED (Some TakeObject)
turn_says (Ok Finished) = said FINISHED (Some Idle)

-- what a stage comes to, unless it is refused or blocked: its number, the next stage, and the tables
abbrev pub Move : Type 0 → Type 0
Move B = Step Stage B

-- moved on to a stage
abbrev pub advance : {B : Type 0} → Stage → B → Outcome (Move B)
advance s t = done (step_of DONE s t)

-- went back to the first
abbrev pub restart : {B : Type 0} → B → Outcome (Move B)
restart t = done (step_of RESTARTED TakeObject t)

-- finished
abbrev pub finish : {B : Type 0} → B → Outcome (Move B)
finish t = done (step_of FINISHED Idle t)

-- go on at the entry of an object; a missing object is corrupt
unfoldable pub at_entry : {A : Type 0} → Search → (ℕ → Outcome A) → Outcome A
at_entry (Found i) k = k i
at_entry (Empty i) k = corrupt

-- go on with what came of the first, or with b where it was blocked
unfoldable pub attempt : {A B : Type 0} → Outcome A → Outcome B → (A → Outcome B) → Outcome B
attempt corrupt b k = corrupt
attempt blocked b k = b
attempt (done a) b k = k a

-- Take a lock and go on to a stage; blocked if it is taken.
unfoldable pub hold : List ℕ → ℕ → ℕ → Stage → Outcome (Move (List ℕ))
hold locks i owner next = and_then (take_lock locks i owner) (λ l. advance next l)

-- Draw a stamp: the clock with one added, which must stay a stamp's magnitude.
unfoldable pub draw : {A : Type 0} → ℕ → (ℕ → Outcome A) → Outcome A
draw clock k = need (ltb clock 2147483647) (k (clock + 1))

-- the stamp itself
abbrev pub drawn : ℕ → Outcome ℕ
drawn clock = draw clock (λ n. done n)

unfoldable pub is_idle : Stage → Bool
is_idle Idle = true
is_idle TakeObject = false
is_idle (LockCell p) = false
is_idle (LookLast p) = false
is_idle (CopyLast p m) = false
is_idle (LowerCount p m) = false
is_idle (ReturnBucket p m b) = false
is_idle (ErasePlace p m) = false
is_idle ChooseCell = false
is_idle MakeRoom = false
is_idle WriteTuple = false
is_idle (RaiseCount p) = false
is_idle (SwitchPlace p) = false
is_idle (DeleteOld p) = false
is_idle ReleaseObject = false
