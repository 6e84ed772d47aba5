-- THE GRID NEVER STANDS STILL BY ITSELF (document 02, request j): what is under way, the call that is its next step,
-- and when that step is not held. Read off a grid and the numbers that calls on it would give.
use Rattle.std.specs.Prelude.{◌≡◌, ◌≢◌, ◌⊎◌, ℕ, ◌<◌}
use mathlib.Core.List.{List, [], ◌∷◌, Memᴰ}
use Rattle.readers.specs.declared.Standing.{Standing}
use Rattle.stage.specs.declared.Stage.TheVariants.{Idle as IdleUpdate}
use Rattle.query.specs.declared.Scan.TheVariants.{Idle as IdleQuery, Read, Finished}
use Rattle.grid.specs.Run.{Grid, Call, step_update, step_query, call}
use Rattle.runs.specs.Quiet.{updater}
use Rattle.runs.specs.Sweeps.{query}

-- an update or a query, by its lane
pub data Task : Type 0 where
  updating : ℕ → Task
  querying : ℕ → Task

-- The task is under way: an update that has not ended, a query that has begun and not finished.
abbrev pub UnderWay : Grid → Task → Type 0
UnderWay g (updating l) = (l < 8) × ((updater g l).stage ≢ IdleUpdate)
UnderWay g (querying q) = (q < 4) × ((query g q).stage ≢ IdleQuery) × ((query g q).stage ≢ Finished)

-- its next step, as a call
abbrev pub next_step : Task → Call
next_step (updating l) = step_update l
next_step (querying q) = step_query q

-- the number that this call would give now
abbrev pub number_now : Grid → Task → ℕ
number_now g t = (call (next_step t) g).0.number

-- It moves: on (0), back to the first stage (21) or to its end (22). It is neither held (20) nor refused.
abbrev pub Moves : Grid → Task → Type 0
Moves g t = (number_now g t ≡ 0) ⊎ ((number_now g t ≡ 21) ⊎ (number_now g t ≡ 22))

-- WHERE SOMETHING IS UNDER WAY, SOMETHING UNDER WAY MOVES.
abbrev pub NeverStill : Grid → Type 0
NeverStill g = (t : Task) → UnderWay g t → (t' : Task) × UnderWay g t' × Moves g t'

-- A QUERY THAT HAS A BUCKET OF A CELL OPEN MOVES: from entering the cell to leaving it is never held.
abbrev pub OpenMoves : Grid → Type 0
OpenMoves g = (q c : ℕ) (w : Standing) → q < 4 → (query g q).stage ≡ Read c w → Moves g (querying q)

-- ---- taking turns

-- of some steps one after another, one at least moves
unfoldable pub OneMoves : List Task → Grid → Type 0
OneMoves [] g = ⊥
OneMoves (t ∷ ts) g = Moves g t ⊎ OneMoves ts (call (next_step t) g).1

-- IN A ROUND in which everything that is under way is stepped, in any order, something moves.
abbrev pub RoundMoves : Grid → Type 0
RoundMoves g =
    (ts : List Task) → ((t : Task) → UnderWay g t → Memᴰ t ts) → (t : Task) → UnderWay g t → OneMoves ts g

-- all three
pub record Progress (g : Grid) : Type 0 where
  pub never_still : NeverStill g
  pub open_moves : OpenMoves g
  pub round_moves : RoundMoves g
