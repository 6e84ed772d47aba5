-- WHAT READING THE NEXT LINE PROMISES, with room made for its answer.
use Rattle.std.specs.Prelude.{◌≡◌, ◌⊎◌, List, [], ◌∷◌, ◌++◌, ℕ, ◌≤◌, length}
use Rattle.std.specs.Prelude.{Result, Ok, Err}
use Rattle.streams.specs.Lines.{joined, kept_lines}
use Rattle.streams.specs.Reading.{unread}
use Rattle.streams.specs.declared.input.Fetched.{Fetched}
use Rattle.streams.specs.declared.input.Fetched.TheVariants.{Line, End}
use Rattle.streams.specs.declared.progress.Failed.{Failed}
use Rattle.streams.specs.declared.progress.Progress.{Progress}
use Rattle.streams.specs.declared.progress.Progress.TheVariants.{Open, Ended}

-- the start of a run
abbrev pub at_start : Progress
at_start = Open (record { next = 0; filled = 0 })

-- the bytes of a block that are still to be read
abbrev pub left : List ℕ → Progress → List ℕ
left block (Open i) = unread block i.next i.filled
left block Ended = []

-- what may still be read: nothing where the input has ended, else any bytes
abbrev pub Later : Progress → List ℕ → Type 0
Later (Open i) later = Unit {0}
Later Ended later = later ≡ []

-- the lines to come, with what is kept of a line and the bytes behind it: first that line, if it is to be answered;
-- none if no line is left
abbrev pub due : Result Fetched Failed → List ℕ → List ℕ → List (List ℕ)
due (Ok Line) kept bytes = kept ∷ kept_lines [] bytes
due (Ok End) kept bytes = []
due (Err e) kept bytes = kept_lines kept bytes

-- a place in a block that is as long as it must be
abbrev pub Ready : List ℕ → Progress → Type 0
Ready block (Open i) = i.filled ≤ length block
Ready block Ended = Unit {0}

-- THE NEXT LINE: there are blocks, those that `read` gave meanwhile, such that the lines to come are those of the bytes
-- that were unread, of these blocks, and of what comes later. What stood on the page stands there still, or was handed
-- over, all of it; an answer has room.
pub record NextLine (block : List ℕ) (p : Progress) (out block' line' : List ℕ) (p' : Progress) (out' : List ℕ)
    (r : Result Fetched Failed) : Type 0 where
  pub ready : Ready block' p'
  pub few : length line' ≤ 61
  pub room : (out' ≡ out) ⊎ (out' ≡ [])
  pub small : length out' ≤ 5056
  pub blocks : List (List ℕ)
  pub allowed : (later : List ℕ) → Later p' later → Later p (joined blocks ++ later)
  pub lines : (later : List ℕ) → Later p' later
      → kept_lines [] (left block p ++ (joined blocks ++ later)) ≡ due r line' (left block' p' ++ later)
