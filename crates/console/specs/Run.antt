-- WHAT A RUN PROMISES: there are blocks, those that `read` gave, and pieces, those that were handed to `write_all`,
-- each in order, such that the pieces are the beginning of the output of the blocks' lines on an empty grid, and all of
-- it where the input was read to its end. The kit cannot say more of them: what `read` and `write` did is behind the
-- program's edge (docs/DECISIONS.md).
use Rattle.std.specs.Prelude.{◌≡◌, List, ◌++◌, ℕ, replicate, ⊤, Result, IsOk}
use Rattle.grid.specs.Run.{empty_grid}
use Rattle.streams.specs.Lines.{joined, lines_of}
use Rattle.console.specs.Text.{script_text}
use Rattle.streams.specs.declared.progress.Failed.{Failed}
use Rattle.console.specs.declared.run.Ended.{Ended}
use Rattle.console.specs.declared.run.Reads.TheVariants.{Whole}

-- THE OUTPUT OF AN INPUT: of its lines, numbered from 1, on an empty grid, with a list of 1024 numbers lent to
-- collections
unfoldable pub output_of : List ℕ → List ℕ
output_of bytes = script_text 0 (lines_of bytes) empty_grid (replicate 1024 0)

-- some bytes begin a text
pub record Begins (front text : List ℕ) : Type 0 where
  pub rest : List ℕ
  pub same : text ≡ front ++ rest

-- LINES WERE ANSWERED. The pieces, and what stands on the page at last, are the beginning of what stood there at first
-- and of the output of the blocks' lines; and all of it where the input was read to its end.
pub record Answered (page page' : List ℕ) (r : Result ⊤ Failed) : Type 0 where
  pub blocks : List (List ℕ)
  pub pieces : List (List ℕ)
  pub begun : Begins (joined pieces ++ page') (page ++ output_of (joined blocks))
  pub all : IsOk r → joined pieces ++ page' ≡ page ++ output_of (joined blocks)

pub record Ran (r : Ended) : Type 0 where
  pub blocks : List (List ℕ)
  pub pieces : List (List ℕ)
  pub begun : Begins (joined pieces) (output_of (joined blocks))
  pub all : r.reads ≡ Whole → joined pieces ≡ output_of (joined blocks)
