-- THE LINES OF AN INPUT, and the lines that are cut from it block by block.
use Rattle.std.specs.Prelude.{List, [], ◌∷◌, ◌++◌, ℕ, eqb, take, drop, None, Some}
use Rattle.base.specs.Outcome.{pick}
use Rattle.script.specs.Split.{Kept}

-- blocks, or pieces, one behind the other
unfoldable pub joined : List (List ℕ) → List ℕ
joined [] = []
joined (b ∷ bs) = b ++ joined bs

-- the last line has no line feed, and is one only if it has a byte
unfoldable pub last_line : List ℕ → List (List ℕ)
last_line [] = []
last_line (b ∷ bs) = (b ∷ bs) ∷ []

-- the lines of some bytes, where the first goes on with what stands before them
unfoldable pub lines_behind : List ℕ → List ℕ → List (List ℕ)
lines_behind had [] = last_line had
lines_behind had (b ∷ bs) = pick (eqb b 10) (had ∷ lines_behind [] bs) (lines_behind (had ++ b ∷ []) bs)

-- THE LINES: what stands before each line feed, and what stands behind the last one, if anything does.
abbrev pub lines_of : List ℕ → List (List ℕ)
lines_of bytes = lines_behind [] bytes

-- the same with the first 61 bytes of each line, which is one more than a readable one has
unfoldable pub kept_lines : List ℕ → List ℕ → List (List ℕ)
kept_lines had [] = last_line had
kept_lines had (b ∷ bs) = pick (eqb b 10) (had ∷ kept_lines [] bs) (kept_lines (take 61 (had ++ b ∷ [])) bs)

-- LINES CUT FROM BLOCKS by `Kept`, which is what take_line ensures: with what is kept of a line, what is left of a
-- block, and the blocks behind it. Where nothing is left of a block the next one is taken.
pub data Cuts : List ℕ → List ℕ → List (List ℕ) → List (List ℕ) → Type 0 where
  over : {had : List ℕ} → Cuts had [] [] (last_line had)
  another : {had block : List ℕ} {blocks lines : List (List ℕ)} → Cuts had block blocks lines
      → Cuts had [] (block ∷ blocks) lines
  ended : {had block line : List ℕ} {blocks lines : List (List ℕ)} {from next : ℕ}
      → Kept block from had line (Some next)
      → Cuts [] (drop next block) blocks lines
      → Cuts had (drop from block) blocks (line ∷ lines)
  onward : {had block line : List ℕ} {blocks lines : List (List ℕ)} {from : ℕ}
      → Kept block from had line None
      → Cuts line [] blocks lines
      → Cuts had (drop from block) blocks lines
