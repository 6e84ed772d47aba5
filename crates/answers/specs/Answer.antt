-- What the script program prints for an answer (document 01, 'The script program'), as bytes: 44 is a comma, 10 a line feed.
use Rattle.std.specs.Prelude.{List, [], ◌∷◌, ◌++◌, ℕ, zero, suc, ◌+◌, ◌*◌}
use Rattle.base.specs.Table.{at}
use Rattle.script.specs.Digits.{decimal_of}

-- a number and the byte behind it
unfoldable pub closed : ℕ → ℕ → List ℕ
closed n b = decimal_of n ++ b ∷ []

-- numbers in a line: parted by commas, with a line feed behind the last
unfoldable pub row : List ℕ → List ℕ
row [] = []
row (n ∷ []) = closed n 10
row (n ∷ m ∷ ns) = closed n 44 ++ row (m ∷ ns)

-- an answer: the line's number and document 01's number
unfoldable pub answer_line : ℕ → ℕ → List ℕ
answer_line line number = row (line ∷ number ∷ [])

-- an accepted collection: also the step count and the entry count
unfoldable pub collected_line : ℕ → ℕ → ℕ → List ℕ
collected_line line steps entries = row (line ∷ 0 ∷ steps ∷ entries ∷ [])

-- an entry: object (document 01: carrier), x, y, tag (document 02: mark)
unfoldable pub entry_line : ℕ → ℕ → ℕ → ℕ → List ℕ
entry_line oid x y tag = row (oid ∷ x ∷ y ∷ tag ∷ [])

-- the lines of the first k entries of a list that has four numbers for each
unfoldable pub entry_lines : List ℕ → ℕ → List ℕ
entry_lines list zero = []
entry_lines list (suc k) =
    entry_lines list k ++ entry_line (at list (4 * k)) (at list (4 * k + 1)) (at list (4 * k + 2)) (at list (4 * k + 3))

-- all that is printed for an accepted collection
unfoldable pub collection : ℕ → ℕ → List ℕ → ℕ → List ℕ
collection line steps list k = collected_line line steps k ++ entry_lines list k
