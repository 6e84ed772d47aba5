-- What functions that are lent the words, or the words and the stamps, promise: how the tables as they leave them are related to the tables as they find them.
use Rattle.std.specs.Prelude.{List, ℕ, ℤ}
use Rattle.base.specs.Lent.{Lent}
use Rattle.tables.specs.Tables.{Tables}
use Rattle.tables.specs.Grid.{grid}

-- it is lent the words alone: whatever the stamps are
abbrev pub OnWords : Lent (List ℕ) → (Tables → Tables → Type 0) → Type 0
OnWords words P = (ts : List ℤ) → P (grid words.old ts) (grid words.new ts)

-- it is lent both
abbrev pub OnGrid : Lent (List ℕ) → Lent (List ℤ) → (Tables → Tables → Type 0) → Type 0
OnGrid words times P = P (grid words.old times.old) (grid words.new times.new)
