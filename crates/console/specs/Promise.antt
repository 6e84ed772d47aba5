-- WHAT ANSWERING A LINE PROMISES, of the tables t as it finds them and t' as it leaves them: the line is done, and its
-- answer printed behind what stands on the page.
use Rattle.std.specs.Prelude.{List, ℕ}
use Rattle.arrayvec.specs.ArrayVec.{ArrayVec}
use Rattle.base.specs.Lent.{Lent}
use Rattle.tables.specs.Tables.{Tables}
use Rattle.grid.specs.Grid.{Lanes}
use Rattle.grid.specs.Run.{grid_of}
use Rattle.console.specs.Turn.{Turn}

abbrev pub Prints : Lent (List ℕ) → ℕ → ArrayVec ℕ → ArrayVec ℕ → Lent (List ℕ) → Lent Lanes → Tables → Tables → Type 0
Prints line i page page' list ls t t' =
    Turn i line.old (grid_of t ls.old.updaters ls.old.queries) list.old page.items
    (grid_of t' ls.new.updaters ls.new.queries) list.new page'.items
