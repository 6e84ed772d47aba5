-- What the answer of first_bucket says of a cell: its first bucket, for all stamps, and that both are in range.
use mathlib.Core.Path.{◌≡◌, sym}
use mathlib.Core.List.{List, []}
use Prim.Native.Nat.{ℕ, ◌<◌}
use lib.IntN.{ℤ}
use Rattle.base.specs.Outcome.{done}
use Rattle.tables.specs.Grid.{grid}
use Rattle.cells.specs.On.{first_on}
use Rattle.cells.proofs.Chains.{first_done}

-- b is the first bucket of cell c in the words w
pub record First (w : List ℕ) (c b : ℕ) : Type 0 where
  pub is : (ts : List ℤ) → first_on (grid w ts) c ≡ done b
  pub cell< : c < 256
  pub bucket< : b < 512

pub found_first : (w : List ℕ) (c b : ℕ) → ((ts : List ℤ) → done b ≡ first_on (grid w ts) c) → First w c b
found_first w c b e =
    let d = first_done (grid w []).first c b (sym (e [])) in
    record { is = λ ts. sym (e ts); cell< = d.0; bucket< = d.1 }
