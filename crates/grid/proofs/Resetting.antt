-- A reset, of any lanes: of a wrong length, and where the tables were filled.
use mathlib.Core.Path.{◌≡◌}
use mathlib.Core.Bool.{true, false}
use mathlib.Core.List.{List}
use Prim.Native.Nat.{ℕ}
use lib.IntN.{ℤ, pos}
use lib.ListN.{length, replicate}
use Rattle.words.specs.Map.{TIMES}
use Rattle.tables.specs.Tables.{Tables, right_lengths, with_times, empty_tables}
use Rattle.tables.specs.Grid.{grid}
use Rattle.calls.specs.Call.{after, after_of}
use Rattle.stage.specs.declared.Updater.{Updater}
use Rattle.query.specs.declared.Query.{Query}
use Rattle.updates.specs.Update.{idle_updaters}
use Rattle.queries.specs.Query.{idle_queries}
use Rattle.grid.specs.Grid.{Lanes, lanes_of, reset_grid}
use Rattle.grid.proofs.Emptied.{grid_emptied, reset_emptied, reset_refuses}

-- a wrong length
pub reset_sizes : (t : Tables) (ls : Lanes) → right_lengths t ≡ false → after t ls (reset_grid t) ≡ after_of 12 t ls
reset_sizes t ls h = reset_refuses t h ls

-- every table filled, every lane idle
pub reset_done : (t : Tables) (ls : Lanes) (w : List ℕ) (ts₀ ts : List ℤ) {us : List Updater} {qs : List Query}
    → right_lengths t ≡ true → length ts₀ ≡ TIMES → ((zs : List ℤ) → grid w zs ≡ with_times empty_tables zs)
    → ts ≡ replicate (length ts₀) (pos 0) → us ≡ idle_updaters → qs ≡ idle_queries
    → after t ls (reset_grid t) ≡ after_of 0 (grid w ts) (lanes_of us qs)
reset_done t ls w ts₀ ts {us} {qs} s t# g h u q =
    reset_emptied t (grid w ts) (lanes_of us qs) s (grid_emptied w ts₀ ts t# g h, u, q) ls
