-- WHAT MAKING ROOM PROMISES: what stands on the page stands there still, all of it, or was handed over, all of it. No
-- byte of output is dropped.
use Rattle.std.specs.Prelude.{◌≡◌, List, [], ℕ, ◌≤◌, length, Option, None, Some}
use Rattle.streams.specs.declared.output.Handed.{Handed}

abbrev pub Room : List ℕ → List ℕ → Option Handed → Type 0
Room out out' None = (length out ≤ 5056) × (out' ≡ out)
Room out out' (Some h) = (h.bytes ≡ length out) × (out' ≡ [])
