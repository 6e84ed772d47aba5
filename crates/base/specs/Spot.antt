-- Places on the grid with their tags, the entries of a list, and membership in a list.
use Rattle.std.specs.Prelude.{List, ◌∷◌, ℕ}

-- a place on the grid, by its coordinates, with the tag reported with it (document 02: the load mark)
pub record Spot : Type 0 where
  pub x : ℕ
  pub y : ℕ
  pub tag : ℕ

-- an object at a place with its tag: an entry of a list, or what an update reports
pub record Hit : Type 0 where
  pub oid : ℕ
  pub spot : Spot

-- x stands in the list
pub data Mem {A : Type 0} (x : A) : List A → Type 0 where
  on_top : {xs : List A} → Mem x (x ∷ xs)
  deeper : {y : A} {xs : List A} → Mem x xs → Mem x (y ∷ xs)

abbrev pub hit : ℕ → Spot → Hit
hit k s = record { oid = k; spot = s }
