-- WHERE EVERY BUCKET IS (document 01: in the store, in one cell's chain, or unlinked and awaiting return), and what
-- stage 9 of an update takes. All of it is read off the tables and the lanes.
use Rattle.std.specs.Prelude.{◌≡◌, ◌≢◌, ◌⊎◌, List, [], ◌∷◌, ℕ, ◌<◌}
use Rattle.std.specs.Prelude.{Some}
use Rattle.base.specs.Numbers.{DONE}
use Rattle.base.specs.Lists.{In}
use Rattle.base.specs.Table.{at}
use Rattle.cells.specs.Walk.{chain_of}
use Rattle.layout.specs.Place.{cell_of}
use Rattle.layout.specs.declared.place.Place.{Place}
use Rattle.pool.specs.Pool.{Has}
use Rattle.stage.specs.declared.Stage.{Stage}
use Rattle.stage.specs.declared.Stage.TheVariants.{Idle, TakeObject, LockCell, LookLast, CopyLast, LowerCount}
use Rattle.stage.specs.declared.Stage.TheVariants.{ReturnBucket, ErasePlace, ChooseCell, MakeRoom, WriteTuple}
use Rattle.stage.specs.declared.Stage.TheVariants.{RaiseCount, SwitchPlace, DeleteOld, ReleaseObject}
use Rattle.readers.specs.declared.Standing.{Standing}
use Rattle.query.specs.declared.Scan.TheVariants.{Read}
use Rattle.tables.specs.Tables.{Tables}
use Rattle.grid.specs.Run.{Grid, step_update, call}
use Rattle.runs.specs.Quiet.{updater}
use Rattle.runs.specs.Sweeps.{query}

-- ---- each in one place

-- walking the chain of cell c finds bucket b
abbrev pub InChain : Tables → ℕ → ℕ → Type 0
InChain t c b = (c < 256) × ((chain : List ℕ) × (chain_of t.first t.next c ≡ Some chain) × In b chain)

-- the update of lane l has bucket b, off its chain, still to return
abbrev pub Returns : Grid → ℕ → ℕ → Type 0
Returns g l b = (l < 8) × ((p : Place) × (m : ℕ) × ((updater g l).stage ≡ ReturnBucket p m b))

-- bucket b is not in the pool: it is in a chain, or awaits its return
abbrev pub InUse : Grid → ℕ → Type 0
InUse g b = ((c : ℕ) × InChain g.tables c b) ⊎ ((l : ℕ) × Returns g l b)

-- EVERY BUCKET is in the pool, in the chain of a cell, or unlinked and awaiting its return by an update; in one of
-- these only, in the chain of one cell only, and with one update only.
pub record Apart (g : Grid) : Type 0 where
  pub somewhere : (b : ℕ) → b < 512 → Has g.tables.pool b ⊎ InUse g b
  pub pool_chain : (b c : ℕ) → Has g.tables.pool b → InChain g.tables c b → ⊥
  pub pool_lane : (b l : ℕ) → Has g.tables.pool b → Returns g l b → ⊥
  pub chain_lane : (b c l : ℕ) → InChain g.tables c b → Returns g l b → ⊥
  pub one_chain : (b c c' : ℕ) → InChain g.tables c b → InChain g.tables c' b → c ≡ c'
  pub one_lane : (b l l' : ℕ) → Returns g l b → Returns g l' b → l ≡ l'

-- ---- what stage 9 takes

-- The bucket that an update has in hand at a stage, if it has one: at stages 2 to 4 the one of its former tuple, at
-- stage 6 the one that it is to return, at stages 11 to 13 the one of its new or its old tuple. From stage 5 on the
-- place that it is to erase is a number in the index, and its own tuple is there no more: if it was the last of its
-- bucket, the bucket goes back at stage 6, and another update may take it before stage 7.
unfoldable pub in_hand : Stage → List ℕ
in_hand Idle = []
in_hand TakeObject = []
in_hand (LockCell p) = p.bucket ∷ []
in_hand (LookLast p) = p.bucket ∷ []
in_hand (CopyLast p m) = p.bucket ∷ []
in_hand (LowerCount p m) = []
in_hand (ReturnBucket p m b) = b ∷ []
in_hand (ErasePlace p m) = []
in_hand ChooseCell = []
in_hand MakeRoom = []
in_hand WriteTuple = []
in_hand (RaiseCount p) = p.bucket ∷ []
in_hand (SwitchPlace p) = p.bucket ∷ []
in_hand (DeleteOld p) = p.bucket ∷ []
in_hand ReleaseObject = []

-- Bucket b is in the pool, in no chain and held by no lane: no update has it in hand, and no query stands in it.
pub record Free (g : Grid) (b : ℕ) : Type 0 where
  pub below : b < 512
  pub pooled : Has g.tables.pool b
  pub unchained : (c : ℕ) → InChain g.tables c b → ⊥
  pub unheld : (l : ℕ) → l < 8 → In b (in_hand (updater g l).stage) → ⊥
  pub unread : (q c : ℕ) (w : Standing) → q < 4 → (query g q).stage ≡ Read c w → w.bucket ≢ b

-- the first bucket of a cell, or 512, and how many tuples it has
abbrev pub first_of : Grid → ℕ → ℕ
first_of g c = at g.tables.first c

abbrev pub fill_of : Grid → ℕ → ℕ
fill_of g c = at g.tables.count (first_of g c)

-- Room for a tuple in cell c, g before and g' after. The first bucket of the cell has room, and no table changes; or
-- there is none or it is full, and the first bucket is then one that was free before: now it is in the chain of the
-- cell, and in the pool no more.
pub data Room (g g' : Grid) (c : ℕ) : Type 0 where
  left : first_of g c < 512 → fill_of g c < 4 → g'.tables ≡ g.tables → Room g g' c
  taken : (first_of g c ≡ 512) ⊎ (fill_of g c ≡ 4) → Free g (first_of g' c) → InChain g'.tables c (first_of g' c)
      → (Has g'.tables.pool (first_of g' c) → ⊥) → Room g g' c

-- A BUCKET HANDED OUT IS IN NO CHAIN AND HELD BY NO LANE: a step of an update at stage 9 is accepted and goes on (0),
-- and makes room so in the cell where its object is reported.
abbrev pub HandedOutFree : Grid → Type 0
HandedOutFree g =
    (l : ℕ) → l < 8 → (updater g l).stage ≡ MakeRoom → ((call (step_update l) g).0.number ≡ DONE)
    × Room g (call (step_update l) g).1 (cell_of (updater g l).x (updater g l).y)
