-- How one step of a lane ends: document 01's number, what the lane is at next, and the tables.
use Rattle.std.specs.Prelude.{Option, None, Some}
use Rattle.std.specs.Prelude.{ℕ}
use Rattle.base.specs.Numbers.{DONE, BLOCKED, CORRUPT}
use Rattle.base.specs.Outcome.{Outcome, corrupt, blocked, done}

-- what is told of a step: its number, and what the lane is at next, none where it stays as it is
pub record Said (S : Type 0) : Type 0 where
  pub number : ℕ
  pub next : Option S

abbrev pub said : {S : Type 0} → ℕ → Option S → Said S
said n s = record { number = n; next = s }

-- what a step comes to, unless it is refused or blocked
pub record Step (S B : Type 0) : Type 0 where
  pub number : ℕ
  pub next : S
  pub tables : B

abbrev pub step_of : {S B : Type 0} → ℕ → S → B → Step S B
step_of n s t = record { number = n; next = s; tables = t }

-- broken tables: 12; held: 20; else the step's own number
unfoldable pub turn_tells : {S B : Type 0} → Outcome (Step S B) → Said S
turn_tells corrupt = said CORRUPT None
turn_tells blocked = said BLOCKED None
turn_tells (done m) = said m.number (Some m.next)

-- the tables afterwards: those at the start, t, unless it moved
unfoldable pub turn_leaves : {S B : Type 0} → B → Outcome (Step S B) → B
turn_leaves t corrupt = t
turn_leaves t blocked = t
turn_leaves t (done m) = m.tables

-- both: what the contract of a step is stated with
abbrev pub turned : {S B : Type 0} → B → Outcome (Step S B) → Said S × B
turned t o = (turn_tells o, turn_leaves t o)

-- what is told of an outcome that is what a lane does next: broken tables 12, held 20, else 0
unfoldable pub told : {S : Type 0} → Outcome S → Said S
told corrupt = said CORRUPT None
told blocked = said BLOCKED None
told (done s) = said DONE (Some s)

-- a step over its own tables, as one over more
unfoldable pub lift : {S A B : Type 0} → (A → B) → Outcome (Step S A) → Outcome (Step S B)
lift g corrupt = corrupt
lift g blocked = blocked
lift g (done m) = done (step_of m.number m.next (g m.tables))
