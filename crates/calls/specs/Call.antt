-- What a call comes to, over all tables and the lanes L that it works on.
use Rattle.std.specs.Prelude.{◌≡◌, Bool, true, false, ◌||◌, List, ℕ, eqb, set}
use Rattle.std.specs.Prelude.{Option, None, Some}
use Rattle.base.specs.Numbers.{DONE, BLOCKED, RESTARTED, FINISHED, CORRUPT}
use Rattle.base.specs.Outcome.{Outcome, corrupt, blocked, done}
use Rattle.base.specs.Step.{Step}
use Rattle.tables.specs.Tables.{Tables}

-- refused with a number, which changes nothing, or answered with a number, the tables and the lanes afterwards
pub data Result (L : Type 0) : Type 0 where
  refused : ℕ → Result L
  answered : ℕ → Tables → L → Result L

-- the number, and everything afterwards
pub record After (L : Type 0) : Type 0 where
  pub number : ℕ
  pub tables : Tables
  pub lanes : L

abbrev pub after_of : {L : Type 0} → ℕ → Tables → L → After L
after_of n t ls = record { number = n; tables = t; lanes = ls }

unfoldable pub after : {L : Type 0} → Tables → L → Result L → After L
after t ls (refused n) = after_of n t ls
after t ls (answered n t' ls') = after_of n t' ls'

-- NOTHING IS CHANGED: every table and every lane is as it was.
pub record Same {L : Type 0} (t : Tables) (ls : L) (a : After L) : Type 0 where
  pub tables : a.tables ≡ t
  pub lanes : a.lanes ≡ ls

-- refuse with a number unless the test holds
unfoldable pub unless : {L : Type 0} → Bool → ℕ → Result L → Result L
unless true n k = k
unless false n k = refused n

-- A step of a lane has ended: refused with 12; blocked with 20, nothing changed; else its number, and the lane at what comes next.
unfoldable pub stepped : {S L : Type 0} → Tables → L → (S → L) → Outcome (Step S Tables) → Result L
stepped t ls put corrupt = refused CORRUPT
stepped t ls put blocked = answered BLOCKED t ls
stepped t ls put (done m) = answered m.number m.tables (put m.next)

-- the lanes, with one at what comes next, if anything does
abbrev pub next_lanes : {S L : Type 0} → L → (S → L) → Option S → L
next_lanes ls put None = ls
next_lanes ls put (Some s) = put s

-- what a call in lane l by itself comes to, put among the lanes
abbrev pub placed : {L : Type 0} → List L → ℕ → After L → After (List L)
placed ls l a = after_of a.number a.tables (set ls l a.lanes)

-- THE NUMBERS OF ACCEPTED CALLS: 0, and of a step also blocked 20, restarted 21, finished 22. Every other number is a refusal.
abbrev pub accepted_number : ℕ → Bool
accepted_number n = eqb n DONE || eqb n BLOCKED || eqb n RESTARTED || eqb n FINISHED
