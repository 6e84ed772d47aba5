-- What a number is given for, and the ranges of stored numbers (document 01's number 12).
use Rattle.std.specs.Prelude.{Bool, not, List, [], ◌∷◌, ℕ, eqb, ltb, leb, ℤ, pos, negsuc}
use Rattle.base.specs.Numbers.{BLOCKED, CORRUPT}
use Rattle.base.specs.Outcome.{pick}

-- a number and what it is given for
pub record Cause : Type 0 where
  pub holds : Bool
  pub number : ℕ

-- the number of the first cause that holds; else the number of an accepted call
unfoldable pub first_cause : List Cause → ℕ → ℕ
first_cause [] n = n
first_cause (c ∷ cs) n = pick c.holds c.number (first_cause cs n)

abbrev pub cause : ℕ → Bool → Cause
cause n b = record { holds = b; number = n }

abbrev pub broken : Bool → Cause
broken b = cause CORRUPT b

abbrev pub held : Bool → Cause
held b = cause BLOCKED b

-- ---- ranges of stored numbers

abbrev pub bad_cell : ℕ → Bool
bad_cell c = leb 256 c

-- a bucket is needed here
abbrev pub bad_bucket : ℕ → Bool
bad_bucket b = leb 512 b

-- a bucket or none
abbrev pub bad_link : ℕ → Bool
bad_link b = ltb 512 b

abbrev pub bad_slot : ℕ → Bool
bad_slot s = leb 4 s

abbrev pub bad_place : ℕ → Bool
bad_place n = ltb 524288 n

abbrev pub bad_lock : ℕ → Bool
bad_lock v = ltb 8 v

abbrev pub taken : ℕ → Bool
taken v = not (eqb v 0)

-- readers, a count, or slots left
abbrev pub bad_count : ℕ → Bool
bad_count n = ltb 4 n

-- readers or a count that one more would carry outside
abbrev pub full_count : ℕ → Bool
full_count n = leb 4 n

abbrev pub bad_stamp : ℤ → Bool
bad_stamp (pos n) = eqb n 0
bad_stamp (negsuc n) = eqb n 2147483647

-- no stamp is left to draw
abbrev pub spent : ℕ → Bool
spent clock = leb 2147483647 clock
