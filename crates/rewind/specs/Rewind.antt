-- WINDING THE CLOCK BACK (document 02, request a): in every slot of the 512 buckets, counted or not, a stamp above zero
-- becomes 1 and one below zero −1; a clock above 1 becomes 1. Nothing else is touched, and no stored number is refused.
use Rattle.std.specs.Prelude.{List, map, ℕ, zero, suc, ltb, ℤ, pos, negsuc}
use Rattle.base.specs.Numbers.{DONE, CORRUPT, BUSY}
use Rattle.base.specs.Outcome.{pick}
use Rattle.stage.specs.declared.Updater.{Updater}
use Rattle.query.specs.declared.Query.{Query}
use Rattle.tables.specs.Tables.{Tables, with_times, with_clock, right_lengths}
use Rattle.calls.specs.Call.{Result, answered, unless}
use Rattle.rest.specs.Rest.{is_at_rest}

-- above zero: 1; below zero: −1; zero stays
unfoldable pub wound_stamp : ℤ → ℤ
wound_stamp (pos zero) = pos 0
wound_stamp (pos (suc n)) = pos 1
wound_stamp (negsuc n) = negsuc 0

-- above 1: 1
unfoldable pub wound_clock : ℕ → ℕ
wound_clock c = pick (ltb 1 c) 1 c

unfoldable pub wound_tables : Tables → Tables
wound_tables t = with_clock (with_times t (map wound_stamp t.tuples.time)) (wound_clock t.clock)

-- A REWIND: 12 for a wrong length, 30 for a grid that is not at rest (document 02: deck in motion); else 0, and the
-- tables are wound back. The lanes are looked at, and stay.
unfoldable pub rewind_tables : Tables → List Updater → List Query → Result (Unit {0})
rewind_tables t us qs = unless (right_lengths t) CORRUPT (unless (is_at_rest us qs) BUSY (answered DONE (wound_tables t) tt))
