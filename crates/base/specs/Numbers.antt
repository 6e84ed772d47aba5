-- THE NUMBERS THAT A CALL GIVES: document 01's table, in its order. Each line has document 01's word and when the number is given.
-- Definitions, causes and statements of the operations cite the names; which case of the code has which, is in calls/specs/Refusals.antt.
use Rattle.std.specs.Prelude.{ℕ}

-- ---- accepted

-- moved on: an accepted start or collection, or a step that moved on
abbrev pub DONE : ℕ
DONE = 0

-- held: nothing has changed
abbrev pub BLOCKED : ℕ
BLOCKED = 20

-- went back
abbrev pub RESTARTED : ℕ
RESTARTED = 21

-- finished
abbrev pub FINISHED : ℕ
FINISHED = 22

-- ---- refused: nothing has changed

-- no such lane: report lane over 7, sweep lane over 3
abbrev pub NO-SUCH-LANE : ℕ
NO-SUCH-LANE = 1

-- lane taken: start on a lane not idle
abbrev pub LANE-TAKEN : ℕ
LANE-TAKEN = 2

-- lane idle: step or collection with nothing there
abbrev pub LANE-IDLE : ℕ
LANE-IDLE = 3

-- no carrier: carrier 0
abbrev pub NO-OBJECT : ℕ
NO-OBJECT = 4

-- off the deck: a coordinate over 16,383
abbrev pub OFF-GRID : ℕ
OFF-GRID = 5

-- crossed corners: lower above upper in x or in y
abbrev pub CROSSED-CORNERS : ℕ
CROSSED-CORNERS = 6

-- deck full: unknown carrier, 256 or more known
abbrev pub GRID-FULL : ℕ
GRID-FULL = 7

-- clock spent: start with clock at 2,147,483,600 or more
abbrev pub CLOCK-EXHAUSTED : ℕ
CLOCK-EXHAUSTED = 8

-- sweep finished: step on it
abbrev pub QUERY-FINISHED : ℕ
QUERY-FINISHED = 9

-- sweep unfinished: collection from it
abbrev pub QUERY-UNFINISHED : ℕ
QUERY-UNFINISHED = 10

-- short list: fewer than four numbers per entry lent (document 01: three; the fourth is request d's)
abbrev pub SHORT-OUTPUT : ℕ
SHORT-OUTPUT = 11

-- broken tables: a wrong length, or a stored number outside its range; a dry store, a full sweep list, a missing carrier
abbrev pub CORRUPT : ℕ
CORRUPT = 12

-- unreadable line: the script program only
abbrev pub UNREADABLE : ℕ
UNREADABLE = 13

-- deck in motion: a report under way, or a sweep lane that is not idle (document 02, request a)
abbrev pub BUSY : ℕ
BUSY = 30

-- mark over 9: the load mark of a report (document 02, request d); directly after crossed corners in the order of refusals
abbrev pub TAG-OVER : ℕ
TAG-OVER = 31

-- radius over 511: of a question with a radius (document 02, request e); directly after crossed corners, before mark over 9
abbrev pub RADIUS-OVER : ℕ
RADIUS-OVER = 32
