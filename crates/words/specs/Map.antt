-- THE MAP of the words: where each table begins in the one list of numbers that a caller lends. The same numbers stand in src/lib.rt, and nowhere else.
-- A table ends where the next one begins; the pool ends with the list.
use Rattle.std.specs.Prelude.{ℕ, ◌+◌}

-- the lock of each cell, and its first bucket
abbrev pub CELLS : ℕ
CELLS = 0

abbrev pub FIRST : ℕ
FIRST = 256

-- the count, the next bucket and the readers of each bucket
abbrev pub COUNT : ℕ
COUNT = 512

abbrev pub NEXT : ℕ
NEXT = 1024

abbrev pub READERS : ℕ
READERS = 1536

-- the tuples but for their stamps: a column for the objects, one for x, one for y, one for the tags
abbrev pub TUPLES : ℕ
TUPLES = 2048

abbrev pub TUPLE-XS : ℕ
TUPLE-XS = 2048

abbrev pub TUPLE-YS : ℕ
TUPLE-YS = 4096

abbrev pub TUPLE-TAGS : ℕ
TUPLE-TAGS = 6144

-- how many numbers they are
abbrev pub TUPLES-SIZE : ℕ
TUPLES-SIZE = 8192

-- the object index: a column for the objects, one for their locks, one for current and one for previous places
abbrev pub INDEX : ℕ
INDEX = 10240

abbrev pub INDEX-LOCKS : ℕ
INDEX-LOCKS = 512

abbrev pub INDEX-CURRENT : ℕ
INDEX-CURRENT = 1024

abbrev pub INDEX-PREVIOUS : ℕ
INDEX-PREVIOUS = 1536

abbrev pub INDEX-SIZE : ℕ
INDEX-SIZE = 2048

-- the hits of the queries: a column for the objects, one for x, one for y, one for the tags
abbrev pub HITS : ℕ
HITS = 12288

abbrev pub HIT-XS : ℕ
HIT-XS = 1024

abbrev pub HIT-YS : ℕ
HIT-YS = 2048

abbrev pub HIT-TAGS : ℕ
HIT-TAGS = 3072

abbrev pub HITS-SIZE : ℕ
HITS-SIZE = 4096

abbrev pub CLOCK : ℕ
CLOCK = 16384

-- the bucket pool
abbrev pub POOL : ℕ
POOL = 16385

-- how many words there are, and how many stamps in the list beside them
abbrev pub WORDS : ℕ
WORDS = 16898

abbrev pub TIMES : ℕ
TIMES = 2048

-- in the words: the columns of the index
abbrev pub LOCKS : ℕ
LOCKS = INDEX + INDEX-LOCKS

abbrev pub CURRENT : ℕ
CURRENT = INDEX + INDEX-CURRENT

abbrev pub PREVIOUS : ℕ
PREVIOUS = INDEX + INDEX-PREVIOUS
