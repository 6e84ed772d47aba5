-- The tables in the one list of numbers that a caller lends, and the list with one of them replaced.
use Rattle.std.specs.Prelude.{List, ℕ, drop, get_or}
use Rattle.words.specs.Map.{CELLS, FIRST, COUNT, NEXT, READERS, TUPLES, TUPLES-SIZE, INDEX, INDEX-SIZE, HITS, HITS-SIZE, CLOCK, POOL}
use Rattle.words.specs.Part.{part, put}

abbrev pub cells_in : List ℕ → List ℕ
cells_in w = part CELLS 256 w

abbrev pub first_in : List ℕ → List ℕ
first_in w = part FIRST 256 w

abbrev pub count_in : List ℕ → List ℕ
count_in w = part COUNT 512 w

abbrev pub next_in : List ℕ → List ℕ
next_in w = part NEXT 512 w

abbrev pub readers_in : List ℕ → List ℕ
readers_in w = part READERS 512 w

-- objects, x, y and tags of the tuples, one after the other
abbrev pub tuples_in : List ℕ → List ℕ
tuples_in w = part TUPLES TUPLES-SIZE w

-- objects, locks, current and previous places of the object index
abbrev pub index_in : List ℕ → List ℕ
index_in w = part INDEX INDEX-SIZE w

-- objects, x, y and tags of the hits
abbrev pub hits_in : List ℕ → List ℕ
hits_in w = part HITS HITS-SIZE w

abbrev pub clock_in : List ℕ → ℕ
clock_in w = get_or w CLOCK 0

-- the pool ends with the list, so that its length tells the list's
abbrev pub pool_in : List ℕ → List ℕ
pool_in w = drop POOL w

abbrev pub put_readers : List ℕ → List ℕ → List ℕ
put_readers w v = put READERS 512 v w

abbrev pub put_hits : List ℕ → List ℕ → List ℕ
put_hits w v = put HITS HITS-SIZE v w

abbrev pub put_cells : List ℕ → List ℕ → List ℕ
put_cells w v = put CELLS 256 v w

abbrev pub put_index : List ℕ → List ℕ → List ℕ
put_index w v = put INDEX INDEX-SIZE v w
