-- All tables, read off the two lists that a caller lends: the words and the stamps.
use Rattle.std.specs.Prelude.{Bool, ◌&&◌, List, ℕ, eqb, ℤ}
use Rattle.words.specs.Map.{WORDS, TIMES}
use Rattle.words.specs.Words.{cells_in, first_in, count_in, next_in, readers_in, tuples_in, index_in, hits_in, clock_in, pool_in}
use Rattle.slots.specs.Tuple.{tuples_at}
use Rattle.index.specs.Index.{index_at}
use Rattle.hits.specs.Hits.{hits_at}
use Rattle.tables.specs.Tables.{Tables, tables_of}

unfoldable pub grid : List ℕ → List ℤ → Tables
grid w ts = tables_of (first_in w) (cells_in w) (count_in w) (next_in w) (readers_in w) (tuples_at (tuples_in w) ts) (index_at (index_in w)) (pool_in w) (hits_at (hits_in w)) (clock_in w)

-- the numbers of words and of stamps are right
unfoldable pub right_words : ℕ → ℕ → Bool
right_words n m = eqb n WORDS && eqb m TIMES
