-- Reading and clearing of one lane (document 02, request b): what `read_query`, `read_into` and `clear_query` do with the lane that they name.
-- That reading and clearing among all lanes are these, in that lane, is proofs/Lane.antt.
use Rattle.std.specs.Prelude.{not, List, [], ℕ, ◌*◌, ltb, leb, length}
use Rattle.base.specs.Numbers.{DONE, NO-SUCH-LANE, LANE-IDLE, QUERY-UNFINISHED, SHORT-OUTPUT, CORRUPT}
use Rattle.query.specs.declared.Query.{Query}
use Rattle.tables.specs.Tables.{Tables, right_lengths}
use Rattle.calls.specs.Call.{Result, answered, After, after, unless}
use Rattle.queries.specs.Query.{is_idle, is_finished}
use Rattle.collect.specs.Collect.{entries_from, idled}
use Rattle.collect.specs.Filling.{Filling, filling_of, over}

-- what is handed back
pub record HandedOne : Type 0 where
  pub steps : ℕ
  pub part : List ℕ

abbrev pub handed_one_of : ℕ → List ℕ → HandedOne
handed_one_of k p = record { steps = k; part = p }

-- Read from lane l, where the query q is, into a list of n numbers. The query is not among what is afterwards: it stays as it is.
unfoldable pub read_one_of : Tables → ℕ → Query → ℕ → Result HandedOne
read_one_of t l q n =
    unless (right_lengths t) CORRUPT
    (unless (ltb l 4) NO-SUCH-LANE
    (unless (not (is_idle q.stage)) LANE-IDLE
    (unless (is_finished q.stage) QUERY-UNFINISHED
    (unless (leb (4 * q.hits) n) SHORT-OUTPUT
    (unless (leb q.hits 256) CORRUPT
    (answered DONE t (handed_one_of q.steps (entries_from t.hits (256 * l) q.hits))))))))

-- Clear lane l, where the query q is.
unfoldable pub clear_one : Tables → ℕ → Query → Result Query
clear_one t l q =
    unless (right_lengths t) CORRUPT
    (unless (ltb l 4) NO-SUCH-LANE
    (unless (not (is_idle q.stage)) LANE-IDLE
    (unless (is_finished q.stage) QUERY-UNFINISHED
    (answered DONE t (idled q)))))

-- the number, the tables afterwards, the steps, how many numbers are filled, and the lent list afterwards
pub record FillingOne : Type 0 where
  pub number : ℕ
  pub tables : Tables
  pub steps : ℕ
  pub filled : ℕ
  pub list : List ℕ

abbrev pub filling_one_of : ℕ → Tables → ℕ → ℕ → List ℕ → FillingOne
filling_one_of n t k f l = record { number = n; tables = t; steps = k; filled = f; list = l }

abbrev pub written_one : After HandedOne → List ℕ → FillingOne
written_one a out = filling_one_of a.number a.tables a.lanes.steps (length a.lanes.part) (over a.lanes.part out)

-- READING from lane l into the list out, with everything afterwards.
unfoldable pub read_one_into : Tables → ℕ → Query → List ℕ → FillingOne
read_one_into t l q out = written_one (after t (handed_one_of 0 []) (read_one_of t l q (length out))) out

-- what a reading from one lane comes to, with the lanes beside it
abbrev pub beside_lanes : List Query → FillingOne → Filling
beside_lanes qs f = filling_of f.number f.tables qs f.steps f.filled f.list
