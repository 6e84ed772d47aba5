-- WHAT READING, CLEARING AND COLLECTION PROMISE, of the tables t as they find them and t' as they leave them, and of the caller's list: number, steps, part
-- and lanes are those of the definitions, for every content of the tables and of the list.
use Rattle.std.specs.Prelude.{◌≡◌, Result, Ok, Err, List, ℕ}
use Rattle.base.specs.Lent.{Lent}
use Rattle.base.specs.Numbers.{DONE}
use Rattle.tables.specs.Tables.{Tables}
use Rattle.query.specs.declared.Query.{Query}
use Rattle.calls.specs.Call.{after}
use Rattle.calls.specs.Refusals.{refusal_number, told_call}
use Rattle.calls.specs.declared.refusal.Refusal.{Refusal}
use Rattle.collect.specs.Collect.{clear_query}
use Rattle.collect.specs.Filling.{Filling, read_into, collect_into, filling_of}
use Rattle.collect.specs.One.{FillingOne, read_one_into, clear_one, filling_one_of}
use Rattle.collect.specs.declared.read.Reading.{Reading}
use Rattle.collect.specs.declared.whole.Collected.{Collected}

-- after a reading, where t are the tables and `out` the lent list; a refused one gives no steps and fills nothing
abbrev pub told_reading_one : Result Reading Refusal → Tables → List ℕ → FillingOne
told_reading_one (Ok d) t out = filling_one_of DONE t d.steps d.filled out
told_reading_one (Err r) t out = filling_one_of (refusal_number r) t 0 0 out

-- the same with the lanes, which stay as they are
abbrev pub told_reading : List Query → Result Reading Refusal → Tables → List ℕ → Filling
told_reading qs (Ok d) t out = filling_of DONE t qs d.steps d.filled out
told_reading qs (Err r) t out = filling_of (refusal_number r) t qs 0 0 out

-- after a collection
abbrev pub told_collection : List Query → Result Collected Refusal → Tables → List ℕ → Filling
told_collection qs (Ok c) t out = filling_of DONE t c.queries c.reading.steps c.reading.filled out
told_collection qs (Err r) t out = filling_of (refusal_number r) t qs 0 0 out

-- A READING from lane l into a list that is lent: the lanes stay as they are.
abbrev pub Reads : List Query → ℕ → Lent (List ℕ) → Result Reading Refusal → Tables → Tables → Type 0
Reads qs l out r t t' = read_into t qs l out.old ≡ told_reading qs r t' out.new

-- A CLEARING of lane l.
abbrev pub Clears : List Query → ℕ → Result (List Query) Refusal → Tables → Tables → Type 0
Clears qs l r t t' = after t qs (clear_query t qs l) ≡ told_call qs r t'

-- A COLLECTION from lane l into a list that is lent.
abbrev pub Collects : List Query → ℕ → Lent (List ℕ) → Result Collected Refusal → Tables → Tables → Type 0
Collects qs l out r t t' = collect_into t qs l out.old ≡ told_collection qs r t' out.new

-- Reading and clearing of one lane, in which the query q is.
abbrev pub ReadsOne : Query → ℕ → Lent (List ℕ) → Result Reading Refusal → Tables → Tables → Type 0
ReadsOne q l out r t t' = read_one_into t l q out.old ≡ told_reading_one r t' out.new

abbrev pub ClearsOne : Query → ℕ → Result Query Refusal → Tables → Tables → Type 0
ClearsOne q l r t t' = after t q (clear_one t l q) ≡ told_call q r t'
