-- WHAT THE CALLS OF QUERIES PROMISE, of the tables t as a call finds them and t' as it leaves them: the number, the tables and the lanes afterwards are
-- those of the definition, for every content of the tables and every argument.
use Rattle.std.specs.Prelude.{◌≡◌, Result, List, ℕ}
use Rattle.base.specs.declared.Stop.{Stop}
use Rattle.regions.specs.declared.region.Region.{Region}
use Rattle.tables.specs.Tables.{Tables}
use Rattle.query.specs.Scan.{progress_says}
use Rattle.query.specs.declared.Query.{Query}
use Rattle.calls.specs.Call.{after, after_of, next_lanes}
use Rattle.calls.specs.Refusals.{told_call, told_step}
use Rattle.calls.specs.declared.refusal.Refusal.{Refusal}
use Rattle.calls.specs.declared.pace.Stepped.{Stepped}
use Rattle.queries.specs.Query.{query_start, query_step}
use Rattle.queries.specs.One.{start_one, step_one}

-- A START of a query with the question u in lane l.
abbrev pub Starts : List Query → ℕ → Region → Result (List Query) Refusal → Tables → Tables → Type 0
Starts qs l u r t t' = after t qs (query_start t qs l u) ≡ told_call qs r t'

-- A STEP of the query in lane l.
abbrev pub Steps : List Query → ℕ → Result (Stepped (List Query)) Refusal → Tables → Tables → Type 0
Steps qs l r t t' = after t qs (query_step t qs l) ≡ told_step qs r t'

-- The same of one lane, in which the query q is.
abbrev pub StartsOne : Query → ℕ → Region → Result Query Refusal → Tables → Tables → Type 0
StartsOne q l u r t t' = after t q (start_one t l q u) ≡ told_call q r t'

abbrev pub StepsOne : Query → ℕ → Result (Stepped Query) Refusal → Tables → Tables → Type 0
StepsOne q l r t t' = after t q (step_one t l q) ≡ told_step q r t'

-- the end of a step, from how it went
abbrev pub EndsStep : Query → Result Query Stop → Result (Stepped Query) Refusal → Type 0
EndsStep q progress r =
    (t : Tables)
    → after_of (progress_says progress).number t (next_lanes q (λ (s : Query). s) (progress_says progress).next) ≡ told_step q r t
