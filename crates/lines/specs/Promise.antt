-- WHAT A LINE PROMISES, and what the calls that it asks for do, of the tables t as it finds them and t' as it leaves
-- them.
use Rattle.std.specs.Prelude.{◌≡◌, Bool, true, false, List, ℕ, ⊤, Option, Some, Result, Ok, Err}
use Rattle.base.specs.Lent.{Lent}
use Rattle.base.specs.Numbers.{DONE}
use Rattle.tables.specs.Tables.{Tables}
use Rattle.stage.specs.declared.Updater.{Updater}
use Rattle.query.specs.declared.Query.{Query}
use Rattle.script.specs.Grammar.{Command}
use Rattle.script.specs.Parse.{list_says}
use Rattle.script.specs.declared.line.UpdateLine.{UpdateLine}
use Rattle.script.specs.declared.line.QueryLine.{QueryLine}
use Rattle.script.specs.declared.line.ListLine.{ListLine}
use Rattle.calls.specs.Call.{after}
use Rattle.calls.specs.Refusals.{pace_number, refusal_number, told_step}
use Rattle.calls.specs.declared.pace.Stepped.{Stepped}
use Rattle.calls.specs.declared.refusal.Refusal.{Refusal}
use Rattle.collect.specs.Filling.{Filling, filling_of}
use Rattle.grid.specs.Grid.{Lanes}
use Rattle.grid.specs.Run.{grid_of}
use Rattle.lines.specs.Line.{update_by, query_by, list_by, line_step, Lined, lined_of, lists}
use Rattle.lines.specs.declared.step.Answer.{Answer}
use Rattle.lines.specs.declared.step.Answer.TheVariants.{Went, Listed}
use Rattle.lines.specs.declared.step.LineStep.{LineStep}

-- the number, the steps and how many numbers of the lent list are filled, of an accepted line
abbrev pub answer_number : Answer → ℕ
answer_number (Went p) = pace_number p
answer_number (Listed d) = DONE

abbrev pub answer_steps : Answer → ℕ
answer_steps (Went p) = 0
answer_steps (Listed d) = d.steps

abbrev pub answer_filled : Answer → ℕ
answer_filled (Went p) = 0
answer_filled (Listed d) = d.filled

-- whether a list is handed back
abbrev pub hands_list : Answer → Bool
hands_list (Went p) = false
hands_list (Listed d) = true

-- after a line about a list, where t are the tables and `out` the lent list
abbrev pub told_list : List Query → Result (Answer × List Query) Refusal → Tables → List ℕ → Filling
told_list qs (Ok r) t out = filling_of (answer_number r.0) t r.1 (answer_steps r.0) (answer_filled r.0) out
told_list qs (Err r) t out = filling_of (refusal_number r) t qs 0 0 out

-- after a line: a refused one gives no steps, fills nothing, and leaves the lanes as they were
abbrev pub told_line : Lanes → Result LineStep Refusal → Tables → List ℕ → Lined
told_line ls (Ok s) t out =
    lined_of (answer_number s.answer) (answer_steps s.answer) (answer_filled s.answer)
    (grid_of t s.lanes.updaters s.lanes.queries) out
told_line ls (Err r) t out = lined_of (refusal_number r) 0 0 (grid_of t ls.updaters ls.queries) out

-- A LINE ABOUT AN UPDATE is answered: number, tables and updaters are those of its call.
abbrev pub AnswersUpdate : UpdateLine → List Updater → Result (Stepped (List Updater)) Refusal
    → Tables → Tables → Type 0
AnswersUpdate u us r t t' = after t us (update_by u t us) ≡ told_step us r t'

-- A LINE ABOUT A QUERY is answered: number, tables and queries are those of its call.
abbrev pub AnswersQuery : QueryLine → List Query → Result (Stepped (List Query)) Refusal
    → Tables → Tables → Type 0
AnswersQuery q qs r t t' = after t qs (query_by q t qs) ≡ told_step qs r t'

-- A LINE ABOUT A LIST is answered: number, steps, queries and list are those of its call.
abbrev pub AnswersList : ListLine → List Query → Lent (List ℕ) → Result (Answer × List Query) Refusal
    → Tables → Tables → Type 0
AnswersList w qs out r t t' = list_by w.wish w.lane t qs out.old ≡ told_list qs r t' out.new

-- An accepted one is answered as `Listed` exactly where a list is handed back.
abbrev pub ListsWish : ListLine → Result (Answer × List Query) Refusal → Type 0
ListsWish w (Ok r) = lists (Some (list_says w.wish w.lane)) ≡ hands_list r.0
ListsWish w (Err r) = ⊤

-- A LINE of a script is answered: number, steps, list, tables and lanes are those of the call that it asks for.
abbrev pub Answers : Lent (List ℕ) → Lent (List ℕ) → Lanes → Result LineStep Refusal
    → Tables → Tables → Type 0
Answers line out ls r t t' =
    line_step line.old (grid_of t ls.updaters ls.queries) out.old ≡ told_line ls r t' out.new

-- An accepted line is answered as `Listed` exactly where its command is a collection or a reading.
abbrev pub Lists : Option Command → Result LineStep Refusal → Type 0
Lists c (Ok s) = lists c ≡ hands_list s.answer
Lists c (Err r) = ⊤
