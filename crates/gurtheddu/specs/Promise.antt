-- WHAT THE EXPORTS PROMISE, of the tables t as a call finds them and t' as it leaves them, of the lanes' numbers and of
-- what is handed back: all are those of the definition, for every content of the tables, the lanes and the list.
use Rattle.std.specs.Prelude.{◌≡◌, Result, MatchResult, Bool, true, false, List, ℕ, ◌<◌, ◌≤◌, length, slice_index_or}
use Rattle.std.specs.Borrow.{Bor}
use Rattle.base.specs.Lent.{Lent}
use Rattle.layout.specs.declared.question.Question.{Question as Rectangle}
use Rattle.tables.specs.Tables.{Tables}
use Rattle.calls.specs.Call.{after, after_of}
use Rattle.calls.specs.Run.{ran_of}
use Rattle.calls.specs.declared.refusal.Refusal.{Refusal}
use Rattle.calls.specs.declared.refusal.Refusal.TheVariants.{NoSuchLane, Corrupt}
use Rattle.collect.specs.One.{filling_one_of}
use Rattle.collect.specs.Promise.{told_reading_one}
use Rattle.collect.specs.declared.read.Reading.{Reading}
use Rattle.gurtheddu.specs.Coded.{start_update, run_update, start_sweep, run_sweep, read_from, clear_lane, reset_deck}
use Rattle.gurtheddu.specs.Coded.{lanes_of, rewind_deck}

-- LANE l IS FOUND among the lanes ls: it is x, which names something.
pub record FoundLane {L : Type 0} (names : L → Bool → Type 0) (ls : List L) (l : ℕ) (x : L) : Type 0 where
  pub lane : l < length ls
  pub is : slice_index_or ls l x ≡ x
  pub named : names x true

-- LANE l IS NOT FOUND among them: there is no such lane, and the number is 1, or it names nothing, and the number is
-- 12.
pub data LostLane {L : Type 0} (names : L → Bool → Type 0) (ls : List L) (l : ℕ) : Refusal → Type 0 where
  laneless : length ls ≤ l → LostLane names ls l NoSuchLane
  nameless : (x : L) → l < length ls → slice_index_or ls l x ≡ x → names x false → LostLane names ls l Corrupt

-- A SEARCH for lane l among the lanes ls, with the test whether a lane names something.
abbrev pub FindsLane : {L : Type 0} → (L → Bool → Type 0) → List L → ℕ → Result (Bor L) Refusal → Type 0
FindsLane names ls l r = MatchResult r (λ x. FoundLane names ls l x.now) (LostLane names ls l)

-- A START of an update of object k, to stand at (x, y) with tag m, in lane l, gives n.
abbrev pub StartsUpdate : Lent (List ℕ) → ℕ → ℕ → ℕ → ℕ → ℕ → ℕ → Tables → Tables → Type 0
StartsUpdate ns l k x y m n t t' = after t ns.old (start_update t ns.old l k x y m) ≡ after_of n t' ns.new

-- A RUN of up to b steps of the update in lane l gives n.
abbrev pub RunsUpdate : Lent (List ℕ) → ℕ → ℕ → Lent ℕ → ℕ → Tables → Tables → Type 0
RunsUpdate ns l b made n t t' = run_update b l t ns.old ≡ ran_of n made.new t' ns.new

-- A START of a query in lane l, of the question of kind k about the rectangle a with the radius r, gives n.
abbrev pub StartsSweep : Lent (List ℕ) → ℕ → ℕ → Rectangle → ℕ → ℕ → Tables → Tables → Type 0
StartsSweep ns l k a r n t t' = after t ns.old (start_sweep t ns.old l k a r) ≡ after_of n t' ns.new

-- A RUN of up to b steps of the query in lane l gives n.
abbrev pub RunsSweep : Lent (List ℕ) → ℕ → ℕ → Lent ℕ → ℕ → Tables → Tables → Type 0
RunsSweep ns l b made n t t' = run_sweep b l t ns.old ≡ ran_of n made.new t' ns.new

-- A READING from lane l into a list that is lent gives n.
abbrev pub ReadsFrom : Lent (List ℕ) → ℕ → Lent (List ℕ) → Lent ℕ → Lent ℕ → ℕ → Tables → Tables → Type 0
ReadsFrom ns l out steps filled n t t' = read_from t ns.old l out.old ≡ filling_one_of n t' steps.new filled.new out.new

-- The same as its Result tells it.
abbrev pub ReadsLane : Lent (List ℕ) → ℕ → Lent (List ℕ) → Result Reading Refusal → Tables → Tables → Type 0
ReadsLane ns l out r t t' = read_from t ns.old l out.old ≡ told_reading_one r t' out.new

-- A CLEARING of lane l gives n.
abbrev pub ClearsLane : Lent (List ℕ) → ℕ → ℕ → Tables → Tables → Type 0
ClearsLane ns l n t t' = after t ns.old (clear_lane t ns.old l) ≡ after_of n t' ns.new

-- A RESET gives n.
abbrev pub ResetsDeck : Lent (List ℕ) → Lent (List ℕ) → ℕ → Tables → Tables → Type 0
ResetsDeck us qs n t t' =
    after t (lanes_of us.old qs.old) (reset_deck t (lanes_of us.old qs.old)) ≡ after_of n t' (lanes_of us.new qs.new)

-- A REWIND gives n.
abbrev pub RewindsDeck : Lent (List ℕ) → Lent (List ℕ) → ℕ → Tables → Tables → Type 0
RewindsDeck us qs n t t' = after t tt (rewind_deck t us.old qs.old) ≡ after_of n t' tt
