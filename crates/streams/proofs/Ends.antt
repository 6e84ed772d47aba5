-- The lines to come by how reading the line ended, and the next line of them; and all bytes of a block without a line
-- feed are spent.
use mathlib.Core.Path.{◌≡◌, refl, sym, ap, ◌∙◌}
use mathlib.Core.Logic.{◌⊎◌}
use mathlib.Core.Bool.{Bool, true, false}
use mathlib.Core.List.{List, [], ◌∷◌, ◌++◌}
use Rattle.std.specs.Prelude.{Option, None, Some, Result, Ok, Err}
use Prim.Native.Nat.{ℕ, suc, ◌≤◌}
use native.Mathlib.Omega.{arith}
use lib.Dec.{eqb}
use lib.ListN.{length}
use Rattle.base.specs.Outcome.{pick}
use Rattle.base.proofs.Table.{clash}
use Rattle.script.specs.Split.{behind, spent}
use Rattle.streams.specs.Lines.{joined, last_line, kept_lines}
use Rattle.streams.specs.Reading.{coming, has_ended, unread, Fetches}
use Rattle.streams.specs.Next.{due, Ready, NextLine}
use Rattle.streams.specs.Writing.{Room}
use Rattle.streams.specs.declared.input.Fetched.{Fetched}
use Rattle.streams.specs.declared.input.Fetched.TheVariants.{Line, End}
use Rattle.streams.specs.declared.input.Input.{Input}
use Rattle.streams.specs.declared.output.Handed.{Handed}
use Rattle.streams.specs.declared.progress.Failed.{Failed}
use Rattle.streams.specs.declared.progress.Progress.{Progress}
use Rattle.streams.specs.declared.progress.Progress.TheVariants.{Open, Ended}
use Rattle.streams.proofs.Ahead.{next_over, next_unread, next_unwritten}
use Rattle.streams.proofs.Fetching.{unread_none}

-- ---- how reading a line ended

-- a line feed that was met, or not, is not the end
pub cut_ended : (E : Type 0) (t : Bool) → has_ended {E = E} (pick t (Ok (Some Line)) (Ok None)) ≡ false
unfolding pick
cut_ended E true = refl
cut_ended E false = refl

-- the answer with an empty line at the end of the input is that no line is left
abbrev pub at_end : List ℕ → Result Fetched Failed
at_end [] = Ok End
at_end (b ∷ bs) = Ok Line

-- the last line is to come, where something is kept
pub last_due : (line : List ℕ) → kept_lines line [] ≡ due (at_end line) line []
unfolding kept_lines last_line
last_due [] = refl
last_due (b ∷ line) = refl

module _ {E : Type 0} where
  pub clash_ended : {f g : Result (Option Fetched) E} → f ≡ g → has_ended g ≡ false → has_ended f ≡ true
      → ◌≡◌ {A = ℕ} 0 1
  clash_ended e a b = let c = ap has_ended e in cc

  -- what is answered, where f is the failure of a reading that failed, or that is not at the line's end
  abbrev pub answer_in : Failed → Result (Option Fetched) E → List ℕ → Result Fetched Failed
  answer_in f (Ok None) kept = Err f
  answer_in f (Ok (Some Line)) kept = Ok Line
  answer_in f (Ok (Some End)) kept = at_end kept
  answer_in f (Err e) kept = Err f

  -- where reading goes on
  abbrev pub progress_in : Result (Option Fetched) E → Input → Progress
  progress_in (Ok None) i = Open i
  progress_in (Ok (Some Line)) i = Open i
  progress_in (Ok (Some End)) i = Ended
  progress_in (Err e) i = Open i

  -- the lines to come, by how reading the line ended
  pub coming_due : (f : Failed) (q : Result (Option Fetched) E) (line rest later : List ℕ)
      → (has_ended q ≡ true → rest ≡ [])
      → (has_ended q ≡ true → later ≡ [])
      → coming q line (rest ++ later) ≡ due (answer_in f q line) line (rest ++ later)
  coming_due f (Ok None) line rest later e l = refl
  coming_due f (Ok (Some Line)) line rest later e l = refl
  coming_due f (Ok (Some End)) line rest later e l = rw (e refl, l refl) (last_due line)
  coming_due f (Err x) line rest later e l = refl

  -- ---- the next line

  module _ {block line block' line' : List ℕ} {i i' : Input} (q : Result (Option Fetched) E) (out out' : List ℕ)
      (g : Fetches block line i block' line' i' q) (e : line ≡ []) (w : (out' ≡ out) ⊎ (out' ≡ []))
      (small : length out' ≤ 5056) where
    -- what was read, from an empty line on
    told_fetched : (later : List ℕ) → kept_lines [] (unread block i.next i.filled ++ (joined g.blocks ++ later))
        ≡ coming q line' (unread block' i'.next i'.filled ++ later)
    told_fetched later =
        ap (λ (x : List ℕ). kept_lines x (unread block i.next i.filled ++ (joined g.blocks ++ later))) (sym e)
        ∙ g.lines later

    -- reading goes on, where the answer leaves to come what the reading does
    reads_on : (r : Result Fetched Failed) → ((rest : List ℕ) → coming q line' rest ≡ due r line' rest)
        → NextLine block (Open i) out block' line' (Open i') out' r
    reads_on r k =
        record {
          ready = g.within.filled;
          few = g.within.few;
          room = w;
          small = small;
          blocks = g.blocks;
          allowed = λ later h. tt;
          lines = λ later h. told_fetched later ∙ k (unread block' i'.next i'.filled ++ later);
        }

  pub next_read : {block line block' line' : List ℕ} {i i' : Input} (f : Failed) (q : Result (Option Fetched) E)
      (out out' : List ℕ)
      → Fetches block line i block' line' i' q → line ≡ []
      → (out' ≡ out) ⊎ (out' ≡ []) → length out' ≤ 5056
      → NextLine block (Open i) out block' line' (progress_in q i') out' (answer_in f q line')
  next_read f (Ok None) out out' g e w small = reads_on (Ok None) out out' g e w small (Err f) (λ rest. refl)
  next_read f (Ok (Some Line)) out out' g e w small =
      reads_on (Ok (Some Line)) out out' g e w small (Ok Line) (λ rest. refl)
  next_read {block} {line} {block'} {line'} {i} {i'} f (Ok (Some End)) out out' g e w small =
      let over : i'.filled ≡ 0 = g.ended refl in
      let gone : unread block' i'.next i'.filled ≡ [] = unread_none block' i'.next i'.filled (omega arith) in
      record {
        ready = tt;
        few = g.within.few;
        room = w;
        small = small;
        blocks = g.blocks;
        allowed = λ later h. tt;
        lines =
            λ later h.
            told_fetched (Ok (Some End)) out out' g e w small later
            ∙ ap (λ (x : List ℕ). kept_lines line' (x ++ later)) gone
            ∙ coming_due f (Ok (Some End)) line' [] later (λ t. refl) (λ t. h);
      }
  next_read f (Err x) out out' g e w small = reads_on (Err x) out out' g e w small (Err f) (λ rest. refl)

-- ---- no line was read

-- what may be answered then: a failure; or that no line is left, where the input had ended before
abbrev pub Stopped : Progress → Result Fetched Failed → Type 0
Stopped (Open i) (Ok Line) = ⊥
Stopped (Open i) (Ok End) = ⊥
Stopped (Open i) (Err f) = Unit {0}
Stopped Ended (Ok Line) = ⊥
Stopped Ended (Ok End) = Unit {0}
Stopped Ended (Err f) = Unit {0}

-- reading stays where it is, and what stood on the page stands there still, or was handed over
pub next_stopped : {block line out out' : List ℕ} (p : Progress) (o : Option Handed) (r : Result Fetched Failed)
    → Stopped p r → Ready block p → Room out out' o → line ≡ [] → NextLine block p out block line p out' r
next_stopped (Open i) o (Ok Line) s h w e = absurd s
next_stopped Ended o (Ok Line) s h w e = absurd s
next_stopped (Open i) o (Ok End) s h w e = absurd s
next_stopped {block} {line} {out} {out'} Ended o (Ok End) s h w e = next_over block line out out' o w e
next_stopped {block} {line} {out} {out'} (Open i) o (Err f) s h w e = next_unread block line out out' i o f w e h
next_stopped {block} {line} {out} {out'} Ended o (Err f) s h w e = next_unwritten block line out out' o f w e

-- ---- all bytes up to the end are spent where there is no line feed

pub spent_by : (bytes : List ℕ) (t : Bool) → (behind bytes ≡ None → spent bytes ≡ length bytes)
    → pick t (Some bytes) (behind bytes) ≡ None
    → pick t 1 (suc (spent bytes)) ≡ suc (length bytes)
unfolding pick
spent_by bytes true ih f = clash (cc)
spent_by bytes false ih f = ap suc (ih f)

pub spent_all : (bytes : List ℕ) → behind bytes ≡ None → spent bytes ≡ length bytes
unfolding spent behind
spent_all [] e = refl
spent_all (b ∷ bytes) e = spent_by bytes (eqb b 10) (spent_all bytes) e
