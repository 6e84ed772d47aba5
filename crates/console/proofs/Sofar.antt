-- A RUN SO FAR. There are blocks, those that were read, and pieces, those that were handed over, such that what stood on
-- the page at first, and the output of the blocks and of whatever is read later, are these pieces, then what stands on
-- the page, and then the output of the lines that are to come. One law for each step of answer_lines: its start, its
-- next line, its answer, its end.
use mathlib.Core.Path.{◌≡◌, refl, sym, ap, ◌∙◌, subst}
use mathlib.Core.Logic.{◌⊎◌, ⊎_elim}
use mathlib.Core.List.{List, [], ◌∷◌, ◌++◌, append_assoc, append-nil}
use Prim.Native.Nat.{ℕ, suc, ◌+◌}
use native.Mathlib.Numerals.{add-one}
use lib.IntN.{ℤ}
use lib.ListN.{length, replicate}
use Rattle.words.specs.Map.{WORDS, TIMES}
use Rattle.tables.specs.Tables.{Tables, empty_tables}
use Rattle.tables.specs.Grid.{grid}
use Rattle.tables.proofs.Grid.{right_words_lem}
use Rattle.calls.specs.Call.{After, after, after_of, unless}
use Rattle.grid.specs.Grid.{Lanes, lanes_of, reset_grid}
use Rattle.updates.specs.Update.{idle_updaters}
use Rattle.queries.specs.Query.{idle_queries}
use Rattle.stage.specs.declared.Updater.{Updater}
use Rattle.query.specs.declared.Query.{Query}
use Rattle.grid.specs.Run.{Grid, grid_of, empty_grid}
use Rattle.lines.specs.Line.{line_step}
use Rattle.streams.specs.Lines.{joined, kept_lines}
use Rattle.console.specs.Text.{line_text, script_text}
use Rattle.console.specs.Turn.{Turn}
use Rattle.streams.specs.Next.{at_start, left, Later, due, NextLine}
use Rattle.console.specs.Run.{output_of, Answered, Ran}
use Rattle.std.specs.Prelude.{Result, Ok, Err, IsOk, IsErr, ⊤}
use Rattle.streams.specs.declared.input.Fetched.{Fetched}
use Rattle.streams.specs.declared.input.Fetched.TheVariants.{Line, End}
use Rattle.streams.specs.declared.progress.Failed.{Failed}
use Rattle.streams.specs.declared.progress.Progress.{Progress}
use Rattle.streams.specs.declared.progress.Progress.TheVariants.{Open, Ended as Over}
use Rattle.console.specs.declared.run.Ended.{Ended}
use Rattle.console.specs.declared.run.Reads.TheVariants.{Whole}
use Rattle.streams.proofs.Cutting.{joined-append, joined_more}
use Rattle.console.proofs.Inputs.{kept_output}

-- what stood on the page at first; so many lines are answered; the lines to come, by what is read later; what stands on
-- the page
pub record Sofar (front : List ℕ) (number : ℕ) (p : Progress) (lines : List ℕ → List (List ℕ)) (page : List ℕ)
    (g : Grid) (list : List ℕ) : Type 0 where
  pub blocks : List (List ℕ)
  pub pieces : List (List ℕ)
  pub text : (later : List ℕ) → Later p later
      → front ++ output_of (joined blocks ++ later) ≡ joined pieces ++ (page ++ script_text number (lines later) g list)

-- before a line is read, and with what was read
abbrev pub Before : List ℕ → ℕ → List ℕ → Progress → List ℕ → Grid → List ℕ → Type 0
Before front n block p page g list = Sofar front n p (λ later. kept_lines [] (left block p ++ later)) page g list

abbrev pub Behind : Result Fetched Failed → List ℕ → ℕ → List ℕ → List ℕ → Progress → List ℕ → Grid → List ℕ → Type 0
Behind r front n block line p page g list = Sofar front n p (λ later. due r line (left block p ++ later)) page g list

-- ---- the start

-- a reset of tables of the right lengths makes the empty grid
pub reset_empty : (w : List ℕ) (ts : List ℤ) (ls : Lanes) (n : ℕ) (t : Tables) (us : List Updater) (qs : List Query)
    → length w ≡ WORDS → length ts ≡ TIMES
    → after (grid w ts) ls (reset_grid (grid w ts)) ≡ after_of n t (lanes_of us qs) → grid_of t us qs ≡ empty_grid
unfolding reset_grid unless after empty_grid
reset_empty w ts ls n t us qs h k e =
    let told = rw (right_words_lem w ts h k) at e in
    sym (ap (λ (a : After Lanes). grid_of a.tables a.lanes.updaters a.lanes.queries) told)

-- tables that were emptied make the empty grid, with idle lanes
pub emptied : (t : Tables) (us : List Updater) (qs : List Query) → t ≡ empty_tables → us ≡ idle_updaters
    → qs ≡ idle_queries → grid_of t us qs ≡ empty_grid
unfolding empty_grid
emptied t us qs h k l = cc

pub sofar_start : (block page : List ℕ) {p : Progress} {g : Grid} → p ≡ at_start → g ≡ empty_grid
    → Before page 0 block p page g (replicate 1024 0)
unfolding joined output_of
sofar_start block page {p} {g} e k =
    subst (λ (x : Progress). Before page 0 block x page g (replicate 1024 0)) (sym e)
    record {
      blocks = [];
      pieces = [];
      text =
          λ later h.
          ap (λ (l : List ℕ). page ++ l)
          (sym (kept_output 0 later empty_grid (replicate 1024 0))
          ∙ ap (λ (x : Grid). script_text 0 (kept_lines [] later) x (replicate 1024 0)) (sym k));
    }

-- ---- the next line

-- what stands on the page is handed over, or stands there still
moved : (pieces : List (List ℕ)) (page page' : List ℕ) → (page' ≡ page) ⊎ (page' ≡ [])
    → (more : List (List ℕ)) × ((rest : List ℕ) → joined pieces ++ (page ++ rest) ≡ joined more ++ (page' ++ rest))
moved pieces page page' e =
    ⊎_elim
    (λ k. (pieces, λ rest. ap (λ (l : List ℕ). joined pieces ++ (l ++ rest)) (sym k)))
    (λ k. (
      pieces ++ page ∷ [],
      λ rest.
          sym (append_assoc (joined pieces) page rest)
          ∙ (ap (λ (l : List ℕ). l ++ rest) (sym (joined_more pieces page))
          ∙ ap (λ (l : List ℕ). joined (pieces ++ page ∷ []) ++ (l ++ rest)) (sym k)),
    ))
    e

pub sofar_next : {front block block' line' page page' list : List ℕ} {n : ℕ} {p p' : Progress} {r : Result Fetched Failed} {g : Grid}
    → Before front n block p page g list → NextLine block p page block' line' p' page' r
    → Behind r front n block' line' p' page' g list
sofar_next {front} {block} {block'} {line'} {page} {page'} {list} {n} {p} {p'} {r} {g} s t =
    let m = moved s.pieces page page' t.room in
    record {
      blocks = s.blocks ++ t.blocks;
      pieces = m.0;
      text =
          λ later h.
          ap (λ (l : List ℕ). front ++ output_of l)
          (ap (λ (l : List ℕ). l ++ later) (joined-append s.blocks t.blocks)
          ∙ append_assoc (joined s.blocks) (joined t.blocks) later)
          ∙ (s.text (joined t.blocks ++ later) (t.allowed later h)
          ∙ (ap (λ (ls : List (List ℕ)). joined s.pieces ++ (page ++ script_text n ls g list)) (t.lines later h)
          ∙ m.1 (script_text n (due r line' (left block' p' ++ later)) g list)));
    }

-- ---- the answer

pub sofar_turn : (block : List ℕ) (p : Progress) {r : Result Fetched Failed} {front line said page page' list list' : List ℕ} {n : ℕ} {g g' : Grid}
    → Behind r front n block line p page g list → r ≡ Ok Line → said ≡ line
    → Turn (n + 1) said g list page g' list' page'
    → Before front (n + 1) block p page' g' list'
unfolding script_text
sofar_turn block p {r} {front} {line = line₀} {said = line} {page} {page'} {list} {list'} {n} {g} {g'} s e k t =
    let x = line_step line g list in
    let text = line_text (n + 1) line x in
    record {
      blocks = s.blocks;
      pieces = s.pieces;
      text =
          λ later h.
          let ls = kept_lines [] (left block p ++ later) in
          let after : line_text (suc n) line x ++ script_text (suc n) ls x.grid x.list ≡ text ++ script_text (n + 1) ls g' list' =
          ap (λ (i : ℕ). line_text i line x ++ script_text i ls x.grid x.list) (sym (add-one n))
          ∙ (ap (λ (y : Grid). text ++ script_text (n + 1) ls y x.list) t.grid
          ∙ ap (λ (y : List ℕ). text ++ script_text (n + 1) ls g' y) t.handed)
          in
          s.text later h
          ∙ (ap (λ (y : Result Fetched Failed). joined s.pieces ++ (page ++ script_text n (due y line₀ (left block p ++ later)) g list)) e
          ∙ (ap (λ (y : List ℕ). joined s.pieces ++ (page ++ script_text n (y ∷ ls) g list)) (sym k)
          ∙ ap (λ (y : List ℕ). joined s.pieces ++ y)
          (ap (λ (y : List ℕ). page ++ y) after
          ∙ (sym (append_assoc page text (script_text (n + 1) ls g' list'))
          ∙ ap (λ (y : List ℕ). y ++ script_text (n + 1) ls g' list') (sym t.text)))));
    }

-- ---- the end

none_later : (p : Progress) → Later p []
none_later (Open i) = tt
none_later Over = refl

pub sofar_end : {front page list : List ℕ} {n : ℕ} {p : Progress} {g : Grid} {lines : List ℕ → List (List ℕ)} (r : Result ⊤ Failed)
    → Sofar front n p lines page g list → (IsOk r → lines [] ≡ []) → Answered front page r
unfolding script_text
sofar_end {front} {page} {list} {n} {p} {g} {lines} r s k =
    let rest = script_text n (lines []) g list in
    let told : front ++ output_of (joined s.blocks) ≡ (joined s.pieces ++ page) ++ rest =
    ap (λ (l : List ℕ). front ++ output_of l) (sym (append-nil (joined s.blocks)))
    ∙ (s.text [] (none_later p) ∙ sym (append_assoc (joined s.pieces) page rest))
    in
    record {
      blocks = s.blocks;
      pieces = s.pieces;
      begun = record { rest = rest; same = told };
      all =
          λ e.
          sym (told ∙ (ap (λ (ls : List (List ℕ)). (joined s.pieces ++ page) ++ script_text n ls g list) (k e)
          ∙ append-nil (joined s.pieces ++ page)));
    }

-- every line was answered: none is left
pub answered_whole : (block line : List ℕ) (p : Progress) {front page list : List ℕ} {n : ℕ} {g : Grid} {q : Result Fetched Failed} (r : Result ⊤ Failed)
    → Behind q front n block line p page g list → q ≡ Ok End → Answered front page r
answered_whole block line p r s e = sofar_end r s (λ t. ap (λ (x : Result Fetched Failed). due x line (left block p ++ [])) e)

-- or something failed
no_end : (r : Result ⊤ Failed) {lines : List (List ℕ)} → IsErr r → IsOk r → lines ≡ []
no_end (Ok u) h k = cc
no_end (Err f) h k = cc

pub answered_failed : {front page list : List ℕ} {n : ℕ} {p : Progress} {g : Grid} {lines : List ℕ → List (List ℕ)} (r : Result ⊤ Failed)
    → Sofar front n p lines page g list → IsErr r → Answered front page r
answered_failed r s h = sofar_end r s (no_end r h)

-- what stands on the page at last is handed over
pub ran : (page : List ℕ) {front : List ℕ} {lines : Result ⊤ Failed} (r : Ended) → Answered front page lines → front ≡ []
    → (r.reads ≡ Whole → IsOk lines) → Ran r
ran page r a e k =
    let same = joined_more a.pieces page in
    let none = ap (λ (l : List ℕ). l ++ output_of (joined a.blocks)) e in
    record {
      blocks = a.blocks;
      pieces = a.pieces ++ page ∷ [];
      begun = record { rest = a.begun.rest; same = sym none ∙ (a.begun.same ∙ ap (λ (l : List ℕ). l ++ a.begun.rest) (sym same)) };
      all = λ w. same ∙ (a.all (k w) ∙ none);
    }
