-- THE LINES OF AN INPUT, cut from blocks and kept up to 61 bytes. `blocks_lines`: whatever the blocks, the lines cut
-- from them are the lines of their concatenation. By induction on the cuts, each a law of Fetching.antt. `kept_output`:
-- what is kept of the lines prints what the lines print, since a line of more than 60 bytes is unreadable and so are
-- its first 61.
use mathlib.Core.Path.{◌≡◌, refl, sym, ap, ◌∙◌}
use mathlib.Core.Bool.{Bool, true, false}
use mathlib.Core.List.{List, [], ◌∷◌, ◌++◌, map}
use Prim.Native.Nat.{ℕ, suc, ◌≤◌}
use native.Mathlib.Omega.{arith}
use lib.Dec.{eqb}
use lib.ListN.{length, take}
use Rattle.base.specs.Outcome.{pick}
use Rattle.script.proofs.Theorems.{parse_kept}
use Rattle.grid.specs.Run.{Grid}
use Rattle.lines.specs.Line.{Lined, line_step}
use Rattle.streams.specs.Lines.{joined, last_line, lines_behind, lines_of, kept_lines}
use Rattle.streams.specs.Lines.{Cuts, over, another, ended, onward}
use Rattle.console.specs.Text.{line_text, script_text}
use Rattle.streams.proofs.Cutting.{kept_again}
use Rattle.streams.proofs.Fetching.{cut_met, cut_on, kept_few}

-- ---- from blocks

cuts_lines : {had rest : List ℕ} {blocks lines : List (List ℕ)} → length had ≤ 61 → Cuts had rest blocks lines
    → lines ≡ kept_lines had (rest ++ joined blocks)
unfolding joined kept_lines
cuts_lines h over = refl
cuts_lines h (another c) = cuts_lines h c
cuts_lines {blocks = blocks} h (ended {had} {block} {line} {from = from} {next = next} k c) =
    ap (λ (ls : List (List ℕ)). line ∷ ls) (cuts_lines (omega arith) c)
    ∙ sym (cut_met block had line (joined blocks) from h next k)
cuts_lines {blocks = blocks} h (onward {had} {block} {line} {from = from} k c) =
    cuts_lines (kept_few k) c ∙ sym (cut_on block had line (joined blocks) from h k)

-- ---- what is kept of the lines

cut_last : (had : List ℕ) → last_line (take 61 had) ≡ map (take 61) (last_line had)
unfolding last_line
cut_last [] = refl
cut_last (b ∷ bs) = refl

kept_by : (b : ℕ) (bs had : List ℕ) (t : Bool)
    → kept_lines [] bs ≡ map (take 61) (lines_behind [] bs)
    → kept_lines (take 61 (had ++ b ∷ [])) bs ≡ map (take 61) (lines_behind (had ++ b ∷ []) bs)
    → pick t (take 61 had ∷ kept_lines [] bs) (kept_lines (take 61 (take 61 had ++ b ∷ [])) bs)
    ≡ map (take 61) (pick t (had ∷ lines_behind [] bs) (lines_behind (had ++ b ∷ []) bs))
unfolding pick
kept_by b bs had true x y = ap (λ (ls : List (List ℕ)). take 61 had ∷ ls) x
kept_by b bs had false x y = ap (λ (l : List ℕ). kept_lines l bs) (kept_again had (b ∷ [])) ∙ y

kept_all : (had bytes : List ℕ) → kept_lines (take 61 had) bytes ≡ map (take 61) (lines_behind had bytes)
unfolding kept_lines lines_behind
kept_all had [] = cut_last had
kept_all had (b ∷ bs) = kept_by b bs had (eqb b 10) (kept_all [] bs) (kept_all (had ++ b ∷ []) bs)

-- THE LINES CUT FROM BLOCKS, whatever the blocks, are the lines of their concatenation, each up to its 61st byte.
pub blocks_lines : {blocks lines : List (List ℕ)} → Cuts [] [] blocks lines
    → lines ≡ map (take 61) (lines_of (joined blocks))
blocks_lines {blocks} c = cuts_lines (omega arith) c ∙ kept_all [] (joined blocks)

-- ---- what they print

step_kept : (line : List ℕ) (g : Grid) (list : List ℕ) → line_step (take 61 line) g list ≡ line_step line g list
unfolding line_step
step_kept line g list = rw (parse_kept line)

text_kept : (i : ℕ) (line : List ℕ) (r : Lined) → line_text i (take 61 line) r ≡ line_text i line r
text_kept i line r = rw (parse_kept line)

script_kept : (i : ℕ) (lines : List (List ℕ)) (g : Grid) (list : List ℕ)
    → script_text i (map (take 61) lines) g list ≡ script_text i lines g list
unfolding script_text
script_kept i [] g list = refl
script_kept i (l ∷ ls) g list =
    let r = line_step l g list in
    ap (λ (x : Lined). line_text (suc i) (take 61 l) x ++ script_text (suc i) (map (take 61) ls) x.grid x.list)
    (step_kept l g list)
    ∙ (ap (λ (x : List ℕ). x ++ script_text (suc i) (map (take 61) ls) r.grid r.list) (text_kept (suc i) l r)
    ∙ ap (λ (x : List ℕ). line_text (suc i) l r ++ x) (script_kept (suc i) ls r.grid r.list))

-- WHAT IS KEPT OF THE LINES prints what the lines print.
pub kept_output : (i : ℕ) (bytes : List ℕ) (g : Grid) (list : List ℕ)
    → script_text i (kept_lines [] bytes) g list ≡ script_text i (lines_of bytes) g list
kept_output i bytes g list = ap (λ (ls : List (List ℕ)). script_text i ls g list) (kept_all [] bytes)
    ∙ script_kept i (lines_of bytes) g list
