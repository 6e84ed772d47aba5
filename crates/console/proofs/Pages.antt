-- What a turn puts on the page, what stands there then, and that a text has room where a line is answered.
use mathlib.Core.Path.{◌≡◌, refl, ap, ◌∙◌}
use mathlib.Core.List.{List, ◌++◌}
use Prim.Native.Nat.{ℕ, ◌+◌, ◌≤◌}
use native.Mathlib.Omega.{arith}
use lib.ListN.{length, drop}
use lib.Seq.{drop_at}
use Rattle.grid.specs.Run.{Grid}
use Rattle.lines.specs.Line.{line_step}
use Rattle.console.specs.Text.{line_text}
use Rattle.console.specs.Turn.{Turn}
use Rattle.console.specs.Session.{added}

-- what a page has behind what stood on it is the text that was printed
pub printed_between : (page text : List ℕ) {page' : List ℕ} → page' ≡ page ++ text → added page page' ≡ text
printed_between page text p = ap (λ (l : List ℕ). drop (length page) l) p ∙ drop_at page text (length page) refl

-- what stands on the page behind a turn
pub turn_waits : {i : ℕ} {line list list' page page' : List ℕ} {g g' : Grid}
    → Turn i line g list page g' list' page'
    → page' ≡ page ++ line_text i line (line_step line g list)
turn_waits t = t.text

-- so much stands on a page, where so much stands on another with the same bytes
pub waits : {page page' : List ℕ} {n : ℕ} → page ≡ page' → length page' ≤ n → n ≤ 16384 → length page ≤ 16384
waits e h k = omega (arith, ap (λ (l : List ℕ). length l) e)

-- a text, which has at most 11,328 bytes, has room
pub text_room : {page text : ℕ} → page ≤ 5056 → text ≤ 11328 → page + text ≤ 16384
text_room h k = omega arith
