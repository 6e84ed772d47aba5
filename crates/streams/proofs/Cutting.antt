-- LINES CUT FROM BLOCKS. The lines of some bytes with others behind them: where the first have a line feed, the bytes
-- before it are a line and the rest goes on; where they have none, they are kept of the line that the others go on
-- with. By induction on the bytes.
use mathlib.Core.Path.{◌≡◌, refl, sym, ap, ◌∙◌}
use mathlib.Core.Bool.{Bool, true, false}
use Rattle.std.specs.Prelude.{Option, None, Some}
use mathlib.Core.List.{List, [], ◌∷◌, ◌++◌, append_assoc, append-nil}
use Prim.Native.Nat.{ℕ, ◌≤◌}
use native.Mathlib.Omega.{arith}
use borrow.Author.Tests.{leb-true, leb-false}
use Rattle.base.proofs.Table.{by_test}
use lib.Dec.{eqb, leb}
use lib.ListN.{length, take, length-take}
use lib.Seq.{take_all, take_at, length-take-le, take-append-le}
use Rattle.base.specs.Outcome.{pick}
use Rattle.script.specs.Split.{before, behind}
use Rattle.streams.specs.Lines.{joined, kept_lines}

-- ---- blocks one behind the other

pub joined-append : (bs cs : List (List ℕ)) → joined (bs ++ cs) ≡ joined bs ++ joined cs
unfolding joined
joined-append [] cs = refl
joined-append (b ∷ bs) cs = rw (joined-append bs cs) (sym (append_assoc b (joined bs) (joined cs)))

pub joined_more : (bs : List (List ℕ)) (b : List ℕ) → joined (bs ++ b ∷ []) ≡ joined bs ++ b
unfolding joined
joined_more bs b = joined-append bs (b ∷ []) ∙ ap (λ (l : List ℕ). joined bs ++ l) (append-nil b)

-- ---- what is kept

pub kept_short : (l : List ℕ) → length (take 61 l) ≤ 61
kept_short l = omega (arith, length-take 61 l)

-- what is kept of what is kept
pub kept_again : (l m : List ℕ) → take 61 (take 61 l ++ m) ≡ take 61 (l ++ m)
kept_again l m =
    by_test (leb (length l) 61)
    (λ t. let h = leb-true (length l) 61 t in rw (take_all 61 l h))
    (λ t.
    let h : 61 ≤ length l = omega (arith, leb-false (length l) 61 t) in
    take_at (take 61 l) m 61 (length-take-le 61 l h) ∙ sym (take-append-le 61 l m h))

-- a byte is kept
kept_byte : (had : List ℕ) (b : ℕ) (m : List ℕ) → take 61 (take 61 (had ++ b ∷ []) ++ m) ≡ take 61 (had ++ b ∷ m)
kept_byte had b m = kept_again (had ++ b ∷ []) m ∙ ap (take 61) (append_assoc had (b ∷ []) m)

some_same : {A : Type 0} {x y : A} → Some x ≡ Some y → x ≡ y
some_same e = cc

none_some : {A : Type 0} {x : A} → ◌≡◌ {A = Option A} None (Some x) → ⊥
none_some e = let z : ◌≡◌ {A = ℕ} 0 1 = cc in omega arith

-- ---- lines

-- no line feed
on_by : (b : ℕ) (bytes later had : List ℕ) (t : Bool)
    → (behind bytes ≡ None → kept_lines (take 61 (had ++ b ∷ [])) (bytes ++ later) ≡ kept_lines
    (take 61 (take 61 (had ++ b ∷ []) ++ before bytes)) later)
    → pick t (Some bytes) (behind bytes) ≡ None
    → pick t (had ∷ kept_lines [] (bytes ++ later)) (kept_lines (take 61 (had ++ b ∷ [])) (bytes ++ later))
    ≡ kept_lines (take 61 (had ++ pick t [] (b ∷ before bytes))) later
unfolding pick
on_by b bytes later had true ih f = absurd (none_some (sym f))
on_by b bytes later had false ih f = ih f ∙ ap (λ (l : List ℕ). kept_lines l later) (kept_byte had b (before bytes))

pub lines_on : (bytes later had : List ℕ) → length had ≤ 61 → behind bytes ≡ None
    → kept_lines had (bytes ++ later) ≡ kept_lines (take 61 (had ++ before bytes)) later
unfolding kept_lines before behind pick
lines_on [] later had h e = sym (ap (λ (l : List ℕ). kept_lines l later)
    (ap (take 61) (append-nil had) ∙ take_all 61 had h))
lines_on (b ∷ bytes) later had h e =
    on_by b bytes later had (eqb b 10) (lines_on bytes later (take 61 (had ++ b ∷ [])) (kept_short (had ++ b ∷ []))) e

-- a line feed
cut_by : (b : ℕ) (bytes later had rest : List ℕ) (t : Bool) → length had ≤ 61
    → (behind bytes ≡ Some rest
    → kept_lines (take 61 (had ++ b ∷ [])) (bytes ++ later) ≡ take 61
    (take 61 (had ++ b ∷ []) ++ before bytes) ∷ kept_lines [] (rest ++ later))
    → pick t (Some bytes) (behind bytes) ≡ Some rest
    → pick t (had ∷ kept_lines [] (bytes ++ later)) (kept_lines (take 61 (had ++ b ∷ [])) (bytes ++ later))
    ≡ take 61 (had ++ pick t [] (b ∷ before bytes)) ∷ kept_lines [] (rest ++ later)
unfolding pick
cut_by b bytes later had rest true h ih f = rw (append-nil had, take_all 61 had h, some_same f)
cut_by b bytes later had rest false h ih f =
    ih f ∙ ap (λ (l : List ℕ). l ∷ kept_lines [] (rest ++ later)) (kept_byte had b (before bytes))

pub lines_cut : (bytes later had rest : List ℕ) → length had ≤ 61 → behind bytes ≡ Some rest
    → kept_lines had (bytes ++ later) ≡ take 61 (had ++ before bytes) ∷ kept_lines [] (rest ++ later)
unfolding kept_lines before behind pick
lines_cut [] later had rest h e = absurd (none_some e)
lines_cut (b ∷ bytes) later had rest h e =
    cut_by b bytes later had rest (eqb b 10) h
    (lines_cut bytes later (take 61 (had ++ b ∷ [])) rest (kept_short (had ++ b ∷ []))) e
