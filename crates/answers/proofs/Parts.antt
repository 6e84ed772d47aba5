-- Lines are rows; the digits of a number, printed from its tenth part on; one entry more.
use mathlib.Core.Path.{◌≡◌, refl, sym, ap, ◌∙◌}
use mathlib.Core.List.{List, [], ◌∷◌, ◌++◌, append_assoc}
use Prim.Native.Nat.{ℕ, ◌+◌, ◌*◌, ◌/◌, ◌%◌, ◌<◌, ◌≤◌}
use native.Mathlib.Omega.{arith}
use native.Mathlib.Numerals.{add-one}
use lib.ListN.{length, length-append}
use Rattle.base.specs.Table.{at}
use Rattle.script.specs.Digits.{decimal_of}
use Rattle.script.proofs.Printed.{digits_one, digits_more}
use Rattle.answers.specs.Answer.{closed, row, answer_line, collected_line, entry_line, entry_lines}

-- ---- the digits of a number

pub one-length : (n : ℕ) → n < 10 → length (decimal_of n) ≡ 1
one-length n h = ap length (digits_one n h)

pub digits_short : (n : ℕ) → 10 ≤ n → length (decimal_of n) ≡ length (decimal_of (n / 10)) + 1
digits_short n h = rw (digits_more n h, length-append) (omega arith)

-- a digit behind what stands on a page
pub printed_one : (page : List ℕ) (n : ℕ) → n < 10 → page ++ (48 + n) ∷ [] ≡ page ++ decimal_of n
printed_one page n h = ap (λ (l : List ℕ). page ++ l) (sym (digits_one n h))

-- and the last one behind those of the tenth part
pub printed_more : (page : List ℕ) {page' : List ℕ} (n : ℕ) → 10 ≤ n → page' ≡ page ++ decimal_of (n / 10)
    → page' ++ (48 + n % 10) ∷ [] ≡ page ++ decimal_of n
printed_more page n h p =
    ap (λ (l : List ℕ). l ++ (48 + n % 10) ∷ []) p ∙ append_assoc page (decimal_of (n / 10)) ((48 + n % 10) ∷ [])
    ∙ ap (λ (l : List ℕ). page ++ l) (sym (digits_more n h))

-- two digits, and three, one behind the other
pub printed_two : (page : List ℕ) (n : ℕ) → 10 ≤ n → n < 100
    → (page ++ (48 + n / 10) ∷ []) ++ (48 + n % 10) ∷ [] ≡ page ++ decimal_of n
printed_two page n h k = printed_more page n h (printed_one page (n / 10) (omega arith))

pub printed_three : (page : List ℕ) (n : ℕ) → 100 ≤ n → n < 1000
    → ((page ++ (48 + n / 100) ∷ []) ++ (48 + n / 10 % 10) ∷ []) ++ (48 + n % 10) ∷ [] ≡ page ++ decimal_of n
printed_three page n h k =
    let tens : n / 100 ≡ n / 10 / 10 = omega arith in
    printed_more page n (omega arith)
    (ap (λ (m : ℕ). (page ++ (48 + m) ∷ []) ++ (48 + n / 10 % 10) ∷ []) tens
    ∙ printed_two page (n / 10) (omega arith) (omega arith))

-- how many digits there are
pub two_length : (n : ℕ) → 10 ≤ n → n < 100 → length (decimal_of n) ≡ 2
two_length n h k = omega (arith, digits_short n h, one-length (n / 10) (omega arith))

pub three_length : (n : ℕ) → 100 ≤ n → n < 1000 → length (decimal_of n) ≡ 3
three_length n h k = omega (arith, digits_short n (omega arith), two_length (n / 10) (omega arith) (omega arith))

-- ---- lines are rows

pub answer_parts : (l n : ℕ) → closed l 44 ++ closed n 10 ≡ answer_line l n
unfolding answer_line row
answer_parts l n = refl

pub collected_parts : (l k n : ℕ) → closed l 44 ++ (closed 0 44 ++ (closed k 44 ++ closed n 10)) ≡ collected_line l k n
unfolding collected_line row
collected_parts l k n = refl

pub entry_parts : (k x y m : ℕ) → closed k 44 ++ (closed x 44 ++ (closed y 44 ++ closed m 10)) ≡ entry_line k x y m
unfolding entry_line row
entry_parts k x y m = refl

-- ---- one entry more

pub entries_none : (list : List ℕ) → [] ≡ entry_lines list 0
unfolding entry_lines
entries_none list = refl

pub entries_more : (list : List ℕ) (k : ℕ)
    → entry_lines list k
    ++ entry_line (at list (4 * k)) (at list (4 * k + 1)) (at list (4 * k + 2)) (at list (4 * k + 3))
    ≡ entry_lines list (k + 1)
unfolding entry_lines
entries_more list k = rw (add-one k)
