-- The digits of a number; how long each text can be; a row, number by number.
use mathlib.Core.Path.{◌≡◌, refl, sym, ap, ◌∙◌}
use mathlib.Core.List.{List, [], ◌∷◌, ◌++◌, append_assoc, append-nil}
use Prim.Native.Nat.{ℕ, ◌+◌, ◌%◌, ◌^◌, ◌<◌, ◌≤◌}
use native.Mathlib.Omega.{arith}
use lib.ListN.{length, take, length-append}
use Rattle.std.specs.List.{flat_map}
use Rattle.std.proofs.lemmas.List.Concat.{flat_map-cons}
use Rattle.std.proofs.lemmas.List.Folds.{length-flat_map-take}
use Rattle.std.specs.Fmt.{decimal}
use Rattle.std.proofs.lemmas.Fmt.{decimal_by_steps}
use Rattle.std.proofs.lemmas.List.{take_all, take_more, flat_map_more}
use Rattle.base.specs.Table.{at}
use Rattle.script.specs.Digits.{decimal_of}
use Rattle.script.proofs.Printed.{digits_one, digits_more, digits_few_32, digits_few_64}
use Rattle.answers.specs.Answer.{closed, row, answer_line, collected_line, entry_line}

-- the digits of a number are the library's
pub decimal_is : (n : ℕ) → n < 2 ^ 64 → decimal_of n ≡ decimal n
decimal_is n h = decimal_by_steps (λ m ds. decimal_of m ≡ ds) (λ m k. digits_one m k) (λ m ds k e. digits_more m k ∙ ap (λ (l : List ℕ). l ++ (48 + m % 10) ∷ []) e) n h

-- ---- one text behind another

-- two texts, each behind what stood before it
pub appended_both : (a s t : List ℕ) {b c : List ℕ} → b ≡ a ++ s → c ≡ b ++ t → c ≡ a ++ (s ++ t)
appended_both a s t p q = q ∙ ap (λ (l : List ℕ). l ++ t) p ∙ append_assoc a s t

-- ---- how long

pub closed_length : (n b : ℕ) → length (closed n b) ≡ length (decimal_of n) + 1
unfolding closed
closed_length n b = rw (length-append (decimal_of n) (b ∷ [])) (omega arith)

pub closed_32 : (n b : ℕ) → n < 4294967296 → length (closed n b) ≤ 11
closed_32 n b h = omega (arith, closed_length n b, digits_few_32 n h)

pub closed_64 : (n b : ℕ) → n < 18446744073709551616 → length (closed n b) ≤ 21
closed_64 n b h = omega (arith, closed_length n b, digits_few_64 n h)

-- ---- rows

-- numbers with a comma behind each
abbrev pub commas : List ℕ → List ℕ
commas ns = flat_map (λ n. closed n 44) ns

row_more : (m n : ℕ) (ns : List ℕ) → closed m 44 ++ row (ns ++ n ∷ []) ≡ row (m ∷ (ns ++ n ∷ []))
unfolding row
row_more m n [] = refl
row_more m n (k ∷ ns) = refl

-- a row is all but its last number with a comma behind each, and the last with a line feed
pub row_end : (ns : List ℕ) (n : ℕ) → commas ns ++ closed n 10 ≡ row (ns ++ n ∷ [])
unfolding row
row_end [] n = refl
row_end (m ∷ ns) n = rw flat_map-cons (append_assoc (closed m 44) (commas ns) (closed n 10) ∙ ap (λ (l : List ℕ). closed m 44 ++ l) (row_end ns n) ∙ row_more m n ns)

-- ---- a row on a page, number by number

-- no number
pub row_empty : (page ns : List ℕ) → length ns ≡ 0 → page ≡ page ++ row ns
unfolding row
row_empty page [] h = sym (append-nil page)
row_empty page (n ∷ ns) h = absurd (omega arith)

module _ (page : List ℕ) {page' numbers : List ℕ} (front : List ℕ) (k last : ℕ) (p : page' ≡ page ++ commas (take k front)) (e : numbers ≡ front ++ last ∷ []) where
  row_length : length (commas front) + length (closed last 10) ≡ length (row numbers)
  row_length = sym (length-append (commas front) (closed last 10)) ∙ ap length (row_end front last) ∙ ap (λ (l : List ℕ). length (row l)) (sym e)

  page_length : length page' ≡ length page + length (commas (take k front))
  page_length = ap length p ∙ length-append page (commas (take k front))

  -- room for the next number, and for the last
  pub row_room : {m : ℕ} → length page + length (row numbers) ≤ m → k < length front → length page' + length (closed (at front k) 44) ≤ m
  row_room r h = omega (arith, r, page_length, row_length, length-flat_map-take (λ n. closed n 44) front k 0 h)

  pub row_room_last : {m : ℕ} → length page + length (row numbers) ≤ m → length front ≤ k → length page' + length (closed last 10) ≤ m
  row_room_last r h = let all = ap (λ (l : List ℕ). length (commas l)) (take_all k front h) in omega (arith, r, page_length, row_length)

  -- the last number
  pub row_last : {page'' : List ℕ} → length front ≤ k → page'' ≡ page' ++ closed last 10 → page'' ≡ page ++ row numbers
  row_last h q =
      appended_both page (commas (take k front)) (closed last 10) p q
      ∙ ap (λ (l : List ℕ). page ++ l) (ap (λ (l : List ℕ). commas l ++ closed last 10) (take_all k front h) ∙ row_end front last ∙ ap row (sym e))

-- a number more
pub row_comma : (page : List ℕ) {page' page'' : List ℕ} (front : List ℕ) (k : ℕ) → page' ≡ page ++ commas (take k front) → k < length front
    → page'' ≡ page' ++ closed (at front k) 44 → page'' ≡ page ++ commas (take (k + 1) front)
row_comma page front k p h q =
    appended_both page (commas (take k front)) (closed (at front k) 44) p q
    ∙ ap (λ (l : List ℕ). page ++ l) (flat_map_more (λ n. closed n 44) [] (take k front) (at front k) ∙ ap commas (sym (take_more front k 0 h)))

-- an answer's line has at most 32 bytes, an entry's 44, the first line of a collection 64
pub answer_short : (l n : ℕ) → l < 18446744073709551616 → n < 4294967296 → length (answer_line l n) ≤ 32
unfolding answer_line row
answer_short l n a b = omega (arith, length-append (closed l 44) (closed n 10), closed_64 l 44 a, closed_32 n 10 b)

pub entry_short : (k x y m : ℕ) → k < 4294967296 → x < 4294967296 → y < 4294967296 → m < 4294967296
    → length (entry_line k x y m) ≤ 44
unfolding entry_line row
entry_short k x y m a b c d =
    omega (
      arith,
      length-append (closed k 44) (closed x 44 ++ (closed y 44 ++ closed m 10)),
      length-append (closed x 44) (closed y 44 ++ closed m 10),
      length-append (closed y 44) (closed m 10),
      closed_32 k 44 a,
      closed_32 x 44 b,
      closed_32 y 44 c,
      closed_32 m 10 d,
    )

pub collected_short : (l k n : ℕ) → l < 18446744073709551616 → k < 4294967296 → n < 4294967296 → length (collected_line l k n) ≤ 64
unfolding collected_line row
collected_short l k n a b c =
    omega (arith, length-append (closed l 44) (closed 0 44 ++ (closed k 44 ++ closed n 10)), length-append (closed 0 44) (closed k 44 ++ closed n 10), length-append (closed k 44) (closed n 10), closed_64 l 44 a, closed_32 0 44 (omega arith), closed_32 k 44 b, closed_32 n 10 c)
