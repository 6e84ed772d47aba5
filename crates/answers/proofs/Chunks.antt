-- The entries of a list, four numbers to each, printed one behind the other.
use Rattle.std.proofs.Common.{◌≡◌, ℕ, zero, suc, ◌+◌, ◌*◌, ◌/◌, ◌<◌, ◌≤◌, List, [], ◌++◌, length, get_or, take, drop, ap, sym, ◌∙◌, add-one, arith, append-nil, length-append}
use Rattle.std.specs.Simd.{first_chunks}
use Rattle.std.proofs.lemmas.List.{get_or-take, get_or-drop, drop-drop, length-take-le}
use Rattle.base.specs.Table.{at}
use Rattle.answers.specs.Answer.{entry_line, entry_lines}
use Rattle.answers.proofs.Printing.{appended_both, entry_short}

chunk_at : (n k : ℕ) (xs : List ℕ) (i : ℕ) → i < k → get_or (first_chunks n k xs) i [] ≡ take n (drop (n * i) xs)
chunk_at n zero xs i h = absurd (omega arith)
chunk_at n (suc k) xs zero h = let z : n * 0 ≡ 0 = omega arith in rw z
chunk_at n (suc k) xs (suc i) h =
    let z : n + n * i ≡ n * suc i = omega arith in
    chunk_at n k (drop n xs) i (omega arith) ∙ ap (take n) (drop-drop (n * i) n xs ∙ ap (λ (m : ℕ). drop m xs) z)

-- no entry yet
pub no_entry : (list page : List ℕ) → page ≡ page ++ entry_lines list 0
unfolding entry_lines
no_entry list page = sym (append-nil page)

module _ (list : List ℕ) (entries k : ℕ) (chunks : List (List ℕ))
    (e : chunks ≡ first_chunks 4 (length (take (4 * entries) list) / 4) (take (4 * entries) list))
    (n : length chunks ≡ length (take (4 * entries) list) / 4) (room : 4 * entries ≤ length list) (h : k < length chunks) where
  abbrev number : ℕ → ℕ
  number j = get_or (get_or chunks k []) j 0

  abbrev line : List ℕ
  line = entry_line (number 0) (number 1) (number 2) (number 3)

  number_at : (j : ℕ) → j < 4 → number j ≡ at list (4 * k + j)
  number_at j i =
      let long : length (take (4 * entries) list) ≡ 4 * entries = length-take-le (4 * entries) list room in
      let inside : 4 * k + j < 4 * entries = omega arith in
      ap (λ (cs : List (List ℕ)). get_or (get_or cs k []) j 0) e
      ∙ ap (λ (l : List ℕ). get_or l j 0) (chunk_at 4 _ (take (4 * entries) list) k (omega arith))
      ∙ get_or-take 4 (drop (4 * k) (take (4 * entries) list)) j 0 i
      ∙ get_or-drop (4 * k) (take (4 * entries) list) j 0
      ∙ get_or-take (4 * entries) list (4 * k + j) 0 inside

  -- an entry more
  entry_more : entry_lines list k ++ line ≡ entry_lines list (k + 1)
  unfolding entry_lines
  entry_more =
      let z : 4 * k + 0 ≡ 4 * k = omega arith in
      rw (number_at 0 (omega arith), number_at 1 (omega arith), number_at 2 (omega arith), number_at 3 (omega arith), z, add-one k)

  line_short : ((x : ℕ) → at list x < 4294967296) → length line ≤ 44
  line_short small =
      entry_short (number 0) (number 1) (number 2) (number 3)
      (rw (number_at 0 (omega arith)) (small _)) (rw (number_at 1 (omega arith)) (small _))
      (rw (number_at 2 (omega arith)) (small _)) (rw (number_at 3 (omega arith)) (small _))

  pub entry_printed : (page : List ℕ) {page' page'' : List ℕ} → page'' ≡ page' ++ line → page' ≡ page ++ entry_lines list k
      → page'' ≡ page ++ entry_lines list (k + 1)
  entry_printed page q p = appended_both page (entry_lines list k) line p q ∙ ap (λ (l : List ℕ). page ++ l) entry_more

  pub entry_room : (page' : List ℕ) {page'' : List ℕ} → page'' ≡ page' ++ line → ((x : ℕ) → at list x < 4294967296)
      → length page'' ≤ length page' + 44
  entry_room page' q small = omega (arith, ap length q, length-append page' line, line_short small)
