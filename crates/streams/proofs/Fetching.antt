-- READING LINE BY LINE: one law for each turn of fetch_line. What was kept and what is unread, with the blocks read
-- since, make the same lines, whatever comes later: a turn that reads another block puts it behind the unread bytes, of
-- which there were none; a turn in a block is a cut (Cutting.antt).
use mathlib.Core.Path.{◌≡◌, refl, sym, ap, ◌∙◌}
use mathlib.Core.Bool.{true, false}
use Rattle.std.specs.Prelude.{Option, None, Some, Result, Ok, Err}
use mathlib.Core.List.{List, [], ◌∷◌, ◌++◌, append_assoc}
use Prim.Native.Nat.{ℕ, ◌≤◌}
use native.Mathlib.Omega.{arith}
use lib.ListN.{length, take, drop, length-take, drop_of_length-le}
use Rattle.script.specs.Split.{before, Kept}
use Rattle.streams.specs.Lines.{joined, kept_lines}
use Rattle.streams.specs.Reading.{coming, Gives, has_ended, unread, Within}
use Rattle.streams.specs.Reading.{Turned, another, met, onward, Fetches}
use Rattle.streams.specs.declared.input.Fetched.{Fetched}
use Rattle.streams.specs.declared.input.Fetched.TheVariants.{Line, End}
use Rattle.streams.specs.declared.input.Input.{Input}
use Rattle.streams.proofs.Cutting.{joined_more, kept_short, lines_on, lines_cut}

-- ---- a place behind the bytes that a block has

pub unread_none : (block : List ℕ) (next filled : ℕ) → filled ≤ next → unread block next filled ≡ []
unread_none block next filled h =
    let past : length (take filled block) ≤ next = omega (arith, length-take filled block) in
    drop_of_length-le (take filled block) past

-- ---- a cut in a block

module _ (block had line later : List ℕ) (from : ℕ) (short : length had ≤ 61) where
  -- its line is there
  pub cut_met : (next : ℕ) → Kept block from had line (Some next)
      → kept_lines had (drop from block ++ later) ≡ line ∷ kept_lines [] (drop next block ++ later)
  cut_met next k =
      lines_cut (drop from block) later had (drop next block) short (sym k.rest)
      ∙ ap (λ (l : List ℕ). l ∷ kept_lines [] (drop next block ++ later)) (sym k.bytes)

  -- or goes on behind the block
  pub cut_on : Kept block from had line None → kept_lines had (drop from block ++ later) ≡ kept_lines line later
  cut_on k =
      lines_on (drop from block) later had short (sym k.rest)
      ∙ ap (λ (l : List ℕ). kept_lines l later) (sym k.bytes)

-- what is kept of a line stays short
pub kept_few : {block had line : List ℕ} {from : ℕ} {r : Option ℕ} → Kept block from had line r → length line ≤ 61
kept_few {block} {had} {from = from} k = omega (arith, ap length k.bytes, kept_short (had ++ before (drop from block)))

-- ---- the three ways of a turn

module _ {E : Type 0} where
  -- a block was read: the lines to come are those of it
  pub coming_block : (r : Result (Option Fetched) E) (kept bytes : List ℕ) (n : ℕ) → Gives r n
      → coming r kept bytes ≡ kept_lines kept bytes
  coming_block (Ok None) kept bytes n g = refl
  coming_block (Ok (Some Line)) kept bytes n g = absurd g
  coming_block (Ok (Some End)) kept bytes n g = refl
  coming_block (Err e) kept bytes n g = refl

  pub ended_block : (r : Result (Option Fetched) E) (n : ℕ) → Gives r n → has_ended r ≡ true → n ≡ 0
  ended_block (Ok None) n g e = let z : ◌≡◌ {A = ℕ} 0 1 = cc in omega arith
  ended_block (Ok (Some Line)) n g e = absurd g
  ended_block (Ok (Some End)) n g e = g
  ended_block (Err e) n g q = g

never_ended : {n : ℕ} → false ≡ true → n ≡ 0
never_ended e = let z : ◌≡◌ {A = ℕ} 0 1 = cc in omega arith

-- ---- the loop

-- before the first turn
pub fetch_start : {E : Type 0} (block line : List ℕ) (p : Input) → Within block line p
    → Fetches {E = E} block line p block line p (Ok None)
unfolding joined
fetch_start block line p w = record { within = w; ended = λ t. never_ended t; blocks = []; lines = λ later. refl }

-- another turn
pub fetch_turn : {D E : Type 0} {block line block₁ line₁ block₂ line₂ : List ℕ} {p p₁ p₂ : Input} {r : Result (Option Fetched) E}
    → Fetches {E = D} block line p block₁ line₁ p₁ (Ok None) → length block₂ ≡ length block₁ → Turned block₁ line₁ p₁ block₂ line₂ p₂ r
    → Fetches block line p block₂ line₂ p₂ r
fetch_turn {block = block} {line = line} {block₁ = block₁} {line₁ = line₁} {block₂ = block₂} {line₂ = line₂} {p = p} {p₁ = p₁} {p₂ = p₂} {r = r}
    f same (another past held b) =
    let new = take p₂.filled block₂ in
    let first = unread block p.next p.filled in
    record {
      within = record { filled = b.within; few = rw held f.within.few };
      ended = ended_block r p₂.filled b.gives;
      blocks = f.blocks ++ new ∷ [];
      lines =
          λ later.
          ap (λ (l : List ℕ). kept_lines line (first ++ l))
          (ap (λ (l : List ℕ). l ++ later) (joined_more f.blocks new) ∙ append_assoc (joined f.blocks) new later)
          ∙ f.lines (new ++ later)
          ∙ ap (λ (l : List ℕ). kept_lines line₁ (l ++ (new ++ later))) (unread_none block₁ p₁.next p₁.filled past)
          ∙ ap (λ (l : List ℕ). kept_lines l (new ++ later)) (sym held)
          ∙ ap (λ (n : ℕ). kept_lines line₂ (drop n new ++ later)) (sym b.start)
          ∙ sym (coming_block r line₂ (unread block₂ p₂.next p₂.filled ++ later) p₂.filled b.gives);
    }
fetch_turn {block₁ = block₁} {line₁ = line₁} {block₂ = block₂} {line₂ = line₂} {p₁ = p₁} {p₂ = p₂} {r = r}
    f same (met inside held filled how k) =
    record {
      within = record { filled = omega (arith, f.within.filled); few = kept_few k };
      ended = λ t. never_ended (sym (ap has_ended how) ∙ t);
      blocks = f.blocks;
      lines =
          λ later.
          f.lines later
          ∙ cut_met (take p₁.filled block₁) line₁ line₂ later p₁.next f.within.few p₂.next k
          ∙ ap (λ (l : List ℕ). line₂ ∷ kept_lines [] (drop p₂.next l ++ later))
          (ap (λ (n : ℕ). take n block₁) (sym filled) ∙ ap (take p₂.filled) (sym held))
          ∙ ap (λ (s : Result (Option Fetched) _). coming s line₂ (unread block₂ p₂.next p₂.filled ++ later)) (sym how);
    }
fetch_turn {block₁ = block₁} {line₁ = line₁} {block₂ = block₂} {line₂ = line₂} {p₁ = p₁} {p₂ = p₂} {r = r}
    f same (onward inside held filled next how k) =
    record {
      within = record { filled = omega (arith, f.within.filled); few = kept_few k };
      ended = λ t. never_ended (sym (ap has_ended how) ∙ t);
      blocks = f.blocks;
      lines =
          λ later.
          f.lines later
          ∙ cut_on (take p₁.filled block₁) line₁ line₂ later p₁.next f.within.few k
          ∙ ap (λ (l : List ℕ). kept_lines line₂ (l ++ later)) (sym (unread_none block₂ p₂.next p₂.filled (omega (arith, next, filled))))
          ∙ ap (λ (s : Result (Option Fetched) _). coming s line₂ (unread block₂ p₂.next p₂.filled ++ later)) (sym how);
    }
