-- Reading a line byte by byte: one law for each step. What is kept, with what the rest of the block adds, stays the same
-- up to its 61st byte.
use mathlib.Core.Path.{◌≡◌, refl, sym, ap, ◌∙◌}
use mathlib.Core.Logic.{◌≢◌}
use Rattle.std.specs.Prelude.{None, Some}
use mathlib.Core.List.{List, [], ◌∷◌, ◌++◌, append_assoc, append-nil}
use Prim.Native.Nat.{ℕ, ◌+◌, ◌<◌, ◌≤◌}
use native.Mathlib.Omega.{arith}
use native.Mathlib.Numerals.{add-one}
use lib.ListN.{length, take, drop, set, length-take, length-append, drop_of_length-le}
use lib.Seq.{drop-cons, take-suc-set, append_snoc, take_all, take_at, length-take-le}
use borrow.Author.Tests.{eq-eqb, ne_eqb}
use Rattle.base.specs.Outcome.{pick}
use Rattle.base.specs.Table.{at}
use Rattle.script.specs.Split.{before, behind, spent, Kept}

module _ (block : List ℕ) (i : ℕ) where
  -- the block ends
  pub before_past : length block ≤ i → before (drop i block) ≡ []
  unfolding before
  before_past h = rw (drop_of_length-le block h)

  pub behind_past : length block ≤ i → behind (drop i block) ≡ None
  unfolding behind
  behind_past h = rw (drop_of_length-le block h)

  pub spent_past : length block ≤ i → spent (drop i block) ≡ 0
  unfolding spent
  spent_past h = rw (drop_of_length-le block h)

  module _ (h : i < length block) where
    here : drop i block ≡ at block i ∷ drop (i + 1) block
    here = rw (add-one i) (drop-cons block i 0 h)

    -- a line feed
    pub before_feed : at block i ≡ 10 → before (drop i block) ≡ []
    unfolding before pick
    before_feed e = rw (here, eq-eqb (at block i) 10 e)

    pub behind_feed : at block i ≡ 10 → behind (drop i block) ≡ Some (drop (i + 1) block)
    unfolding behind pick
    behind_feed e = rw (here, eq-eqb (at block i) 10 e)

    pub spent_feed : at block i ≡ 10 → spent (drop i block) ≡ 1
    unfolding spent pick
    spent_feed e = rw (here, eq-eqb (at block i) 10 e)

    -- another byte
    pub before_byte : at block i ≢ 10 → before (drop i block) ≡ at block i ∷ before (drop (i + 1) block)
    unfolding before pick
    before_byte e = rw (here, ne_eqb (at block i) 10 e)

    pub behind_byte : at block i ≢ 10 → behind (drop i block) ≡ behind (drop (i + 1) block)
    unfolding behind pick
    behind_byte e = rw (here, ne_eqb (at block i) 10 e)

    pub spent_byte : at block i ≢ 10 → spent (drop i block) ≡ 1 + spent (drop (i + 1) block)
    unfolding spent pick
    spent_byte e = rw (here, ne_eqb (at block i) 10 e) (omega arith)

module _ (line : List ℕ) (k : ℕ) where
  -- nothing is added
  pub kept_end : k ≤ 61 → take 61 (take k line ++ []) ≡ take k line
  kept_end h = rw (append-nil (take k line)) (take_all 61 (take k line) (omega (arith, length-take k line)))

  -- a byte is kept
  pub kept_more : (b : ℕ) (rest : List ℕ) → k < length line
      → take k line ++ b ∷ rest ≡ take (k + 1) (set line k b) ++ rest
  kept_more b rest h = sym (rw (add-one k, take-suc-set line k b h) (append_snoc (take k line) b rest))

  -- enough bytes are kept
  pub kept_full : (r s : List ℕ) → 61 ≤ k → k ≤ 61 → length line ≡ 61
      → take 61 (take k line ++ r) ≡ take 61 (take k line ++ s)
  kept_full r s a b e =
      let n : length (take k line) ≡ 61 = length-take-le k line (omega arith) ∙ omega arith in
      take_at (take k line) r 61 n ∙ sym (take_at (take k line) s 61 n)

-- what stays the same while a line is read byte by byte: what is kept, with what the rest of the block adds, up to its
-- 61st byte
pub record Reading (block had line : List ℕ) (from i : ℕ) : Type 0 where
  pub few : length line ≤ 61
  pub same : take 61 (line ++ before (drop i block)) ≡ take 61 (had ++ before (drop from block))
  pub place : i + spent (drop i block) ≡ from + spent (drop from block)
  pub rest : behind (drop i block) ≡ behind (drop from block)

pub reading_start : (block line : List ℕ) (from : ℕ) → length line ≤ 61 → Reading block line line from from
reading_start block line from h = record { few = h; same = refl; place = refl; rest = refl }

module _ {block had line : List ℕ} {from i : ℕ} (r : Reading block had line from i) where
  module _ (h : i < length block) (n : at block i ≢ 10) where
    -- a byte is kept
    pub reading_byte : length line < 61 → Reading block had (line ++ at block i ∷ []) from (i + 1)
    reading_byte m =
        record {
          few = omega (arith, length-append line (at block i ∷ []));
          same =
              ap (take 61) (append_assoc line (at block i ∷ []) (before (drop (i + 1) block))
              ∙ ap (λ (l : List ℕ). line ++ l) (sym (before_byte block i h n)))
              ∙ r.same;
          place = omega (arith, r.place, spent_byte block i h n);
          rest = sym (behind_byte block i h n) ∙ r.rest;
        }

    -- enough are kept
    pub reading_skip : 61 ≤ length line → Reading block had line from (i + 1)
    reading_skip m =
        let full : length line ≡ 61 = omega (arith, r.few) in
        record {
          few = r.few;
          same = take_at line (before (drop (i + 1) block)) 61 full ∙ sym (take_at line (before (drop i block)) 61 full) ∙ r.same;
          place = omega (arith, r.place, spent_byte block i h n);
          rest = sym (behind_byte block i h n) ∙ r.rest;
        }

  -- nothing more belongs to the line
  last : before (drop i block) ≡ [] → line ≡ take 61 (had ++ before (drop from block))
  last e =
      sym (ap (take 61) (append-nil line) ∙ take_all 61 line r.few)
      ∙ ap (λ (l : List ℕ). take 61 (line ++ l)) (sym e) ∙ r.same

  -- the line feed
  pub reading_feed : i < length block → at block i ≡ 10 → Kept block from had line (Some (i + 1))
  reading_feed h e =
      record {
        bytes = last (before_feed block i h e);
        place = omega (arith, r.place, spent_feed block i h e);
        rest = sym (behind_feed block i h e) ∙ r.rest;
      }

  -- the block's end
  pub reading_end : length block ≤ i → Kept block from had line None
  reading_end h =
      record {
        bytes = last (before_past block i h);
        place = tt;
        rest = sym (behind_past block i h) ∙ r.rest;
      }
