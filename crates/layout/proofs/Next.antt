-- What `next` gives at a cell between the corners' cells: the least such cell above it, or none where it is the last.
-- By cases on the tests that `next` makes, and arithmetic on columns and rows.
use mathlib.Core.Path.{◌≡◌}
use mathlib.Core.Logic.{◌≢◌}
use Rattle.std.specs.Prelude.{None, Some}
use Prim.Native.Nat.{ℕ, ◌+◌, ◌/◌, ◌%◌, ◌≤◌, ◌<◌}
use native.Mathlib.Omega.{arith}
use borrow.Author.Tests.{eq-eqb, ne_eqb}
use Rattle.base.specs.Outcome.{done, need, pick}
use Rattle.base.proofs.Table.{at_or}
use Rattle.layout.specs.Place.{cell_of}
use Rattle.layout.specs.Question.{last_cell, next, row_below, Proper}
use Rattle.layout.specs.declared.question.Question.{Question}
use Rattle.layout.proofs.Corners.{proper_facts}
use Rattle.layout.proofs.Covers.{Covers, covers_visited}

-- d is the least cell above c of those between the corners' cells
pub record Follows (q : Question) (c d : ℕ) : Type 0 where
  pub covers : Covers q d
  pub above : c < d
  pub least : (e : ℕ) → Covers q e → c < e → d ≤ e

module _ (q : Question) (h : Proper q) where
  -- the upper corner's cell is one of them
  pub last_covers : Covers q (last_cell q)
  unfolding cell_of
  last_covers =
      let f = proper_facts q h in
      omega arith

  -- and the last of them
  pub covers_last : (c : ℕ) → Covers q c → c ≤ last_cell q
  unfolding cell_of
  covers_last c v = omega arith

  module _ (c : ℕ) (v : Covers q c) where
    -- after the last cell there is none
    pub next_end : c ≡ last_cell q → next q c ≡ done None
    unfolding next need pick
    next_end e = rw (covers_visited q c h v, eq-eqb c (last_cell q) e)

    -- after the last cell of a row: the first of the next row
    next_row : c ≢ last_cell q → c % 16 ≡ q.x1 / 1024 → next q c ≡ done (Some (record { cell = row_below q c }))
    unfolding next need pick
    next_row n e = rw (covers_visited q c h v, ne_eqb c (last_cell q) n, eq-eqb (c % 16) (q.x1 / 1024) e)

    -- that cell is the least above
    row_follows : c ≢ last_cell q → c % 16 ≡ q.x1 / 1024 → Follows q c (row_below q c)
    unfolding cell_of
    row_follows n e =
        let f = proper_facts q h in
        record {
          covers = omega arith;
          above = omega arith;
          least = λ d w k. omega arith;
        }

    -- after another cell: the next of its row
    next_column : c ≢ last_cell q → c % 16 ≢ q.x1 / 1024 → next q c ≡ done (Some (record { cell = c + 1 }))
    unfolding next need pick
    next_column n e = rw (covers_visited q c h v, ne_eqb c (last_cell q) n, ne_eqb (c % 16) (q.x1 / 1024) e)

    -- that cell is the least above
    column_follows : c % 16 ≢ q.x1 / 1024 → Follows q c (c + 1)
    column_follows e =
        let f = proper_facts q h in
        record {
          covers = omega arith;
          above = omega arith;
          least = λ d w k. omega arith;
        }

    -- a cell that is not the last is followed by the one that `next` gives
    pub next_follows : c ≢ last_cell q → (d : ℕ) × (next q c ≡ done (Some (record { cell = d }))) × Follows q c d
    next_follows n = at_or (c % 16) (q.x1 / 1024)
        (λ e. (row_below q c, next_row n e, row_follows n e))
        (λ e. (c + 1, next_column n e, column_follows e))
