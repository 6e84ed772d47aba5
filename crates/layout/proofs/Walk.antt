-- The walk of a question whose corners are accepted: it holds each cell that the rectangle touches, once, in ascending order, and no other cell.
-- `visited` tests for its cells, and `next` goes from each of them to the one after it.
-- The argument: a cell stands in the walk just where its column and row lie between those of the corners' cells (Covers).
-- The cells that `next` gives are such cells, and the list ascends (Rows, Order), so the cell after c is the least one above c: that is what `next` gives.
use mathlib.Core.Path.{◌≡◌, refl, ◌∙◌}
use mathlib.Core.Bool.{true, false}
use mathlib.Core.List.Memᴰ
use mathlib.Core.List.{List, [], ◌∷◌, ◌++◌}
use Rattle.std.specs.Prelude.{None, Some}
use Prim.Native.Nat.{ℕ, ◌+◌, ◌-◌, ◌*◌, ◌/◌, ◌%◌, ◌<◌, max}
use native.Mathlib.Omega.{arith}
use lib.ListN.{length}
use lib.Dec.{eqb}
use Rattle.base.specs.Outcome.{done, corrupt, need, pick}
use Rattle.base.proofs.Table.{at_or, by_test, clash}
use Rattle.layout.specs.Place.{on_grid, cell_of}
use Rattle.layout.specs.Question.{inside, columns, rows, walk, cells_touched, first_visit, last_cell, visited, row_below, next, Proper, Touched}
use Rattle.layout.specs.declared.question.Question.{Question}
use Rattle.layout.specs.declared.question.Visit.{Visit}
use Rattle.std.proofs.lemmas.Bool.Decides.{nat_tests}
use Rattle.base.proofs.Outcome.{need_done}
use Rattle.layout.proofs.Places.{on_grid_from}
use Rattle.layout.proofs.Covers.{Covers, covers_below, covers_visited, visited_covers}
use Rattle.layout.proofs.Next.{Follows, covers_last, last_covers, next_end, next_follows}
use Rattle.layout.proofs.Order.{in_middle, last_largest, neighbours, once}
use Rattle.layout.proofs.Rows.{rows_spot, spot_rows, rows_ascending, rows-length, rows_first}
pub use Rattle.layout.proofs.Corners.{proper_facts, facts_proper}
pub use Rattle.layout.proofs.Order.{In, Ascending, ends, climbs, times}

module _ (q : Question) where
  -- ---- the cells of the walk

  -- a cell of the walk has its column and row between those of the corners' cells
  walk_covers : Proper q → (c : ℕ) → In c (walk q) → Covers q c
  unfolding walk columns rows cell_of
  walk_covers h c i =
      let f = proper_facts q h in
      let s = rows_spot (cell_of q.x0 q.y0) (columns q) (rows q) c i in
      omega arith

  -- and each such cell stands in the walk
  covers_walk : Proper q → (c : ℕ) → Covers q c → In c (walk q)
  unfolding walk columns rows cell_of
  covers_walk h c v =
      let f = proper_facts q h in
      spot_rows (cell_of q.x0 q.y0) (columns q) (rows q) (c / 16 - q.y0 / 1024) (c % 16 - q.x0 / 1024) c
      (omega arith) (omega arith) (omega arith)

  -- a point of the rectangle lies on the grid
  pub inside_on_grid : Proper q → (x y : ℕ) → inside q x y ≡ true → on_grid x y ≡ true
  unfolding inside
  inside_on_grid h x y e =
      let f = proper_facts q h in
      on_grid_from x y (grind (arith, nat_tests))

  -- a cell that the rectangle touches stands in the walk
  pub touched_walk : Proper q → (c : ℕ) → Touched q c → In c (walk q)
  unfolding inside cell_of
  touched_walk h c t =
      let f = proper_facts q h in
      let i = t.2 in
      let e = t.3 in
      covers_walk h c (grind (arith, nat_tests))

  -- each cell of the walk is touched: by its own lower corner, or where that is left of the rectangle or below it, by the point at the edge
  pub walk_touched : Proper q → (c : ℕ) → In c (walk q) → Touched q c
  unfolding inside cell_of
  walk_touched h c i =
      let f = proper_facts q h in
      let v = walk_covers h c i in (
        max q.x0 (c % 16 * 1024),
        max q.y0 (c / 16 * 1024),
        grind (arith, nat_tests),
        omega arith,
      )

  -- by row, then by column, is the order of the cell numbers
  pub walk_ascending : Proper q → Ascending (walk q)
  unfolding walk columns
  walk_ascending h =
      let f = proper_facts q h in
      rows_ascending (cell_of q.x0 q.y0) (columns q) (rows q) (omega arith)

  -- the walk is as long as the number of cells touched
  pub walk-length : Proper q → length (walk q) ≡ cells_touched q
  unfolding walk cells_touched
  walk-length h = rows-length (cell_of q.x0 q.y0) (columns q) (rows q)

  -- that number: columns by rows
  pub cells_touched_lem : Proper q → cells_touched q ≡ (q.x1 / 1024 - q.x0 / 1024 + 1) * (q.y1 / 1024 - q.y0 / 1024 + 1)
  unfolding cells_touched columns rows
  cells_touched_lem h = refl

  -- a point inside has its cell in the walk, exactly once
  pub inside_once : Proper q → (x y : ℕ) → inside q x y ≡ true → times (cell_of x y) (walk q) ≡ 1
  inside_once h x y e = once (walk_ascending h) (touched_walk h (cell_of x y) (x, y, e, refl))

  -- ---- the cells visited

  -- a visited cell stands in the walk, and the corners are accepted
  pub visited_walk : (c : ℕ) → visited q c ≡ true → Proper q × In c (walk q)
  visited_walk c e =
      let v = visited_covers q c e in
      (v.0, covers_walk v.0 c v.1)

  -- a cell of the walk is visited
  pub walk_visited : Proper q → (c : ℕ) → In c (walk q) → visited q c ≡ true
  walk_visited h c i = covers_visited q c h (walk_covers h c i)

  -- a cell of the walk is one of the 256
  pub walk_below : Proper q → (c : ℕ) → In c (walk q) → c < 256
  walk_below h c i = covers_below q c h (walk_covers h c i)

  -- the walk starts at the first visit
  pub first_of_walk : Proper q → (rest : List ℕ) × (walk q ≡ (first_visit q).cell ∷ rest)
  unfolding walk columns rows
  first_of_walk h = rows_first (cell_of q.x0 q.y0) (columns q) (rows q) (omega arith) (omega arith)

  -- ---- the next cell

  -- from a cell that is not visited the next is read as broken
  pub next_corrupt : (c : ℕ) → visited q c ≡ false → next q c ≡ corrupt
  unfolding next need
  next_corrupt c e = rw e

  -- from a visited one it is none after the last, else another
  pub next_ends : (c : ℕ) → visited q c ≡ true → eqb c (last_cell q) ≡ true → next q c ≡ done None
  unfolding next need pick
  next_ends c e l = rw (e, l)

  pub next_goes : (c : ℕ) → visited q c ≡ true → eqb c (last_cell q) ≡ false → (v : Visit) × (next q c ≡ done (Some v))
  unfolding next need pick
  next_goes c e l = by_test (eqb (c % 16) (q.x1 / 1024)) (λ r. (record { cell = row_below q c }, rw (e, l, r))) (λ r. (record { cell = c + 1 }, rw (e, l, r)))

  -- a visited cell is one of the 256
  pub visited_below : (c : ℕ) → visited q c ≡ true → c < 256
  visited_below c e = let w = visited_walk c e in walk_below w.0 c w.1

  -- of two cells that stand one after the other in the walk, the second follows the first
  walk_follows : Proper q → (pre : List ℕ) (c d : ℕ) (rest : List ℕ) → walk q ≡ pre ++ c ∷ d ∷ rest → Follows q c d
  walk_follows h pre c d rest e =
      let n = neighbours pre c d rest (rw e at (walk_ascending h)) in
      record {
        covers = walk_covers h d (rw e (Memᴰ.append_right pre (Memᴰ.tail (Memᴰ.head refl))));
        above = n.0;
        least = λ b v k. n.1 b (rw e at (covers_walk h b v)) k;
      }

  -- the cell after c in the walk is the one that `next` gives
  pub next_after : Proper q → (pre : List ℕ) (c d : ℕ) (rest : List ℕ) → walk q ≡ pre ++ c ∷ d ∷ rest → next q c ≡ done (Some (record { cell = d }))
  next_after h pre c d rest e =
      let v = walk_covers h c (rw e (in_middle pre c (d ∷ rest))) in
      let w = walk_follows h pre c d rest e in
      let n = next_follows q h c v (λ l. omega (arith, covers_last q h d w.covers)) in
      let same : n.0 ≡ d = omega (arith, n.2.least d w.covers w.above, w.least n.0 n.2.covers n.2.above) in
      n.1 ∙ rw same

  -- after the last cell of the walk `next` gives none
  pub next_last : Proper q → (pre : List ℕ) (c : ℕ) → walk q ≡ pre ++ c ∷ [] → next q c ≡ done None
  next_last h pre c e =
      let v = walk_covers h c (rw e (in_middle pre c [])) in
      let top = last_largest pre c (rw e at (walk_ascending h)) (last_cell q) (rw e at (covers_walk h (last_cell q) (last_covers q h))) in
      next_end q h c v (omega (arith, covers_last q h c v))

  -- the next cell is visited
  pub next_visited : (c : ℕ) (v : Visit) → next q c ≡ done (Some v) → visited q v.cell ≡ true
  unfolding next
  next_visited c v e =
      let w = visited_covers q c (need_done _ _ e).0 in
      at_or c (last_cell q)
      (λ l. clash (cc (next_end q w.0 c w.1 l)))
      (λ l.
      let n = next_follows q w.0 c w.1 l in
      let same : v ≡ record { cell = n.0 } = cc in
      rw same (covers_visited q n.0 w.0 n.2.covers))
