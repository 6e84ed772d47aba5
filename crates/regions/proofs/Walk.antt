-- The walk of a question that is in range: a place inside has its cell in it exactly once,
-- and the laws of the walk of a rectangle hold of it.
-- The argument: what satisfies the question lies in the rectangle that is walked, whose corners are accepted.
use mathlib.Core.Path.{◌≡◌, refl, sym, ◌∙◌}
use mathlib.Core.Bool.{true, false, and-eq-true_iff}
use mathlib.Core.List.{List, [], ◌∷◌, ◌++◌}
use Rattle.std.specs.Prelude.{None, Some}
use Prim.Native.Nat.{ℕ, ◌+◌, ◌-◌, ◌*◌, ◌/◌, ◌≤◌, ◌<◌, min}
use native.Mathlib.Omega.{arith}
use lib.Dec.{eqb}
use lib.ListN.{length}
use borrow.Author.Tests.{leb-true}
use Rattle.base.specs.Outcome.{corrupt, done, need}
use Rattle.base.proofs.Table.{by_test}
use Rattle.layout.specs.Place.{on_grid, cell_of}
use Rattle.layout.specs.Question as area
use Rattle.layout.specs.declared.question.Question.{Question as Rectangle}
use Rattle.layout.specs.declared.question.Visit.{Visit}
use Rattle.std.proofs.lemmas.Bool.Decides.{nat_tests}
use Rattle.base.proofs.Outcome.{need_done}
use Rattle.layout.specs.Question.{Proper}
use Rattle.layout.proofs.Corners.{proper_facts, facts_proper}
use Rattle.layout.proofs.Order.{In, Ascending, times}
use Rattle.layout.proofs.Places.{on_grid_to}
use Rattle.layout.proofs.Walk as of
use Rattle.regions.specs.Region.{proper, square, apart, nearest, touching, within, satisfies, inside, grown, walked_by_kind, walked, walk, cells_touched, first_visit, last_cell, visited, next}
use Rattle.regions.specs.declared.region.Kind.{Kind}
use Rattle.regions.specs.declared.region.Kind.TheVariants.{Touching, Within, Centre}
use Rattle.regions.specs.declared.region.Region.{Region}
use Rattle.regions.proofs.Checks.{proper_parts}
use Rattle.regions.proofs.Points.{outside_most}
use Rattle.regions.proofs.Squares.{both_less}

-- ---- the rectangle that is walked

grown_proper : (a : Rectangle) (r : ℕ) → Proper a → Proper (grown a r)
grown_proper a r h =
    let f = proper_facts a h in
    facts_proper (grown a r) (omega arith, omega arith, omega arith, omega arith, omega arith, omega arith)

walked_by : (k : Kind) (a : Rectangle) (r : ℕ) → Proper a → Proper (walked_by_kind k a r)
unfolding walked_by_kind
walked_by Touching a r h = grown_proper a r h
walked_by Within a r h = h
walked_by Centre a r h = h

-- its corners are accepted
pub proper_walked : (g : Region) → proper g ≡ true → Proper (walked g)
proper_walked g h = walked_by g.kind g.area g.radius (proper_parts g h).0

-- a coordinate at most r outside an interval lies in the grown one
in_grown : (a b r n : ℕ) → n ≤ 16383 → (a - n) + (n - b) ≤ r → (a - r ≤ n) × (n ≤ min (b + r) 16383)
in_grown a b r n k e = (omega arith, omega arith)

-- ---- what satisfies the question lies in it

module _ (a : Rectangle) (r x y : ℕ) (h : Proper a) (on : on_grid x y ≡ true) where
  touching_walked : touching a r x y ≡ true → area.inside (grown a r) x y ≡ true
  unfolding touching area.inside
  touching_walked e =
      let f = proper_facts a h in
      let g = on_grid_to x y on in
      let dx = apart x (nearest a.x0 a.x1 x) in
      let dy = apart y (nearest a.y0 a.y1 y) in
      let b = both_less dx dy r (leb-true (square dx + square dy) (square r) e) in
      let u = in_grown a.x0 a.x1 r x g.0 (outside_most a.x0 a.x1 r x f.0 b.0) in
      let v = in_grown a.y0 a.y1 r y g.1 (outside_most a.y0 a.y1 r y f.1 b.1) in
      grind (arith, nat_tests)

  within_walked : within a r x y ≡ true → area.inside a x y ≡ true
  unfolding within area.inside
  within_walked e = grind (arith, nat_tests)

by_kind : (k : Kind) (a : Rectangle) (r x y : ℕ) → Proper a → on_grid x y ≡ true → satisfies k a r x y ≡ true
    → area.inside (walked_by_kind k a r) x y ≡ true
unfolding walked_by_kind satisfies
by_kind Touching a r x y h on e = touching_walked a r x y h on e
by_kind Within a r x y h on e = within_walked a r x y h on e
by_kind Centre a r x y h on e = e

module _ (g : Region) (h : proper g ≡ true) (x y : ℕ) (on : on_grid x y ≡ true) (e : inside g x y ≡ true) where
  pub inside_walked : area.inside (walked g) x y ≡ true
  unfolding inside
  inside_walked = by_kind g.kind g.area g.radius x y (proper_parts g h).0 on e

  -- THE LAW: a place on the grid that is inside has its cell in the walk,
  pub inside_walk : In (cell_of x y) (walk g)
  unfolding walk
  inside_walk = of.touched_walk (walked g) (proper_walked g h) (cell_of x y) (x, y, inside_walked, refl)

  -- exactly once,
  pub inside_once : times (cell_of x y) (walk g) ≡ 1
  unfolding walk
  inside_once = of.inside_once (walked g) (proper_walked g h) x y inside_walked

  -- and the cell is one that is visited
  pub inside_visited : visited g (cell_of x y) ≡ true
  unfolding visited walk
  inside_visited =
      (and-eq-true_iff (proper g) (area.visited (walked g) (cell_of x y))).1
      (h, of.walk_visited (walked g) (proper_walked g h) (cell_of x y) inside_walk)

-- ---- the walk, by its cells

module _ (g : Region) (h : proper g ≡ true) where
  pub walk_ascending : Ascending (walk g)
  unfolding walk
  walk_ascending = of.walk_ascending (walked g) (proper_walked g h)

  -- K is the length of the walk
  pub walk-length : length (walk g) ≡ cells_touched g
  unfolding walk cells_touched
  walk-length = of.walk-length (walked g) (proper_walked g h)

  -- which is columns by rows of the rectangle that is walked
  pub cells_touched_lem : cells_touched g
      ≡ ((walked g).x1 / 1024 - (walked g).x0 / 1024 + 1) * ((walked g).y1 / 1024 - (walked g).y0 / 1024 + 1)
  unfolding cells_touched
  cells_touched_lem = of.cells_touched_lem (walked g) (proper_walked g h)

  pub walk_below : (c : ℕ) → In c (walk g) → c < 256
  unfolding walk
  walk_below c i = of.walk_below (walked g) (proper_walked g h) c i

  pub walk_visited : (c : ℕ) → In c (walk g) → visited g c ≡ true
  unfolding walk visited
  walk_visited c i =
      (and-eq-true_iff (proper g) (area.visited (walked g) c)).1
      (h, of.walk_visited (walked g) (proper_walked g h) c i)

  pub first_of_walk : (rest : List ℕ) × (walk g ≡ (first_visit g).cell ∷ rest)
  unfolding walk
  first_of_walk = of.first_of_walk (walked g) (proper_walked g h)

  -- the cell after c in the walk is the one that `next` gives; after the last it gives none
  pub next_after : (pre : List ℕ) (c d : ℕ) (rest : List ℕ) → walk g ≡ pre ++ c ∷ d ∷ rest
      → next g c ≡ done (Some (record { cell = d }))
  unfolding walk next need
  next_after pre c d rest e = rw h (of.next_after (walked g) (proper_walked g h) pre c d rest e)

  pub next_last : (pre : List ℕ) (c : ℕ) → walk g ≡ pre ++ c ∷ [] → next g c ≡ done None
  unfolding walk next need
  next_last pre c e = rw h (of.next_last (walked g) (proper_walked g h) pre c e)

-- ---- the cells visited, and the next one from such a cell

module _ (g : Region) (c : ℕ) where
  -- a question in range has the cells of the rectangle that is walked; one out of range has none, and is broken
  pub visited_in : proper g ≡ true → visited g c ≡ area.visited (walked g) c
  unfolding visited
  visited_in h = rw h

  pub visited_out : proper g ≡ false → visited g c ≡ false
  unfolding visited
  visited_out h = rw h

  pub next_in_lem : proper g ≡ true → next g c ≡ area.next (walked g) c
  unfolding next need
  next_in_lem h = rw h

  pub next_out : proper g ≡ false → next g c ≡ corrupt
  unfolding next need
  next_out h = rw h

  -- from a cell that is not visited the next is read as broken
  pub next_corrupt : visited g c ≡ false → next g c ≡ corrupt
  next_corrupt e = by_test (proper g)
      (λ h. next_in_lem h ∙ of.next_corrupt (walked g) c (sym (visited_in h) ∙ e))
      (λ h. next_out h)

  pub visited_parts : visited g c ≡ true → (proper g ≡ true) × (area.visited (walked g) c ≡ true)
  unfolding visited
  visited_parts e = (and-eq-true_iff (proper g) (area.visited (walked g) c)).0 e

  -- a visited cell stands in the walk, and the question is in range
  pub visited_walk : visited g c ≡ true → (proper g ≡ true) × In c (walk g)
  unfolding walk
  visited_walk e = let v = visited_parts e in (v.0, (of.visited_walk (walked g) c v.1).1)

  pub visited_below : visited g c ≡ true → c < 256
  visited_below e = of.visited_below (walked g) c (visited_parts e).1

  pub next_ends : visited g c ≡ true → eqb c (last_cell g) ≡ true → next g c ≡ done None
  unfolding next need
  next_ends e l = let v = visited_parts e in rw v.0 (of.next_ends (walked g) c v.1 l)

  pub next_goes : visited g c ≡ true → eqb c (last_cell g) ≡ false → (v : Visit) × (next g c ≡ done (Some v))
  unfolding next need
  next_goes e l = let v = visited_parts e in rw v.0 (of.next_goes (walked g) c v.1 l)

  -- the next cell is visited
  pub next_visited : (v : Visit) → next g c ≡ done (Some v) → visited g v.cell ≡ true
  unfolding next visited
  next_visited v e =
      let s = need_done (proper g) (area.next (walked g) c) e in
      (and-eq-true_iff (proper g) (area.visited (walked g) v.cell)).1 (s.0, of.next_visited (walked g) c v s.1)
