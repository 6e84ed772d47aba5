-- Touching with radius 0 is the centre question (document 02, m): the same points satisfy it, the same cells are walked.
-- So is within with radius 0.
-- With radius 0 a coordinate may lie 0 outside its interval, that is, in it; and the grown rectangle is the rectangle.
use mathlib.Core.Path.{◌≡◌, refl, ap}
use mathlib.Core.Bool.{true, ◌&&◌, and-eq-true_iff}
use Prim.Native.Nat.{ℕ, ◌+◌, ◌-◌, ◌≤◌, min}
use native.Mathlib.Omega.{arith}
use lib.Dec.{leb}
use borrow.Author.Tests.{le-leb, leb-true}
use Rattle.layout.specs.Question as area
use Rattle.layout.specs.declared.question.Question.{Question as Rectangle}
use Rattle.std.proofs.lemmas.Bool.Decides.{nat_tests, same_from_decides}
use Rattle.layout.specs.Question.{Proper}
use Rattle.layout.proofs.Corners.{proper_iff, proper_facts}
use Rattle.regions.specs.Region.{radius_fits, proper, checks, square, apart, nearest, touching, within, satisfies, inside, walked_by_kind, walked, walk, cells_touched, first_visit, visited, next, touching_zero, centre}
use Rattle.regions.proofs.Points.{outside_by, outside_most, inside_sides}
use Rattle.regions.proofs.Squares.{both_less}

square-zero : (n : ℕ) → n ≡ 0 → square n ≡ 0
square-zero n e = rw e

-- a coordinate that lies 0 outside an interval lies in it, and the other way round
zero_in : (a b n : ℕ) → (a - n) + (n - b) ≤ 0 → (a ≤ n) × (n ≤ b)
zero_in a b n e = (omega arith, omega arith)

in_zero : (a b n : ℕ) → a ≤ n → n ≤ b → apart n (nearest a b n) ≡ 0
in_zero a b n h k = rw (outside_by a b n (omega arith)) (omega arith)

module _ (a : Rectangle) where
  -- within with radius 0 too
  pub zero-within : (x y : ℕ) → within a 0 x y ≡ area.inside a x y
  unfolding within area.inside
  zero-within x y =
      let e0 : a.x0 + 0 ≡ a.x0 = omega arith in
      let e1 : x + 0 ≡ x = omega arith in
      let e2 : a.y0 + 0 ≡ a.y0 = omega arith in
      let e3 : y + 0 ≡ y = omega arith in
      rw (e0, e1, e2, e3)

  -- the same is accepted and refused
  pub zero-proper : proper (touching_zero a) ≡ proper (centre a)
  unfolding proper radius_fits
  zero-proper = refl

  pub zero-checks : checks (touching_zero a) ≡ checks (centre a)
  unfolding checks radius_fits
  zero-checks = refl

  module _ (h : Proper a) where
    -- with accepted corners it is in range
    pub zero-accepted : proper (touching_zero a) ≡ true
    unfolding proper radius_fits
    zero-accepted = (and-eq-true_iff (area.corners_on a && area.ordered a) (leb 0 511)).1 ((proper_iff a).0 h, refl)

    zero-touching : (x y : ℕ) → touching a 0 x y ≡ area.inside a x y
    unfolding touching area.inside
    zero-touching x y =
        let f = proper_facts a h in
        let dx = apart x (nearest a.x0 a.x1 x) in
        let dy = apart y (nearest a.y0 a.y1 y) in
        same_from_decides (leb (square dx + square dy) (square 0))
        (leb a.x0 x && leb x a.x1 && leb a.y0 y && leb y a.y1) (
          (λ e.
              let b = both_less dx dy 0 (leb-true (square dx + square dy) (square 0) e) in
              let u = zero_in a.x0 a.x1 x (outside_most a.x0 a.x1 0 x f.0 b.0) in
              let v = zero_in a.y0 a.y1 y (outside_most a.y0 a.y1 0 y f.1 b.1) in
              grind (arith, nat_tests)),
          (λ e.
              let s = inside_sides a x y e in
              let u = square-zero dx (in_zero a.x0 a.x1 x s.0 s.1) in
              let v = square-zero dy (in_zero a.y0 a.y1 y s.2 s.3) in
              le-leb (square dx + square dy) (square 0) (omega (arith, u, v))),
        )
        (λ h. h, λ h. h)

    -- THE LAWS: the same points are inside,
    pub zero-inside : (x y : ℕ) → inside (touching_zero a) x y ≡ inside (centre a) x y
    unfolding inside satisfies
    zero-inside x y = zero-touching x y

    -- the same rectangle is walked,
    pub zero-walked : walked (touching_zero a) ≡ walked (centre a)
    unfolding walked_by_kind
    zero-walked =
        let f = proper_facts a h in
        let e0 : a.x0 - 0 ≡ a.x0 = omega arith in
        let e1 : a.y0 - 0 ≡ a.y0 = omega arith in
        let e2 : min (a.x1 + 0) 16383 ≡ a.x1 = omega arith in
        let e3 : min (a.y1 + 0) 16383 ≡ a.y1 = omega arith in
        λ i. record { x0 = e0 i; y0 = e1 i; x1 = e2 i; y1 = e3 i }

    -- and with it the same cells
    pub zero-walk : walk (touching_zero a) ≡ walk (centre a)
    unfolding walk
    zero-walk = ap area.walk zero-walked

    pub zero_touched : cells_touched (touching_zero a) ≡ cells_touched (centre a)
    unfolding cells_touched
    zero_touched = ap area.cells_touched zero-walked

    pub zero-first : first_visit (touching_zero a) ≡ first_visit (centre a)
    zero-first = ap (λ (b : Rectangle). area.first_visit b) zero-walked

    pub zero-visited : (c : ℕ) → visited (touching_zero a) c ≡ visited (centre a) c
    unfolding visited
    zero-visited c = rw zero-proper (ap (λ (b : Rectangle). proper (centre a) && area.visited b c) zero-walked)

    pub zero-next : (c : ℕ) → next (touching_zero a) c ≡ next (centre a) c
    unfolding next
    zero-next c = rw (zero-proper, zero-walked)
