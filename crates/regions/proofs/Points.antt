-- The points that satisfy a question: what touching means, and the questions by kind.
-- A coordinate lies as far from the nearest one of an interval as it lies outside the interval,
-- and to no other is it nearer.
use mathlib.Core.Path.{◌≡◌}
use mathlib.Core.Bool.{true, false, ◌&&◌}
use mathlib.Core.Logic.{◌↔◌}
use Prim.Native.Nat.{ℕ, ◌+◌, ◌-◌, ◌≤◌}
use native.Mathlib.Omega.{arith}
use lib.Dec.{leb}
use borrow.Author.Tests.{le-leb, leb-true}
use Rattle.layout.specs.Question as area
use Rattle.layout.specs.declared.question.Question.{Question as Rectangle}
use Rattle.std.proofs.lemmas.Bool.Decides.{nat_tests}
use Rattle.layout.specs.Question.{Proper}
use Rattle.layout.proofs.Corners.{proper_facts}
use Rattle.regions.specs.Near.{Near}
use Rattle.regions.specs.Region.{square, apart, nearest, touching, within, satisfies, inside}
use Rattle.regions.specs.declared.region.Kind.TheVariants.{Touching, Within, Centre}
use Rattle.regions.specs.declared.region.Region.{Region}
use Rattle.regions.proofs.Squares.{square_more}

-- ---- one coordinate

-- how far n lies outside the interval from a to b
pub outside_by : (a b n : ℕ) → a ≤ b → apart n (nearest a b n) ≡ (a - n) + (n - b)
outside_by a b n h = omega arith

pub outside_most : (a b r n : ℕ) → a ≤ b → apart n (nearest a b n) ≤ r → (a - n) + (n - b) ≤ r
outside_most a b r n h e = rw (outside_by a b n h) at e

-- no other coordinate of the interval is nearer
no_nearer : (a b n p : ℕ) → a ≤ b → a ≤ p → p ≤ b → apart n (nearest a b n) ≤ apart n p
no_nearer a b n p h j k = rw (outside_by a b n h) (omega arith)

-- the nearest one is of the interval
nearest_in : (a b n : ℕ) → a ≤ b → (a ≤ nearest a b n) × (nearest a b n ≤ b)
nearest_in a b n h = (omega arith, omega arith)

-- a point of a rectangle lies between its sides
pub inside_sides : (a : Rectangle) (x y : ℕ) → area.inside a x y ≡ true → (a.x0 ≤ x) × (x ≤ a.x1) × (a.y0 ≤ y) × (y ≤ a.y1)
unfolding area.inside
inside_sides a x y h = grind (arith, nat_tests)

-- ---- what touching means

-- THE LAW: a point touches exactly where some point of the rectangle is near
pub touching_near : (a : Rectangle) (r x y : ℕ) → Proper a → (touching a r x y ≡ true) ↔ Near a r x y
unfolding touching area.inside
touching_near a r x y h =
    let f = proper_facts a h in
    let u = nearest_in a.x0 a.x1 x f.0 in
    let v = nearest_in a.y0 a.y1 y f.1 in (
      (λ e. record {
        px = nearest a.x0 a.x1 x;
        py = nearest a.y0 a.y1 y;
        there = grind (arith, nat_tests);
        close = leb-true _ _ e;
      }),
      (λ n.
          let s = inside_sides a n.px n.py n.there in
          let i = square_more (no_nearer a.x0 a.x1 x n.px f.0 s.0 s.1) in
          let j = square_more (no_nearer a.y0 a.y1 y n.py f.1 s.2 s.3) in
          let dx = apart x (nearest a.x0 a.x1 x) in
          let dy = apart y (nearest a.y0 a.y1 y) in
          le-leb (square dx + square dy) (square r)
          (omega (arith, n.close, i, j))),
    )

-- ---- by kind

module _ (a : Rectangle) (r x y : ℕ) where
  pub within_no : (leb (a.x0 + r) x && leb (x + r) a.x1) ≡ false → within a r x y ≡ false
  unfolding within
  within_no h = rw h

  pub within_yes : (leb (a.x0 + r) x && leb (x + r) a.x1) ≡ true
      → within a r x y ≡ (leb (a.y0 + r) y && leb (y + r) a.y1)
  unfolding within
  within_yes h = rw h

module _ (g : Region) (x y : ℕ) where
  pub inside_touching : g.kind ≡ Touching → inside g x y ≡ touching g.area g.radius x y
  unfolding inside satisfies
  inside_touching e = rw e

  pub inside_within : g.kind ≡ Within → inside g x y ≡ within g.area g.radius x y
  unfolding inside satisfies
  inside_within e = rw e

  pub inside_centre : g.kind ≡ Centre → inside g x y ≡ area.inside g.area x y
  unfolding inside satisfies
  inside_centre e = rw e
