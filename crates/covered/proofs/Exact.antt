-- `whole` holds of a cell exactly where every point of it satisfies the question, for all three kinds.
-- A point of a cell lies no farther outside the rectangle than one of the cell's edges, in x and in y separately.
-- So the corner that lies farthest decides for touching, and the two edges of each coordinate for within and centre.
use mathlib.Core.Path.{◌≡◌, sym, ◌∙◌}
use mathlib.Core.Bool.{true, false, ◌&&◌, and-eq-true_iff}
use mathlib.Core.Logic.{◌↔◌}
use Prim.Native.Nat.{ℕ, ◌+◌, ◌-◌, ◌≤◌, ◌<◌}
use native.Mathlib.Omega.{arith}
use lib.Dec.{ltb, leb}
use borrow.Author.Tests.{le-leb, leb-true, leb-false, lt-ltb, ltb-true}
use Rattle.base.proofs.Table.{by_test}
use Rattle.layout.specs.Place.{cell_of}
use Rattle.layout.specs.declared.question.Question.{Question as Rectangle}
use Rattle.layout.specs.Question.{Proper}
use Rattle.std.proofs.lemmas.Bool.Decides.{nat_tests, same_from_decides}
use Rattle.layout.proofs.Corners.{proper_facts}
use Rattle.layout.proofs.Places.{on_grid_to, on_grid_from}
use Rattle.regions.specs.Region.{proper, apart, nearest, touching, within, satisfies, inside, touching_zero, centre}
use Rattle.regions.specs.declared.region.Kind.{Kind}
use Rattle.regions.specs.declared.region.Kind.TheVariants.{Touching, Within, Centre}
use Rattle.regions.specs.declared.region.Region.{Region}
use Rattle.regions.proofs.Checks.{proper_parts}
use Rattle.regions.proofs.Points.{outside_by}
use Rattle.regions.proofs.Squares.{square_more}
use Rattle.regions.proofs.Zero.{zero-within, zero-proper, zero-accepted, zero-inside}
use Rattle.covered.specs.Whole.{Lies, Wholly, left, right, bottom, top, farthest, reached, deep, whole_by, whole}

-- ---- the points of a cell

lies_facts : (c x y : ℕ) → Lies c x y → (left c ≤ x) × (x ≤ right c) × (bottom c ≤ y) × (y ≤ top c)
unfolding cell_of
lies_facts c x y l =
    let g = on_grid_to x y l.on in
    let e = l.cell in
    (omega arith, omega arith, omega arith, omega arith)

lies_from : (c x y : ℕ) → c < 256 → left c ≤ x → x ≤ right c → bottom c ≤ y → y ≤ top c → Lies c x y
unfolding cell_of
lies_from c x y c< a b d e = record { on = on_grid_from x y (omega arith, omega arith); cell = omega arith }

-- its lower left and its upper right corner
lower : (c : ℕ) → c < 256 → Lies c (left c) (bottom c)
lower c c< = lies_from c (left c) (bottom c) c< (omega arith) (omega arith) (omega arith) (omega arith)

upper : (c : ℕ) → c < 256 → Lies c (right c) (top c)
upper c c< = lies_from c (right c) (top c) c< (omega arith) (omega arith) (omega arith) (omega arith)

-- ---- one coordinate

-- no coordinate from l to u lies farther outside than the farther of the two
no_farther : (a b l u p : ℕ) → a ≤ b → l ≤ p → p ≤ u → apart p (nearest a b p) ≤ farthest a b l u
no_farther a b l u p h j k = rw (outside_by a b p h) (omega arith)

-- and one of the two lies so far outside
farthest_at : (a b l u : ℕ) → a ≤ b → l ≤ u → (p : ℕ) × (l ≤ p) × (p ≤ u) × (apart p (nearest a b p) ≡ farthest a b l u)
farthest_at a b l u h k = by_test (leb (u - b) (a - l))
    (λ e. let w = leb-true (u - b) (a - l) e in (l, omega arith, k, outside_by a b l h ∙ omega arith))
    (λ e. let w = leb-false (u - b) (a - l) e in (u, k, omega arith, outside_by a b u h ∙ omega arith))

-- ---- by kind

-- of two sums the first is at most the second, which is at most w
most : (s t u v w : ℕ) → s ≤ u → t ≤ v → u + v ≤ w → leb (s + t) w ≡ true
most s t u v w i j k = le-leb (s + t) w (omega arith)

abbrev All : Kind → Rectangle → ℕ → ℕ → Type 0
All k a r c = (x y : ℕ) → Lies c x y → satisfies k a r x y ≡ true

module _ (a : Rectangle) (r c : ℕ) (c< : c < 256) where
  whole_touching : Proper a → (reached a r c ≡ true) ↔ All Touching a r c
  unfolding reached satisfies touching
  whole_touching h =
      let f = proper_facts a h in (
        (λ e x y l.
            let s = lies_facts c x y l in
            let i = square_more (no_farther a.x0 a.x1 (left c) (right c) x f.0 s.0 s.1) in
            let j = square_more (no_farther a.y0 a.y1 (bottom c) (top c) y f.1 s.2 s.3) in
            most _ _ _ _ _ i j (leb-true _ _ e)),
        (λ g.
            let u = farthest_at a.x0 a.x1 (left c) (right c) f.0 (omega arith) in
            let v = farthest_at a.y0 a.y1 (bottom c) (top c) f.1 (omega arith) in
            rw (u.3, v.3) at (g u.0 v.0 (lies_from c u.0 v.0 c< u.1 u.2 v.1 v.2))),
      )

  whole_within : (deep a r c ≡ true) ↔ All Within a r c
  unfolding deep satisfies within
  whole_within = (
    (λ e x y l.
        let s = lies_facts c x y l in
        grind (arith, nat_tests)),
    (λ g.
        let m = g (left c) (bottom c) (lower c c<) in
        let n = g (right c) (top c) (upper c c<) in
        grind (arith, nat_tests)),
  )

-- the centre question is within with radius 0
centre_all : (a : Rectangle) (r c : ℕ) → (All Within a 0 c → All Centre a r c) × (All Centre a r c → All Within a 0 c)
unfolding satisfies
centre_all a r c = (
  (λ f x y l. sym (zero-within a x y) ∙ f x y l),
  (λ f x y l. zero-within a x y ∙ f x y l),
)

by_kind : (k : Kind) (a : Rectangle) (r c : ℕ) → Proper a → c < 256 → (whole_by k a r c ≡ true) ↔ All k a r c
unfolding whole_by
by_kind Touching a r c h c< = whole_touching a r c c< h
by_kind Within a r c h c< = whole_within a r c c<
by_kind Centre a r c h c< =
    let w = whole_within a 0 c c< in
    let z = centre_all a r c in
    (λ e. z.0 (w.0 e), λ f. w.1 (z.1 f))

-- ---- the law

module _ (g : Region) (c : ℕ) where
  -- no other number is called whole
  pub whole_below : whole g c ≡ true → c < 256
  unfolding whole
  whole_below e = ltb-true c 256 ((and-eq-true_iff (ltb c 256) (whole_by g.kind g.area g.radius c)).0 e).0

  -- THE LAW (document 02, g): yes exactly where every point of the cell satisfies the question
  pub whole_iff : proper g ≡ true → c < 256 → (whole g c ≡ true) ↔ Wholly g c
  unfolding whole inside
  whole_iff h c< =
      let w = by_kind g.kind g.area g.radius c (proper_parts g h).0 c< in
      let s = and-eq-true_iff (ltb c 256) (whole_by g.kind g.area g.radius c) in
      (λ e. w.0 (s.0 e).1, λ f. s.1 (lt-ltb c 256 c<, w.1 f))

-- touching with radius 0 has the same whole cells as the centre question (document 02, m)
pub zero-whole : (a : Rectangle) → Proper a → (c : ℕ) → whole (touching_zero a) c ≡ whole (centre a) c
zero-whole a h c =
    let t = zero-accepted a h in
    let q = sym (zero-proper a) ∙ t in
    same_from_decides (whole (touching_zero a) c) (whole (centre a) c) (
      (λ e.
          let c< = whole_below (touching_zero a) c e in
          (whole_iff (centre a) c q c<).1 (λ x y l. sym (zero-inside a h x y) ∙ (whole_iff (touching_zero a) c t c<).0 e x y l)),
      (λ e.
          let c< = whole_below (centre a) c e in
          (whole_iff (touching_zero a) c t c<).1 (λ x y l. zero-inside a h x y ∙ (whole_iff (centre a) c q c<).0 e x y l)),
    )
    (λ h. h, λ h. h)

-- ---- the test by its parts, and by kind

module _ (a : Rectangle) (r c : ℕ) where
  pub deep_no : (leb (a.x0 + r) (left c) && leb (right c + r) a.x1) ≡ false → deep a r c ≡ false
  unfolding deep
  deep_no h = rw h

  pub deep_yes : (leb (a.x0 + r) (left c) && leb (right c + r) a.x1) ≡ true
      → deep a r c ≡ (leb (a.y0 + r) (bottom c) && leb (top c + r) a.y1)
  unfolding deep
  deep_yes h = rw h

module _ (g : Region) (c : ℕ) where
  -- no cell
  pub whole_none : ltb c 256 ≡ false → whole g c ≡ false
  unfolding whole
  whole_none h = rw h

  pub whole_reached : ltb c 256 ≡ true → g.kind ≡ Touching → whole g c ≡ reached g.area g.radius c
  unfolding whole whole_by
  whole_reached h e = rw (h, e)

  pub whole_deep : ltb c 256 ≡ true → g.kind ≡ Within → whole g c ≡ deep g.area g.radius c
  unfolding whole whole_by
  whole_deep h e = rw (h, e)

  pub whole_centre : ltb c 256 ≡ true → g.kind ≡ Centre → whole g c ≡ deep g.area 0 c
  unfolding whole whole_by
  whole_centre h e = rw (h, e)
