-- The cells that `next_visit` and `first_visit` name are those of the walk, and what they say of them is exact.
-- By cases on what `next` came to; the rest is `whole_iff`.
use mathlib.Core.Path.{◌≡◌, refl}
use mathlib.Core.Bool.{Bool, true}
use mathlib.Core.List.Memᴰ
use mathlib.Core.Logic.{◌↔◌}
use Rattle.std.specs.Prelude.{Option, None, Some}
use Prim.Native.Nat.{ℕ}
use Rattle.base.specs.Outcome.{Outcome, corrupt, blocked, done, and_then}
use Rattle.base.proofs.Table.{clash}
use Rattle.layout.specs.declared.question.Visit.{Visit as Cell}
use Rattle.regions.specs.Region as region
use Rattle.regions.specs.declared.region.Region.{Region}
use Rattle.regions.proofs.Walk.{first_of_walk, next_visited, visited_below, visited_walk, walk_below}
use Rattle.covered.specs.Whole.{Wholly, whole}
use Rattle.covered.specs.Visit.{visit, first_visit, marked, next_visit}
use Rattle.covered.specs.declared.visit.Visit.{Visit}
use Rattle.covered.proofs.Exact.{whole_iff}

-- ---- what `next_visit` comes to, by what `next` does

-- the first cell, tested
pub visit_first : (g : Region) (v : Cell) (b : Bool) → v ≡ region.first_visit g → b ≡ whole g v.cell
    → record { cell = v.cell; whole = b } ≡ first_visit g
visit_first g v b e f = rw (f, e)

module _ (g : Region) (c : ℕ) where
  pub visit_broken : region.next g c ≡ corrupt → next_visit g c ≡ corrupt
  unfolding next_visit and_then
  visit_broken e = rw e

  pub visit_end : region.next g c ≡ done None → next_visit g c ≡ done None
  unfolding next_visit and_then
  visit_end e = rw e

  pub visit_cell : (v : Cell) → region.next g c ≡ done (Some v) → next_visit g c ≡ done (Some (visit g v.cell))
  unfolding next_visit and_then
  visit_cell v e = rw e

-- a visit comes of a cell
marked_some : (g : Region) (o : Outcome (Option Cell)) (v : Visit) → and_then o (λ w. done (marked g w)) ≡ done (Some v)
    → (w : Cell) × (o ≡ done (Some w)) × (visit g w.cell ≡ v)
unfolding and_then
marked_some g corrupt v e = clash (cc)
marked_some g blocked v e = clash (cc)
marked_some g (done None) v e = clash (cc)
marked_some g (done (Some w)) v e = (w, refl, cc)

-- ---- the promises (document 02, g)

-- THE LAW: the next cell is one of the walk, and it is called whole exactly where every point of it satisfies the question
pub next_whole : (g : Region) (c : ℕ) (v : Visit) → next_visit g c ≡ done (Some v)
    → (region.visited g v.cell ≡ true) × ((v.whole ≡ true) ↔ Wholly g v.cell)
unfolding next_visit
next_whole g c v e =
    let m = marked_some g (region.next g c) v e in
    let s = next_visited g c m.0 m.1 in
    let in_range = (visited_walk g m.0.cell s).0 in
    rw (← m.2) (s, whole_iff g m.0.cell in_range (visited_below g m.0.cell s))

-- and so is the first
pub first_whole : (g : Region) → region.proper g ≡ true → ((first_visit g).whole ≡ true) ↔ Wholly g (first_visit g).cell
first_whole g h =
    let w = first_of_walk g h in
    whole_iff g (first_visit g).cell h (walk_below g h (first_visit g).cell (rw w.1 (Memᴰ.head refl)))
