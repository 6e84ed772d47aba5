-- The walk from a visited cell on, by the test `visited` alone: the next cell is the least visited one above,
-- and there is none after the last.
-- Each law is that of the rectangle that is walked, with its columns and rows turned into the test.
use mathlib.Core.Path.{◌≡◌, ◌∙◌}
use mathlib.Core.Bool.{true}
use mathlib.Core.Logic.{◌≢◌}
use Rattle.std.specs.Prelude.{None, Some}
use Prim.Native.Nat.{ℕ, ◌≤◌, ◌<◌}
use native.Mathlib.Omega.{arith}
use Rattle.base.specs.Outcome.{done}
use Rattle.layout.specs.Place.{cell_of}
use Rattle.layout.specs.Question.{Proper}
use Rattle.layout.proofs.Covers.{Covers, visited_covers, covers_visited}
use Rattle.layout.proofs.Next as of
use Rattle.regions.specs.Region.{walked, first_visit, last_cell, visited, next}
use Rattle.regions.specs.declared.region.Region.{Region}
use Rattle.regions.proofs.Walk.{visited_parts, visited_in, next_in_lem}

-- d is the least visited cell above c
pub record Follows (g : Region) (c d : ℕ) : Type 0 where
  pub visits : visited g d ≡ true
  pub above : c < d
  pub least : (e : ℕ) → visited g e ≡ true → c < e → d ≤ e

module _ (g : Region) (c : ℕ) (e : visited g c ≡ true) where
  covers : Proper (walked g) × Covers (walked g) c
  covers = visited_covers (walked g) c (visited_parts g c e).1

  -- the first and the last visited cell
  pub visited_first : (first_visit g).cell ≤ c
  unfolding cell_of
  visited_first = let v = covers.1 in omega arith

  pub visited_last : c ≤ last_cell g
  visited_last = of.covers_last (walked g) covers.0 c covers.1

  -- after the last there is none
  pub next_end : c ≡ last_cell g → next g c ≡ done None
  next_end l = next_in_lem g c (visited_parts g c e).0 ∙ of.next_end (walked g) covers.0 c covers.1 l

  -- after any other there is the least one above
  pub next_follows : c ≢ last_cell g → (d : ℕ) × (next g c ≡ done (Some (record { cell = d }))) × Follows g c d
  next_follows l =
      let h = (visited_parts g c e).0 in
      let n = of.next_follows (walked g) covers.0 c covers.1 l in (
        n.0,
        next_in_lem g c h ∙ n.1,
        record {
          visits = visited_in g n.0 h ∙ covers_visited (walked g) n.0 covers.0 n.2.covers;
          above = n.2.above;
          least = λ d v k. n.2.least d (visited_covers (walked g) d (visited_parts g d v).1).1 k;
        },
      )
