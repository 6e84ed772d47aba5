-- Stages 9 and 10 on all tables: one law for each end, by how the operations that they are made of ended.
use mathlib.Core.Path.{◌≡◌, refl, sym, ap, ◌∙◌}
use mathlib.Core.Bool.{true, false}
use Rattle.std.specs.Prelude.{None, Some, Result, ⊤}
use Prim.Native.Nat.{ℕ, ◌+◌, ◌<◌, ◌≤◌}
use borrow.Author.Tests.{le-ltb, lt-ltb}
use Rattle.base.specs.Outcome.{corrupt, done, need, and_then, tells, nothing, ended}
use Rattle.base.specs.Answer.{outcome_of}
use Rattle.base.specs.declared.Corrupt.{Corrupt}
use Rattle.base.specs.declared.Stop.{Stop}
use Rattle.base.specs.Step.{said, turned}
use Rattle.layout.specs.Place.{on_grid, cell_of}
use Rattle.layout.specs.declared.place.Place.{Place}
use Rattle.tables.specs.Tables.{Tables, with_tuples, with_clock}
use Rattle.cells.specs.Chain.{Writing}
use Rattle.cells.specs.On.{chains_in, with_chains, make_room_on, write_on}
use Rattle.base.proofs.Turns.{halts, moves}
use Rattle.stage.specs.Turn.{turn_says, draw}
use Rattle.stage.specs.declared.Stage.TheVariants.{WriteTuple, RaiseCount}
use Rattle.stage.specs.declared.Turn.{Turn}
use Rattle.stage.proofs.After.{turn_after, turns_after}
use Rattle.write.specs.Write.{stage9, drawn_of, stage10}
use Rattle.write.specs.On.{stage9_on, with_drawn, stage10_on}

-- stage 9: as make_room ends
pub room_off : (t : Tables) (x y : ℕ) → on_grid x y ≡ false → turned t (stage9_on t x y) ≡ (said 12 None, t)
unfolding stage9 need
room_off t x y g = halts (with_chains t) t (stage9 (chains_in t) x y) t (rw g) refl

module _ (t t' : Tables) (x y : ℕ) (g : on_grid x y ≡ true) (c : ℕ) (c= : c ≡ cell_of x y) where
  pub room_made : (r : Result ⊤ Corrupt) {u : Result Turn Stop} → ended nothing (with_chains t) t (make_room_on t c) ≡ (tells nothing (outcome_of r), t') →
      u ≡ turn_after r WriteTuple → turned t (stage9_on t x y) ≡ (turn_says u, t')
  unfolding stage9 need
  room_made r e q = rw (g, sym c=) (turns_after (with_chains t) t t' (make_room_on t c) WriteTuple r e q)

-- stage 10: as write_tuple ends
pub write_off : (t : Tables) (k x y m : ℕ) → on_grid x y ≡ false → turned t (stage10_on t k x y m) ≡ (said 12 None, t)
unfolding stage10 need
write_off t k x y m g = halts (with_drawn t) t (stage10 t.first t.count (drawn_of t.tuples t.clock) k x y m) t (rw g) refl

module _ (t : Tables) (k x y m : ℕ) (g : on_grid x y ≡ true) (n : ℕ) (n= : t.clock ≡ n) where
  pub write_late : 2147483647 ≤ n → turned t (stage10_on t k x y m) ≡ (said 12 None, t)
  unfolding stage10 draw need
  write_late h = halts (with_drawn t) t (stage10 t.first t.count (drawn_of t.tuples t.clock) k x y m) t (rw (g, n=, le-ltb n 2147483647 h)) refl

  module _ (n< : n < 2147483647) (t' : Tables) (c : ℕ) (c= : c ≡ cell_of x y) where
    pub write_lost : write_on t c k x y m (n + 1) ≡ corrupt → t' ≡ t → turned t (stage10_on t k x y m) ≡ (said 12 None, t')
    unfolding stage10 draw need and_then
    write_lost e q = halts (with_drawn t) t (stage10 t.first t.count (drawn_of t.tuples t.clock) k x y m) t' (rw (g, n=, lt-ltb n 2147483647 n<, sym c=, e)) q

    -- u: the tables when the tuple is written, and the clock is not yet
    pub write_done : (p : Place) (w : Writing) → write_on t c k x y m (n + 1) ≡ done w → w.place ≡ p → (u : Tables) → with_tuples t w.tuples ≡ u → t' ≡ with_clock u (n + 1) → turned t (stage10_on t k x y m) ≡ (said 0 (Some (RaiseCount p)), t')
    unfolding stage10 draw need and_then
    write_done p w e f u q r =
        moves (with_drawn t) t (stage10 t.first t.count (drawn_of t.tuples t.clock) k x y m) t' 0 (RaiseCount p) (drawn_of w.tuples (n + 1))
        (rw (g, n=, lt-ltb n 2147483647 n<, sym c=, e, f)) (r ∙ ap (λ (v : Tables). with_clock v (n + 1)) (sym q))
