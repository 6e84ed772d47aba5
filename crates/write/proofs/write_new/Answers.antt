-- write_new does what stage 10 says: by the test of the point, then as next_stamp and write_tuple answer.
use mathlib.Core.Path.{◌≡◌, refl, sym, ap, ◌∙◌}
use mathlib.Core.Bool.{true}
use Prim.Native.Nat.{ℕ}
use Rattle.std.specs.Prelude.{None, Some}
use Rattle.std.proofs.Common.{rules}
use Rattle.std.proofs.lemmas.Result.{err_from_is_err_and}
use Rattle.base.specs.Outcome.{corrupt, done, need, and_then}
use Rattle.base.specs.Step.{said, turned}
use Rattle.base.proofs.Answer.{gave_corrupt, gave_done}
use Rattle.base.proofs.Turns.{halts, moves}
use Rattle.cells.specs.Chain.{Writing}
use Rattle.cells.specs.On.{write_on}
use Rattle.layout.specs.Place.{on_grid, cell_of}
use Rattle.layout.specs.declared.place.Place.{Place}
use Rattle.stage.specs.Turn.{drawn}
use Rattle.stage.specs.declared.Stage.TheVariants.{RaiseCount}
use Rattle.stage.proofs.Draw.{draw_refused, draw_made}
use Rattle.tables.specs.Tables.{Tables, with_tuples, with_clock}
use Rattle.tables.specs.Grid.{grid}
use Rattle.tables.proofs.Grid.{clock_at, set_clock}
use Rattle.write.specs.Write.{drawn_of, stage10}
use Rattle.write.specs.On.{with_drawn, stage10_on}
use Rattle.write.proofs.write_new.Goals as goal

module _ (t : Tables) (k x y m : ℕ) (g : on_grid x y ≡ true) where
  late : corrupt ≡ drawn t.clock → turned t (stage10_on t k x y m) ≡ (said 12 None, t)
  unfolding stage10 need
  late d = halts (with_drawn t) t _ t (rw (g, draw_refused t.clock _ d)) refl

  -- t': the tables when the tuple is written, and the clock is not yet
  module _ (n : ℕ) (d : done n ≡ drawn t.clock) {c : ℕ} (i : c ≡ cell_of x y) {t' : Tables} where
    unwritten : (write_on t c k x y m n ≡ corrupt) × (t' ≡ t) → turned t (stage10_on t k x y m) ≡ (said 12 None, t')
    unfolding stage10 need and_then
    unwritten (e, q) = halts (with_drawn t) t _ t' (rw (g, draw_made t.clock _ d, ← i, e)) q

    written : {p : Place} → (w : Writing) × (write_on t c k x y m n ≡ done w) × (w.place ≡ p) × (with_tuples t w.tuples ≡ t') →
        (t'' : Tables) → t'' ≡ with_clock t' n → turned t (stage10_on t k x y m) ≡ (said 0 (Some (RaiseCount p)), t'')
    unfolding stage10 need and_then
    written {p} (w, e, f, q) t'' z =
        moves (with_drawn t) t _ t'' 0 (RaiseCount p) (drawn_of w.tuples n) (rw (g, draw_made t.clock _ d, ← i, e, f)) (z ∙ ap (λ (u : Tables). with_clock u n) (sym q))

pub returns-in_err-time : goal.returns-in_err-time
returns-in_err-time c =
    let t = grid c.args.words.now c.args.times.now in
    let p = err_from_is_err_and c.from_residual.result c.from_residual.ensures.1 in
    rw (p.1, p.2) (late t _ _ _ _ (sym c.on_grid.ensures ∙ c.if-not-on_grid.false)
    (c.in_err-time.ensures ∙ ap drawn (sym (clock_at c.args.words.now c.args.times.now))))

pub returns-in_err-place : goal.returns-in_err-place
returns-in_err-place c =
    let t = grid c.args.words.now c.args.times.now in
    let p = err_from_is_err_and c.from_residual-in_err-place.result c.from_residual-in_err-place.ensures.1 in
    rw (p.1, p.2) (unwritten t _ _ _ _ (sym c.on_grid.ensures ∙ c.if-not-on_grid.false) c.in_ok-time.time
    (c.in_ok-time.ensures ∙ ap drawn (sym (clock_at c.args.words.now c.args.times.now))) c.cell_of.ensures
    (gave_corrupt (λ (w : Writing). w.place) (λ (w : Writing). with_tuples t w.tuples) t _ _ c.write_tuple.ensures c.in_err-place.was))

pub returns : goal.returns
returns c =
    let t = grid c.args.words.now c.args.times.now in
    written t _ _ _ _ (sym c.on_grid.ensures ∙ c.if-not-on_grid.false) c.in_ok-time.time
    (c.in_ok-time.ensures ∙ ap drawn (sym (clock_at c.args.words.now c.args.times.now))) c.cell_of.ensures
    (gave_done (λ (w : Writing). w.place) (λ (w : Writing). with_tuples t w.tuples) t _ _ c.write_tuple.ensures c.in_ok-place.was)
    _ (set_clock c.write_tuple.new.words c.write_tuple.new.times (search rules) c.in_ok-time.time)
