-- delete_old does what stage 13 says: as next_stamp and delete_tuple answer.
use mathlib.Core.Path.{◌≡◌, refl, sym, ap, ◌∙◌}
use mathlib.Core.List.{List}
use Prim.Native.Nat.{ℕ}
use lib.IntN.{ℤ}
use Rattle.std.specs.Prelude.{None, Some}
use Rattle.std.proofs.Common.{rules}
use Rattle.std.proofs.lemmas.Result.{err_from_is_err_and}
use Rattle.base.specs.Outcome.{corrupt, done, and_then}
use Rattle.base.specs.Step.{said, turned}
use Rattle.base.proofs.Answer.{changed_corrupt, changed_done}
use Rattle.base.proofs.Turns.{halts, moves}
use Rattle.layout.specs.declared.place.Place.{Place}
use Rattle.slots.specs.Tuple.{delete}
use Rattle.tables.specs.Tables.{Tables, with_times, with_clock}
use Rattle.tables.specs.Grid.{grid}
use Rattle.tables.proofs.Grid.{clock_at, set_clock}
use Rattle.stage.specs.Turn.{drawn}
use Rattle.stage.specs.declared.Stage.TheVariants.{ReleaseObject}
use Rattle.stage.proofs.Draw.{draw_refused, draw_made}
use Rattle.commit.specs.Commit.{deleting_of, stage13}
use Rattle.commit.specs.On.{put_deleting, stage13_on}
use Rattle.commit.proofs.delete_old.Goals as goal

module _ (t : Tables) (p : Place) where
  late : corrupt ≡ drawn t.clock → turned t (stage13_on t p) ≡ (said 12 None, t)
  unfolding stage13_on stage13
  late d = halts (put_deleting t) t _ t (draw_refused t.clock _ d) refl

  module _ (n : ℕ) (d : done n ≡ drawn t.clock) (t' : Tables) where
    undeleted : delete t.tuples.time p.bucket p.slot n ≡ corrupt → t' ≡ t → turned t (stage13_on t p) ≡ (said 12 None, t')
    unfolding stage13_on stage13 and_then
    undeleted e q = halts (put_deleting t) t _ t' (rw (draw_made t.clock _ d, e)) q

    deleted : (l : List ℤ) → delete t.tuples.time p.bucket p.slot n ≡ done l → t' ≡ with_clock (with_times t l) n → turned t (stage13_on t p) ≡ (said 0 (Some ReleaseObject), t')
    unfolding stage13_on stage13 and_then
    deleted l e q = moves (put_deleting t) t _ t' 0 ReleaseObject (deleting_of l n) (rw (draw_made t.clock _ d, e)) q

pub returns-in_err-time : goal.returns-in_err-time
returns-in_err-time c =
    let t = grid c.args.words.now c.args.times.now in
    let p = err_from_is_err_and c.from_residual.result c.from_residual.ensures.1 in
    rw (p.1, p.2) (late t c.args.place (c.in_err-time.ensures ∙ ap drawn (sym (clock_at c.args.words.now c.args.times.now))))

pub returns-in_err-delete_tuple : goal.returns-in_err-delete_tuple
unfolding grid
returns-in_err-delete_tuple c =
    let w = c.args.words.now in
    let ts = c.args.times.now in
    let p = err_from_is_err_and c.from_residual-in_err-delete_tuple.result c.from_residual-in_err-delete_tuple.ensures.1 in
    let e = changed_corrupt ts _ (delete ts c.args.place.bucket c.args.place.slot c.in_ok-time.time) c.delete_tuple.ensures c.in_err-delete_tuple.was in
    rw (p.1, p.2) (undeleted (grid w ts) c.args.place c.in_ok-time.time c.in_ok-time.ensures _ e.0 (ap (grid w) e.1))

pub returns : goal.returns
unfolding grid
returns c =
    let w = c.args.words.now in
    let ts = c.args.times.now in
    let l = c.delete_tuple.new.times in
    deleted (grid w ts) c.args.place c.in_ok-time.time c.in_ok-time.ensures _ l
    (changed_done ts l (delete ts c.args.place.bucket c.args.place.slot c.in_ok-time.time) c.delete_tuple.ensures c.in_ok-delete_tuple.was)
    (set_clock w l (search rules) c.in_ok-time.time)
