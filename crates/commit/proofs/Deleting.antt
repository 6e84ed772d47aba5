-- Stage 13 on all tables: by the test of the clock, then as delete_tuple ends.
use mathlib.Core.Path.{◌≡◌, refl, ap, ◌∙◌}
use Rattle.std.specs.Prelude.{None, Some}
use mathlib.Core.List.{List, []}
use Prim.Native.Nat.{ℕ, ◌+◌, ◌≤◌, ◌<◌}
use lib.IntN.{ℤ}
use lib.ListN.{length, set}
use borrow.Author.Tests.{le-ltb, lt-ltb}
use Rattle.base.specs.Outcome.{says, corrupt, done, need, and_then, nothing, ended}
use Rattle.base.proofs.Outcome.{ended_corrupt, ended_done}
use Rattle.base.specs.Step.{said, turned}
use Rattle.words.specs.Map.{CLOCK, WORDS}
use Rattle.layout.specs.declared.place.Place.{Place}
use Rattle.slots.specs.Tuple.{delete}
use Rattle.tables.specs.Tables.{Tables, with_times, with_clock}
use Rattle.tables.specs.Grid.{grid}
use Rattle.tables.proofs.Grid.{set_clock}
use Rattle.base.proofs.Turns.{halts, moves}
use Rattle.stage.specs.Turn.{draw}
use Rattle.stage.specs.declared.Stage.TheVariants.{ReleaseObject}
use Rattle.commit.specs.Commit.{deleting_of, stage13}
use Rattle.commit.specs.On.{deleting_in, put_deleting, stage13_on}

module _ (t : Tables) (p : Place) (n : ℕ) (n= : t.clock ≡ n) where
  pub delete_late : 2147483647 ≤ n → turned t (stage13_on t p) ≡ (said 12 None, t)
  unfolding stage13_on stage13 draw need
  delete_late h = halts (put_deleting t) t (stage13 (deleting_in t) p) t (rw (n=, le-ltb n 2147483647 h)) refl

  module _ (n< : n < 2147483647) (t' : Tables) where
    no : delete t.tuples.time p.bucket p.slot (n + 1) ≡ corrupt → t' ≡ t → turned t (stage13_on t p) ≡ (said 12 None, t')
    unfolding stage13_on stage13 draw need and_then
    no e q = halts (put_deleting t) t (stage13 (deleting_in t) p) t' (rw (n=, lt-ltb n 2147483647 n<, e)) q

    yes : (l : List ℤ) → delete t.tuples.time p.bucket p.slot (n + 1) ≡ done l → t' ≡ with_clock (with_times t l) (n + 1) → turned t (stage13_on t p) ≡ (said 0 (Some ReleaseObject), t')
    unfolding stage13_on stage13 draw need and_then
    yes l e q = moves (put_deleting t) t (stage13 (deleting_in t) p) t' 0 ReleaseObject (deleting_of l (n + 1)) (rw (n=, lt-ltb n 2147483647 n<, e)) q

-- l: the stamps that delete_tuple leaves
module _ (w : List ℕ) (ts : List ℤ) (w# : length w ≡ WORDS) (p : Place) (n : ℕ) (n= : (grid w ts).clock ≡ n) (n< : n < 2147483647) (l : List ℤ) where
  pub delete_lost : ended nothing (λ (x : List ℤ). x) ts (delete ts p.bucket p.slot (n + 1)) ≡ (says 12 [], l) → turned (grid w ts) (stage13_on (grid w ts) p) ≡ (said 12 None, grid w l)
  unfolding grid
  delete_lost e =
      let d = ended_corrupt nothing (λ (x : List ℤ). x) ts l (delete ts p.bucket p.slot (n + 1)) e in
      no (grid w ts) p n n= n< (grid w l) d.0 (ap (grid w) d.1)

  pub delete_done : ended nothing (λ (x : List ℤ). x) ts (delete ts p.bucket p.slot (n + 1)) ≡ (says 0 [], l) → turned (grid w ts) (stage13_on (grid w ts) p) ≡ (said 0 (Some ReleaseObject), grid (set w CLOCK (n + 1)) l)
  unfolding grid
  delete_done e =
      let d = ended_done nothing (λ (x : List ℤ). x) ts l (delete ts p.bucket p.slot (n + 1)) e in
      yes (grid w ts) p n n= n< (grid (set w CLOCK (n + 1)) l) l (d.1 ∙ ap done d.3) (set_clock w l w# (n + 1))
