-- Stage 3 on the words: one law for each way, by what the look at the last tuple and the lock of its object answered.
use mathlib.Core.Path.{◌≡◌, refl, sym, ap, ◌∙◌}
use mathlib.Core.Logic.{◌≢◌}
use mathlib.Core.List.{List}
use Prim.Native.Nat.{ℕ, ◌≤◌, ◌<◌}
use native.Mathlib.Omega.{arith}
use lib.IntN.{ℤ}
use lib.ListN.{length, set, length-set}
use Rattle.base.specs.Outcome.{Told, Outcome, corrupt, blocked, done, tells, leaves, ended, nothing}
use Rattle.std.specs.Prelude.{Result, Ok, Err, ⊤}
use Rattle.base.proofs.Answer.{changed_in_corrupt, changed_in_done, attempt_in_corrupt, attempt_in_blocked, attempt_in_done}
use Rattle.base.specs.Answer.{outcome_of, attempt_of}
use Rattle.base.specs.declared.Corrupt.{Corrupt}
use Rattle.base.specs.declared.Stop.{Stop}
use Rattle.base.specs.declared.Stop.TheVariants.{Corrupt as StopCorrupt, Blocked}
use Rattle.base.specs.Step.{Said, turned, turn_tells, turn_leaves}
use Rattle.words.specs.Map.{CELLS, INDEX, INDEX-SIZE, WORDS}
use Rattle.words.specs.Part.{store}
use Rattle.words.specs.Words.{cells_in, index_in, put_index}
use Rattle.words.proofs.Parts.{part_length, put-length}
use Rattle.layout.specs.declared.place.Place.{Place}
use Rattle.cells.specs.Chain.{last_in}
use Rattle.cells.specs.declared.Last.{Last}
use Rattle.index.specs.Index.{Index, index_at, with_lock}
use Rattle.tables.specs.Tables.{Tables, with_cells, with_index, with_locks}
use Rattle.tables.specs.Grid.{grid}
use Rattle.tables.proofs.Grid.{put_cells_lem, put_index_lem}
use Rattle.stage.specs.Turn.{turn_says}
use Rattle.stage.specs.declared.Stage.{Stage}
use Rattle.stage.specs.declared.Stage.TheVariants.{CopyLast}
use Rattle.stage.specs.declared.Turn.TheVariants.{Advanced, Restarted}
use Rattle.acquire.specs.On.{lock_object, free_object, back_on, last_on}
use Rattle.acquire.proofs.Laws.{back_far, back_lost, back_done, last_none, last_own, last_lost, last_back, last_took}

module _ (w : List ℕ) (ts : List ℤ) (w# : length w ≡ WORDS) where
  -- another index in the words
  module _ (v : List ℕ) (v# : length v ≡ 2048) where
    -- as it was
    same : index_at v ≡ index_at (index_in w) → grid (put_index w v) ts ≡ grid w ts
    unfolding grid
    same e = put_index_lem w ts w# v v# ∙ ap (with_index (grid w ts)) e

    -- with other locks
    other : (o : List ℕ) → with_lock (index_at (index_in w)) o ≡ index_at v → grid (put_index w v) ts ≡ with_locks (grid w ts) o
    unfolding grid
    other o e = put_index_lem w ts w# v v# ∙ ap (with_index (grid w ts)) (sym e)

  module _ (p : Place) (k : ℕ) where
    -- ---- going back

    pub back_off : 256 ≤ p.cell → turned (grid w ts) (back_on (grid w ts) p k) ≡ (turn_says (Err StopCorrupt), grid w ts)
    unfolding grid turn_tells turn_leaves
    back_off h = ap (turned (grid w ts)) (back_far (grid w ts) p k (part_length w CELLS 256 (omega arith)) h)

    module _ (v : List ℕ) (v# : length v ≡ 2048) {r : Result ⊤ Corrupt} (e : ended nothing (with_lock (index_at (index_in w))) (index_at (index_in w)) (free_object (index_at (index_in w)) k) ≡ (tells nothing (outcome_of r), index_at v)) where
      pub back_kept : {x : Corrupt} → r ≡ Err x → turned (grid w ts) (back_on (grid w ts) p k) ≡ (turn_says (Err StopCorrupt), grid (put_index w v) ts)
      unfolding grid turn_tells turn_leaves
      back_kept q =
          let c = changed_in_corrupt (with_lock (index_at (index_in w))) (index_at (index_in w)) (index_at v) (free_object (index_at (index_in w)) k) e q in
          ap (turned (grid w ts)) (back_lost (grid w ts) p k c.0) ∙ ap (λ (t : Tables). (turn_says (Err StopCorrupt), t)) (sym (same v v# c.1))

      pub back_freed : {x : ⊤} → r ≡ Ok x → p.cell < 256 → turned (grid w ts) (back_on (grid w ts) p k) ≡ (turn_says (Ok Restarted), grid (store CELLS 256 p.cell 0 (put_index w v)) ts)
      unfolding grid turn_tells turn_leaves
      back_freed q h =
          let d = changed_in_done (with_lock (index_at (index_in w))) (index_at (index_in w)) (index_at v) (free_object (index_at (index_in w)) k) e q in
          let x : List ℕ = put_index w v in
          let x# : length x ≡ WORDS = put-length w INDEX INDEX-SIZE (omega arith) v v# ∙ w# in
          let g : grid (store CELLS 256 p.cell 0 x) ts ≡ with_cells (grid x ts) (set (cells_in x) p.cell 0) = put_cells_lem x ts x# (set (cells_in x) p.cell 0) (length-set (cells_in x) p.cell 0 ∙ part_length x CELLS 256 (omega (arith, x#))) in
          ap (turned (grid w ts)) (back_done (grid w ts) p k (part_length w CELLS 256 (omega arith)) d.0 d.1 h)
          ∙ ap (λ (t : Tables). (turn_says (Ok Restarted), t)) (sym (g ∙ ap (λ (t : Tables). with_cells t (set t.cells p.cell 0)) (other v v# d.0 d.2)))

-- ---- the lock of the other object

leaves_locks : (t : Tables) (o : Outcome (List ℕ)) → leaves (with_locks t) t o ≡ with_index t (leaves (with_lock t.index) t.index o)
unfolding leaves
leaves_locks t corrupt = refl
leaves_locks t blocked = refl
leaves_locks t (done l) = refl

pub other_on : (w : List ℕ) (ts : List ℤ) → length w ≡ WORDS → (o : Outcome (List ℕ)) (s : Told) (v : List ℕ) → length v ≡ 2048 → ended nothing (with_lock (index_at (index_in w))) (index_at (index_in w)) o ≡ (s, index_at v) → ended nothing (with_locks (grid w ts)) (grid w ts) o ≡ (s, grid (put_index w v) ts)
unfolding grid
other_on w ts w# o s v v# e =
    ap (λ (t : Tables). (tells nothing o, t)) (leaves_locks (grid w ts) o)
    ∙ ap (λ (p : Told × Index). (p.0, with_index (grid w ts) p.1)) e
    ∙ ap (λ (t : Tables). (s, t)) (sym (put_index_lem w ts w# v v#))

-- ---- looking at the last tuple

module _ (t : Tables) (p : Place) (k owner : ℕ) where
  abbrev lastly : Outcome Last
  lastly = last_in t.first t.count t.tuples.oid p.cell

  pub look_none : lastly ≡ corrupt → turned t (last_on t p k owner) ≡ (turn_says (Err StopCorrupt), t)
  unfolding turn_tells turn_leaves
  look_none e = ap (turned t) (last_none t p k owner e)

  module _ (l : Last) (f : lastly ≡ done l) where
    pub look_own : l.oid ≡ k → turned t (last_on t p k owner) ≡ (turn_says (Ok (Advanced (CopyLast p k))), t)
    unfolding turn_tells turn_leaves
    look_own h = ap (turned t) (last_own t p k owner l f h)

    module _ (ne : l.oid ≢ k) (t' : Tables) {r : Result ⊤ Stop} (e : ended nothing (with_locks t) t (lock_object t.index l.oid owner) ≡ (tells nothing (attempt_of r), t')) where
      pub look_lost : r ≡ Err StopCorrupt → turned t (last_on t p k owner) ≡ (turn_says (Err StopCorrupt), t')
      unfolding turn_tells turn_leaves
      look_lost q =
          let c = attempt_in_corrupt (with_locks t) t t' (lock_object t.index l.oid owner) e q in
          ap (turned t) (last_lost t p k owner l f ne c.0) ∙ ap (λ (x : Tables). (turn_says (Err StopCorrupt), x)) (sym c.1)

      -- what is left is what going back does
      pub look_back : r ≡ Err Blocked → (s : Said Stage) (t'' : Tables) → turned t' (back_on t' p k) ≡ (s, t'') → turned t (last_on t p k owner) ≡ (s, t'')
      look_back q s t'' b =
          let c = attempt_in_blocked (with_locks t) t t' (lock_object t.index l.oid owner) e q in
          ap (turned t) (last_back t p k owner l f ne c.0) ∙ ap (λ (x : Tables). turned x (back_on x p k)) (sym c.1) ∙ b

      pub look_took : {x : ⊤} → r ≡ Ok x → turned t (last_on t p k owner) ≡ (turn_says (Ok (Advanced (CopyLast p l.oid))), t')
      unfolding turn_tells turn_leaves
      look_took q =
          let d = attempt_in_done (with_locks t) t t' (lock_object t.index l.oid owner) e q in
          ap (turned t) (last_took t p k owner l f ne d.0 d.1) ∙ ap (λ (x : Tables). (turn_says (Ok (Advanced (CopyLast p l.oid))), x)) d.2
