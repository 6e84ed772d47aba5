-- Stage 7 on all tables: one law for each end, by the ends of the searches, of the sign and of the place's number.
use mathlib.Core.Path.{◌≡◌, refl, ap, ◌∙◌}
use mathlib.Core.Bool.{Bool, true, false}
use mathlib.Core.Logic.{◌≢◌}
use Rattle.std.specs.Prelude.{None, Some}
use Prim.Native.Nat.{ℕ, ◌<◌, ◌≤◌}
use lib.ListN.{set}
use Rattle.base.specs.Outcome.{Outcome, corrupt, done}
use Rattle.base.specs.Step.{Said, said, turned, lift}
use Rattle.layout.specs.Place.{encode, nowhere}
use Rattle.layout.specs.declared.place.Place.{Place}
use Rattle.slots.specs.Tuple.{sign}
use Rattle.index.specs.Search.{search as sought}
use Rattle.index.specs.declared.search.Search.TheVariants.{Found, Empty}
use Rattle.tables.specs.Tables.{Tables}
use Rattle.base.proofs.Turns.{halts, moves}
use Rattle.stage.specs.Turn.{Move}
use Rattle.stage.specs.declared.Stage.{Stage}
use Rattle.stage.specs.declared.Stage.TheVariants.{ChooseCell}
use Rattle.erase.specs.Erase.{Erasing, erasing_of, stage7}
use Rattle.erase.specs.On.{erasing_in, put_erasing, moving, moved_on, stage7_on}
use Rattle.erase.proofs.Entries.{Sized, erase_missing, erase_another, erase_outside, erase_own, moving_missing, moving_unsigned, moving_outside, moving_current, moving_deleted}

-- ---- the whole stage

module _ (t : Tables) (p : Place) (m k : ℕ) where
  abbrev Ends : Said Stage → Tables → Type 0
  Ends s t' = turned t (stage7_on t p m k) ≡ (s, t')

  abbrev stage : Outcome (Move Erasing)
  stage = stage7 t.index.oid t.tuples.time (erasing_in t) p m k

  -- the object is not known
  pub unknown : {x : ℕ} → sought t.index.oid k ≡ Empty x → Ends (said 12 None) t
  unfolding stage7_on
  unknown s = halts (put_erasing t) t stage t (erase_missing t.index.oid t.tuples.time (erasing_in t) p m k s) refl

  module _ (i : ℕ) (f : sought t.index.oid k ≡ Found i) where
    -- another object's tuple moved
    pub another : m ≢ k → (s : Said Stage) (t' : Tables) → turned t (moved_on t p m i) ≡ (s, t') → Ends s t'
    unfolding stage7_on moved_on
    another n s t' e = ap (λ (o : Outcome (Move Erasing)). turned t (lift (put_erasing t) o)) (erase_another t.index.oid t.tuples.time (erasing_in t) p m k i f n) ∙ e

    module _ (S : Sized (erasing_in t)) (own : m ≡ k) (i< : i < 512) where
      -- its own did, and the cell is out of range
      pub outside : 256 ≤ p.cell → Ends (said 12 None) t
      unfolding stage7_on
      outside h = halts (put_erasing t) t stage t (erase_outside t.index.oid t.tuples.time (erasing_in t) p m k i f S own i< h) refl

      -- its own did
      pub alone : p.cell < 256 → (t' : Tables) → t' ≡ put_erasing t (erasing_of t.index.lock t.index.current (set t.index.previous i nowhere) (set t.cells p.cell 0)) → Ends (said 0 (Some ChooseCell)) t'
      unfolding stage7_on
      alone h t' e = moves (put_erasing t) t stage t' 0 ChooseCell (erasing_of t.index.lock t.index.current (set t.index.previous i nowhere) (set t.cells p.cell 0)) (erase_own t.index.oid t.tuples.time (erasing_in t) p m k i f S own i< h) e

-- ---- from the object's entry on, where another object's tuple moved

module _ (t : Tables) (p : Place) (m i : ℕ) (S : Sized (erasing_in t)) (i< : i < 512) where
  abbrev onward : Outcome (Move Erasing)
  onward = moving t.index.oid t.tuples.time (erasing_in t) p m i

  abbrev Moves : Said Stage → Tables → Type 0
  Moves s t' = turned t (moved_on t p m i) ≡ (s, t')

  -- that object is not known
  pub moved_unknown : {x : ℕ} → sought t.index.oid m ≡ Empty x → Moves (said 12 None) t
  unfolding moved_on
  moved_unknown s = halts (put_erasing t) t onward t (moving_missing t.index.oid t.tuples.time (erasing_in t) p m i S i< s) refl

  module _ (j : ℕ) (j< : j < 512) (f : sought t.index.oid m ≡ Found j) where
    -- its tuple has no stamp
    pub moved_unsigned : sign t.tuples.time p.bucket p.slot ≡ corrupt → Moves (said 12 None) t
    unfolding moved_on
    moved_unsigned g = halts (put_erasing t) t onward t (moving_unsigned t.index.oid t.tuples.time (erasing_in t) p m i S i< j j< f g) refl

    -- its tuple has one, but the place is out of range
    pub moved_outside : (b : Bool) → sign t.tuples.time p.bucket p.slot ≡ done b → encode p ≡ corrupt → Moves (said 12 None) t
    unfolding moved_on
    moved_outside b g h = halts (put_erasing t) t onward t (moving_outside t.index.oid t.tuples.time (erasing_in t) p m i S i< j j< f b g h) refl

    module _ (n : ℕ) (h : encode p ≡ done n) (t' : Tables) where
      -- its tuple is current: the current place is corrected
      pub moved_current_lem : sign t.tuples.time p.bucket p.slot ≡ done false
          → t' ≡ put_erasing t (erasing_of (set t.index.lock j 0) (set t.index.current j n) (set t.index.previous i nowhere) (set t.cells p.cell 0)) → Moves (said 0 (Some ChooseCell)) t'
      unfolding moved_on
      moved_current_lem g e = moves (put_erasing t) t onward t' 0 ChooseCell (erasing_of (set t.index.lock j 0) (set t.index.current j n) (set t.index.previous i nowhere) (set t.cells p.cell 0)) (moving_current t.index.oid t.tuples.time (erasing_in t) p m i S i< j j< f n g h) e

      -- its tuple is deleted: the previous place is corrected
      pub moved_deleted : sign t.tuples.time p.bucket p.slot ≡ done true
          → t' ≡ put_erasing t (erasing_of (set t.index.lock j 0) t.index.current (set (set t.index.previous i nowhere) j n) (set t.cells p.cell 0)) → Moves (said 0 (Some ChooseCell)) t'
      unfolding moved_on
      moved_deleted g e = moves (put_erasing t) t onward t' 0 ChooseCell (erasing_of (set t.index.lock j 0) t.index.current (set (set t.index.previous i nowhere) j n) (set t.cells p.cell 0)) (moving_deleted t.index.oid t.tuples.time (erasing_in t) p m i S i< j j< f n g h) e
