-- Stages 4 and 5 on all tables: one law for each end, by how the operations that they are made of ended.
use mathlib.Core.Path.{◌≡◌, sym}
use Rattle.std.specs.Prelude.{Option, None, Some, Ok, Err, ⊤}
use Prim.Native.Nat.{ℕ}
use Rattle.base.specs.Outcome.{Outcome, corrupt, done, and_then, tells, nothing, ended}
use Rattle.base.specs.Answer.{outcome_of}
use Rattle.base.specs.declared.Corrupt.{Corrupt}
use Rattle.base.specs.declared.Stop.TheVariants.{Corrupt as StopCorrupt}
use Rattle.base.specs.Step.{said, turned}
use Rattle.base.specs.Table.{both}
use Rattle.layout.specs.declared.place.Place.{Place}
use Rattle.slots.specs.Tuple.{Tuples, copy}
use Rattle.tables.specs.Tables.{Tables, with_tuples}
use Rattle.cells.specs.Chain.{Lowering}
use Rattle.cells.specs.On.{last_on, lower_on, with_lowering}
use Rattle.cells.specs.declared.Last.{Last}
use Rattle.base.proofs.Turns.{halts, moves}
use Rattle.stage.specs.Turn.{turn_says}
use Rattle.stage.specs.declared.Stage.TheVariants.{LowerCount}
use Rattle.stage.specs.declared.Turn.TheVariants.{Advanced}
use Rattle.stage.proofs.After.{change_refused, change_made}
use Rattle.erase.specs.Erase.{after_lowering, stage4, stage5}
use Rattle.erase.specs.On.{stage4_on, with_lowered, stage5_on}

module _ (t t' : Tables) (p : Place) (m : ℕ) where
  -- stage 4: as last_tuple and copy_slot end
  pub copy_none : last_on t p.cell ≡ corrupt → t' ≡ t → turned t (stage4_on t p m) ≡ (said 12 None, t')
  unfolding stage4 and_then
  copy_none e q = halts (with_tuples t) t (stage4 t.first t.count t.tuples p m) t' (rw e) q

  module _ (l : Last) (e : last_on t p.cell ≡ done l) where
    abbrev copying : Outcome Tuples
    copying = copy t.tuples l.bucket l.slot p.bucket p.slot

    pub copy_lost : {x : Corrupt} → ended nothing (with_tuples t) t copying ≡ (tells nothing (outcome_of {A = ⊤} (Err x)), t')
        → turned t (stage4_on t p m) ≡ (turn_says (Err StopCorrupt), t')
    unfolding stage4 and_then
    copy_lost {x} f = rw e (change_refused (with_tuples t) t t' copying (LowerCount p m) x f)

    pub copied : {x : ⊤} → ended nothing (with_tuples t) t copying ≡ (tells nothing (done x), t')
        → turned t (stage4_on t p m) ≡ (turn_says (Ok (Advanced (LowerCount p m))), t')
    unfolding stage4 and_then
    copied {x} f = rw e (change_made (with_tuples t) t t' copying (LowerCount p m) x f)

  -- stage 5: as lower_count ends
  pub lower_lost : lower_on t p.cell ≡ corrupt → t' ≡ t → turned t (stage5_on t p m) ≡ (said 12 None, t')
  unfolding stage5 and_then
  lower_lost e q = halts (with_lowered t) t (stage5 t.first t.count t.next p m) t' (rw e) q

  pub lower_done : (u : Option ℕ) (l : Lowering) → lower_on t p.cell ≡ done l → l.unlinked ≡ u → with_lowering t l ≡ t' → turned t (stage5_on t p m) ≡ (said 0 (Some (after_lowering p m u)), t')
  unfolding stage5 and_then
  lower_done u l e f q = moves (with_lowered t) t (stage5 t.first t.count t.next p m) t' 0 (after_lowering p m u) (both l.first l.count) (rw (e, f)) (sym q)
