-- THE NUMBERS OF A REWIND, for all tables, right or broken, and all lanes. It gives the number of the first cause that
-- holds, and else 0. A refused one changes nothing; an accepted one winds every slot and the clock back, and nothing
-- else. Each by going past the two tests.
use mathlib.Core.Path.{◌≡◌, refl, ap, ◌∙◌}
use mathlib.Core.Logic.{◌≢◌}
use mathlib.Core.Bool.{true}
use mathlib.Core.List.{List}
use Prim.Native.Nat.{ℕ}
use native.Mathlib.Omega.{arith}
use lib.IntN.{ℤ}
use Rattle.stage.specs.declared.Updater.{Updater}
use Rattle.query.specs.declared.Query.{Query}
use Rattle.tables.specs.Tables.{Tables}
use Rattle.calls.specs.Call.{answered, After, after, Same}
use Rattle.calls.specs.Causes.{first_cause}
use Rattle.calls.proofs.Tests.{number_unless, same_unless, past_unless}
use Rattle.rest.specs.Rest.{is_at_rest}
use Rattle.rest.proofs.Facts.{at_rest_facts}
use Rattle.rewind.specs.Causes.{rewind_causes}
use Rattle.rewind.specs.Leaves.{stamp, WoundBack}
use Rattle.rewind.specs.Rewind.{wound_stamp, wound_tables, rewind_tables}
use Rattle.rewind.proofs.Returns.{wound}
use Rattle.rewind.proofs.Winding.{map_at, clock_above, clock_below}

module _ (t : Tables) (us : List Updater) (qs : List Query) where
  -- an answer has its number
  number_answered : (t' : Tables) → (after t (tt {0}) (answered 0 t' tt)).number ≡ 0
  unfolding after
  number_answered t' = refl

  -- THE NUMBER: that of the first cause that holds, and else 0.
  pub rewind_number : (wound t us qs).number ≡ first_cause (rewind_causes t us qs) 0
  unfolding rewind_tables first_cause rewind_causes
  rewind_number = simp (number_unless, number_answered)

  -- A REFUSED REWIND CHANGES NOTHING: any number but 0 comes from a test.
  pub rewind_refused : (wound t us qs).number ≢ 0 → Same t tt (wound t us qs)
  unfolding rewind_tables
  rewind_refused =
      let past = same_unless t (tt {0}) (λ (n : ℕ). n ≢ 0) in
      past _ _ _ (past _ _ _ (λ h. absurd (h (number_answered _))))

  slot : (i : ℕ) {z : ℤ} → stamp t i ≡ z → stamp (wound_tables t) i ≡ wound_stamp z
  unfolding wound_tables
  slot i e = map_at t.tuples.time i ∙ ap wound_stamp e

  -- past the last test
  wound_in : is_at_rest us qs ≡ true → WoundBack t us qs (after t (tt {0}) (answered 0 (wound_tables t) tt)).tables
  unfolding after wound_tables wound_stamp
  wound_in r = record {
    resting = at_rest_facts us qs r;
    above = λ i n e. slot i e;
    below = λ i n e. slot i e;
    never = λ i e. slot i e;
    clock = λ h. clock_above t.clock h;
    early = λ h. clock_below t.clock h;
    rest = refl;
  }

  -- AN ACCEPTED REWIND winds every stamp and the clock back; nothing else changes.
  pub rewind_accepted : (wound t us qs).number ≡ 0 → WoundBack t us qs (wound t us qs).tables
  unfolding rewind_tables
  rewind_accepted =
      let past = past_unless t (tt {0}) (λ (a : After (Unit {0})). WoundBack t us qs a.tables) in
      past _ _ _ (λ e. omega arith) (λ _. past _ _ _ (λ e. omega arith) (λ r _. wound_in r))

  -- so does one for whose refusal there is no cause
  pub rewind_free : first_cause (rewind_causes t us qs) 0 ≡ 0 → WoundBack t us qs (wound t us qs).tables
  rewind_free e = rewind_accepted (rewind_number ∙ e)
