-- What a rewind comes to, one law for each way; the front of a table wound back, entry by entry; and one stamp by its
-- sign.
use mathlib.Core.Path.{◌≡◌, refl, sym, ap, ◌∙◌}
use mathlib.Core.Bool.{true, false}
use mathlib.Core.List.{List, [], ◌∷◌, map}
use Prim.Native.Nat.{ℕ, zero, suc, ◌+◌, ◌<◌, ◌≤◌}
use native.Mathlib.Numerals.{add-one}
use native.Mathlib.Omega.{arith}
use lib.IntN.{ℤ, pos, negsuc}
use lib.ListN.{length, get_or, set}
use lib.Signed.{lt_z}
use borrow.Author.Tests.{lt-ltb, le-ltb}
use Rattle.base.proofs.Table.{clash}
use Rattle.stage.specs.declared.Updater.{Updater}
use Rattle.query.specs.declared.Query.{Query}
use Rattle.tables.specs.Tables.{Tables, right_lengths}
use Rattle.calls.specs.Call.{after, after_of, unless}
use Rattle.rest.specs.Rest.{is_at_rest}
use Rattle.rewind.specs.Rewind.{wound_stamp, wound_tables, rewind_tables}
use Rattle.rewind.proofs.Returns.{wound}

-- ---- what a rewind comes to

module _ (t : Tables) (us : List Updater) (qs : List Query) where
  pub wrong_length : right_lengths t ≡ false → wound t us qs ≡ after_of 12 t tt
  unfolding rewind_tables unless after
  wrong_length e = rw e

  pub in_motion : right_lengths t ≡ true → is_at_rest us qs ≡ false → wound t us qs ≡ after_of 30 t tt
  unfolding rewind_tables unless after
  in_motion e r = rw (e, r)

  pub wound_back : right_lengths t ≡ true → is_at_rest us qs ≡ true → (t' : Tables) → wound_tables t ≡ t'
      → wound t us qs ≡ after_of 0 t' tt
  unfolding rewind_tables unless after
  wound_back e r t' z = rw (e, r, z)

-- ---- entry by entry

-- the first i entries wound back
unfoldable pub wound_to : ℕ → List ℤ → List ℤ
wound_to zero l = l
wound_to (suc i) [] = []
wound_to (suc i) (z ∷ l) = wound_stamp z ∷ wound_to i l

pub wound_none : (l : List ℤ) → l ≡ wound_to 0 l
unfolding wound_to
wound_none l = refl

pub wound_length : (i : ℕ) (l : List ℤ) → length (wound_to i l) ≡ length l
unfolding wound_to
wound_length zero l = refl
wound_length (suc i) [] = refl
wound_length (suc i) (z ∷ l) = ap suc (wound_length i l)

-- the next entry is still the old one
pub wound_at : (i : ℕ) (l : List ℤ) → get_or (wound_to i l) i (pos 0) ≡ get_or l i (pos 0)
unfolding wound_to
wound_at zero l = refl
wound_at (suc i) [] = refl
wound_at (suc i) (z ∷ l) = wound_at i l

more : (i : ℕ) (l : List ℤ) → i < length l
    → set (wound_to i l) i (wound_stamp (get_or l i (pos 0))) ≡ wound_to (suc i) l
unfolding wound_to
more zero [] h = absurd (omega arith)
more zero (z ∷ l) h = refl
more (suc i) [] h = absurd (omega arith)
more (suc i) (z ∷ l) h = ap (λ (k : List ℤ). wound_stamp z ∷ k) (more i l (omega arith))

pub wound_to_more : (i : ℕ) (l t : List ℤ) (v : ℤ) → t ≡ wound_to i l → i < length t
    → v ≡ wound_stamp (get_or t i (pos 0)) → set t i v ≡ wound_to (i + 1) l
wound_to_more i l t v e h w =
    let n = wound_length i l in
    let k : i < length (wound_to i l) = rw e at h in
    let m : i < length l = omega arith in
    rw (add-one i, w, e, wound_at i l) (more i l m)

all : (l : List ℤ) → wound_to (length l) l ≡ map wound_stamp l
unfolding wound_to
all [] = refl
all (z ∷ l) = ap (λ (k : List ℤ). wound_stamp z ∷ k) (all l)

pub wound_all : (i : ℕ) (l t : List ℤ) → t ≡ wound_to i l → i ≤ length l → length t ≤ i → t ≡ map wound_stamp l
wound_all i l t e h k =
    let n : i ≡ length l = omega (arith, ap (λ (x : List ℤ). length x) e, wound_length i l) in
    e ∙ ap (λ (j : ℕ). wound_to j l) n ∙ all l

-- ---- one stamp

pub stamp_above : (z : ℤ) → lt_z (pos 0) z ≡ true → wound_stamp z ≡ pos 1
unfolding wound_stamp
stamp_above (pos zero) e = clash (let w : false ≡ true = e in cc)
stamp_above (pos (suc n)) e = refl
stamp_above (negsuc n) e = clash (let w : false ≡ true = e in cc)

pub stamp_below : (z : ℤ) → lt_z z (pos 0) ≡ true → wound_stamp z ≡ negsuc 0
unfolding wound_stamp
stamp_below (pos n) e = clash (let w : false ≡ true = sym (le-ltb n 0 (omega arith)) ∙ e in cc)
stamp_below (negsuc n) e = refl

pub stamp-zero : (z : ℤ) → lt_z (pos 0) z ≡ false → lt_z z (pos 0) ≡ false → wound_stamp z ≡ pos 0
unfolding wound_stamp
stamp-zero (pos zero) e f = refl
stamp-zero (pos (suc n)) e f = clash (let w : true ≡ false = sym (lt-ltb 0 (suc n) (omega arith)) ∙ e in cc)
stamp-zero (negsuc n) e f = clash (let w : true ≡ false = f in cc)
