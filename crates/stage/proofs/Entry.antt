-- Going on at the entry of an object, for who asked the search whether it found the object.
use mathlib.Core.Path.{◌≡◌, sym, ◌∙◌}
use Prim.Native.Nat.{ℕ}
use Rattle.base.specs.Outcome.{Outcome, corrupt, done}
use Rattle.index.specs.Search.{found_at}
use Rattle.index.specs.declared.search.Search.{Search}
use Rattle.index.specs.declared.search.Search.TheVariants.{Found, Empty}
use Rattle.index.proofs.Found.{found_there, found_nowhere}
use Rattle.stage.specs.Turn.{at_entry}

-- s: the search as the code has it, t: as the definition has it; where the search is taken apart
module _ {A : Type 0} (k : ℕ → Outcome A) where
  pub entry_none : (s t : Search) {i : ℕ} → s ≡ t → s ≡ Empty i → at_entry t k ≡ corrupt
  unfolding at_entry
  entry_none s t q e = rw (← q, e)

  pub entry_at : (s t : Search) {i : ℕ} → s ≡ t → s ≡ Found i → at_entry t k ≡ k i
  unfolding at_entry
  entry_at s t q e = rw (← q, e)

-- the same where the entry was asked for
module _ {A : Type 0} (k : ℕ → Outcome A) where
  pub entry_missing : (s t : Search) → s ≡ t → corrupt ≡ found_at s → at_entry t k ≡ corrupt
  entry_missing s t q e = entry_none k s t q (found_nowhere s e).1

  pub entry_found : (s t : Search) {i : ℕ} → s ≡ t → done i ≡ found_at s → at_entry t k ≡ k i
  entry_found s t q e = entry_at k s t q (found_there s e)

-- and where it is
pub entry_is : (s t : Search) {i : ℕ} → s ≡ t → done i ≡ found_at s → t ≡ Found i
entry_is s t q e = sym q ∙ found_there s e

-- and that it is nowhere
pub entry_lost : (s t : Search) → s ≡ t → corrupt ≡ found_at s → (i : ℕ) × (t ≡ Empty i)
entry_lost s t q e =
    let f = found_nowhere s e in
    (f.0, sym q ∙ f.1)
