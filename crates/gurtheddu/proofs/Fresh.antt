-- A reset over variable tables and lanes: by the number that the reset of the grid gives, and over tables of the right
-- lengths.
use mathlib.Core.Path.{◌≡◌, refl, sym, ap}
use mathlib.Core.Logic.{◌≢◌}
use mathlib.Core.Bool.{Bool, true, false}
use mathlib.Core.List.{List}
use Prim.Native.Nat.{ℕ}
use native.Mathlib.Omega.{arith}
use lib.IntN.{ℤ}
use lib.ListN.{length, replicate}
use Rattle.words.specs.Map.{WORDS, TIMES}
use Rattle.tables.specs.Tables.{Tables, right_lengths, empty_tables}
use Rattle.tables.specs.Grid.{grid}
use Rattle.tables.proofs.Grid.{right_words_lem}
use Rattle.stage.specs.declared.Updater.{Updater}
use Rattle.query.specs.declared.Query.{Query}
use Rattle.calls.specs.Call.{After, after, after_of, unless}
use Rattle.grid.specs.Grid.{Lanes, lanes_of as lanes_in, reset_grid}
use Rattle.gurtheddu.specs.Coded.{reset_deck, lanes_of}

module _ (t : Tables) (us qs : List ℕ) (ua ub : List Updater) (qa qb : List Query) (n : ℕ) (t' : Tables)
    (e : after t (lanes_in ua qa) (reset_grid t) ≡ after_of n t' (lanes_in ub qb)) where
  right : (b : Bool) → right_lengths t ≡ b → n ≡ 0 → (b ≡ true) × (t' ≡ empty_tables)
  unfolding reset_grid unless after
  right true s z = (refl, sym (ap (λ (a : After Lanes). a.tables) (rw s at e)))
  right false s z = let f : 12 ≡ n = ap (λ (a : After Lanes). a.number) (rw s at e) in absurd (omega arith)

  wrong : (b : Bool) → right_lengths t ≡ b → n ≢ 0 → (b ≡ false) × (n ≡ 12) × (t' ≡ t)
  unfolding reset_grid unless after
  wrong true s z = absurd (z (sym (ap (λ (a : After Lanes). a.number) (rw s at e))))
  wrong false s z =
      (refl, sym (ap (λ (a : After Lanes). a.number) (rw s at e)), sym (ap (λ (a : After Lanes). a.tables) (rw s at e)))

  pub reset_refused : n ≢ 0 → after t (lanes_of us qs) (reset_deck t (lanes_of us qs)) ≡ after_of n t' (lanes_of us qs)
  unfolding reset_deck unless after
  reset_refused z = let w = wrong (right_lengths t) refl z in rw (w.0, w.1, w.2)

  pub reset_empties : n ≡ 0 → (us' qs' : List ℕ) → us' ≡ replicate (length us) 0 → qs' ≡ replicate (length qs) 0
      → after t (lanes_of us qs) (reset_deck t (lanes_of us qs)) ≡ after_of 0 t' (lanes_of us' qs')
  unfolding reset_deck unless after
  reset_empties z us' qs' hu hq = let w = right (right_lengths t) refl z in rw (w.0, w.1, hu, hq)

pub reset_done : (w : List ℕ) (ts : List ℤ) → length w ≡ WORDS → length ts ≡ TIMES → (us qs : List ℕ) (t' : Tables)
    → t' ≡ empty_tables
    → (us' qs' : List ℕ) → us' ≡ replicate (length us) 0 → qs' ≡ replicate (length qs) 0
    → after (grid w ts) (lanes_of us qs) (reset_deck (grid w ts) (lanes_of us qs)) ≡ after_of 0 t' (lanes_of us' qs')
unfolding reset_deck unless after
reset_done w ts w# t# us qs t' e us' qs' hu hq = rw (right_words_lem w ts w# t#, e, hu, hq)
