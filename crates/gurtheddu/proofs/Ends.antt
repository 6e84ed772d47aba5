-- How a start and a clearing end, of lanes of any kind: refused with a number that is not 0, or let in with 0 and a lane
-- that is known beforehand; the lane is stored only if it is let in.
use mathlib.Core.Path.{◌≡◌, sym, ap, ◌∙◌}
use mathlib.Core.Logic.{◌≢◌}
use mathlib.Core.Bool.{Bool, true, false}
use mathlib.Core.List.{List}
use Prim.Native.Nat.{ℕ}
use Rattle.tables.specs.Tables.{Tables}
use Rattle.calls.specs.Call.{Result, refused, answered, After, after, after_of, unless}
use Rattle.gurtheddu.specs.Coded.{coded}

-- refused with a number that is not 0, or let in with the lane w
pub data Starting {L : Type 0} (w : L) : Result L → Type 0 where
  away : {n : ℕ} → n ≢ 0 → Starting w (refused n)
  let_in : {t : Tables} → Starting w (answered 0 t w)

pub past : {L : Type 0} {w : L} (b : Bool) (n : ℕ) (k : Result L) → n ≢ 0 → Starting w k → Starting w (unless b n k)
unfolding unless
past true n k z s = s
past false n k z s = away z

module _ {L : Type 0} (w : L) (store : L → List ℕ) (t : Tables) (u : L) (ns : List ℕ) where
  -- a call that is refused
  pub start_away : (r : Result L) → Starting w r → (n : ℕ) (t' : Tables) (v : L) → after t u r ≡ after_of n t' v → n ≢ 0
      → after t ns (coded store r) ≡ after_of n t' ns
  unfolding after coded
  start_away (refused m) s n t' v e z = ap (λ (a : After L). after_of a.number a.tables ns) e
  start_away (answered m t'' x) let_in n t' v e z = absurd (z (sym (ap (λ (a : After L). a.number) e)))

  -- and one that is let in: it leaves w
  pub start_done : (r : Result L) → Starting w r → (n : ℕ) (t' : Tables) (v : L) → after t u r ≡ after_of n t' v → n ≡ 0
      → (after t ns (coded store r) ≡ after_of 0 t' (store w)) × (v ≡ w)
  unfolding after coded
  start_done (refused m) (away i) n t' v e z = absurd (i (ap (λ (a : After L). a.number) e ∙ z))
  start_done (answered m t'' x) let_in n t' v e z =
      (ap (λ (a : After L). after_of 0 a.tables (store w)) e, sym (ap (λ (a : After L). a.lanes) e))

-- the same of the lane that the call leaves, whichever that is
module _ {L : Type 0} {w : L} (store : L → List ℕ) (t : Tables) (u : L) (ns : List ℕ) (n : ℕ) (t' : Tables) (v : L) where
  pub sent_away : (r : Result L) → Starting w r → after t u r ≡ after_of n t' v → n ≢ 0
      → after t ns (coded store r) ≡ after_of n t' ns
  sent_away r s e z = start_away w store t u ns r s n t' v e z

  pub stored : (r : Result L) → Starting w r → after t u r ≡ after_of n t' v → n ≡ 0
      → after t ns (coded store r) ≡ after_of n t' (store v)
  stored r s e z =
      let d = start_done w store t u ns r s n t' v e z in
      d.0 ∙ ap (λ (m : ℕ). after_of m t' (store w)) (sym z) ∙ ap (λ (x : L). after_of n t' (store x)) (sym d.1)
