-- Who called take_bucket and knows its answer knows the outcome of `take_top`.
use mathlib.Core.Path.{◌≡◌, ap, ◌∙◌}
use mathlib.Core.List.{List}
use Prim.Native.Nat.{ℕ}
use Rattle.std.specs.Prelude.{Result, Ok, Err}
use Rattle.base.specs.Outcome.{done, corrupt}
use Rattle.base.specs.Promise.{Gives}
use Rattle.base.specs.declared.Corrupt.{Corrupt}
use Rattle.base.proofs.Answer.{gave_corrupt, gave_done}
use Rattle.pool.specs.Pool.{Took, take_top}

module _ (pool p : List ℕ) (r : Result ℕ Corrupt) (e : Gives (λ (t : Took). t.bucket) (λ (t : Took). t.pool) pool (take_top pool) r p) where
  pub taken_corrupt : {x : Corrupt} → r ≡ Err x → (take_top pool ≡ corrupt) × (p ≡ pool)
  taken_corrupt q = gave_corrupt (λ (t : Took). t.bucket) (λ (t : Took). t.pool) pool p (take_top pool) e q

  pub taken_bucket : (b : ℕ) → r ≡ Ok b → take_top pool ≡ done (record { bucket = b; pool = p })
  taken_bucket b q =
      let d = gave_done (λ (t : Took). t.bucket) (λ (t : Took). t.pool) pool p (take_top pool) e q in
      let same : d.0 ≡ record { bucket = b; pool = p } = λ i. record { bucket = d.2 i; pool = d.3 i } in
      d.1 ∙ ap done same
