-- fill_table leaves the value everywhere: each call of the closure gives it.
use mathlib.Core.Path.{◌≡◌, refl, subst, ap, ◌∙◌}
use mathlib.Core.List.{List, [], ◌∷◌}
use lib.ListN.{length, replicate}
use Rattle.std.proofs.Common.{rules}
use Rattle.std.specs.List.{FoldsTo}
use Rattle.tables.proofs.fill.fill_table.Goals as goal

same : {P X : Type 0} (R : P → X → P → Type 0) (v : X) (p : P) → ((x : X) (q : P) → R p x q → (x ≡ v) × (q ≡ p)) → (xs : List X) (q : P) → FoldsTo R p xs q → xs ≡ replicate (length xs) v
same R v p h [] q f = refl
same R v p h (x ∷ xs) q (j, r, f) =
    let s = h x j r in
    let t = same R v p h xs q (subst (λ (i : _). FoldsTo R i xs q) s.1 f) in
    λ i. s.0 i ∷ t i

pub returns : goal.returns
returns g c =
    let e = same _ c.args.value _ (λ x q k. search rules) c.fill_with.new.self _ c.fill_with.ensures.ran.1 in
    e ∙ ap (λ n. replicate n c.args.value) c.fill_with.ensures.len
