-- Who holds the answer of encode_place, decode_place or next_cell knows how `encode`, `decode` or `next` ended.
-- Each law takes the answer by its case.
use mathlib.Core.Path.{◌≡◌, refl, sym, ap, ◌∙◌}
use mathlib.Core.List.{List, [], ◌∷◌}
use Prim.Native.Nat.{ℕ}
use Rattle.std.specs.Prelude.{Option, None, Some, Result, Ok, Err}
use Rattle.base.specs.Answer.{outcome_of}
use Rattle.base.specs.Outcome.{Outcome, corrupt, done, one}
use Rattle.base.specs.declared.Corrupt.{Corrupt}
use Rattle.base.proofs.Table.{clash}
use Rattle.layout.specs.declared.place.Place.{Place}
use Rattle.layout.specs.declared.question.Visit.{Visit}

-- ---- the number of a place

module _ (o : Outcome ℕ) (r : Result ℕ Corrupt) (e : outcome_of r ≡ o) where
  -- encode_place answered corrupt: `encode` ended so
  pub number_corrupt : {x : Corrupt} → r ≡ Err x → o ≡ corrupt
  number_corrupt q = sym e ∙ ap outcome_of q

  -- encode_place answered a number: `encode` came to it
  pub number_done : (n : ℕ) → r ≡ Ok n → o ≡ done n
  number_done n q = sym e ∙ ap outcome_of q

-- ---- the place of a number

module _ (o : Outcome (Option Place)) where
  -- decode_place answered corrupt: `decode` ended so
  pub read_corrupt : (r : Result (Option Place) Corrupt) → outcome_of r ≡ o → {x : Corrupt} → r ≡ Err x → o ≡ corrupt
  read_corrupt r e q = sym e ∙ ap outcome_of q

  -- decode_place did not answer corrupt: `decode` came to what it answered
  pub read_done : (r : Result (Option Place) Corrupt) → outcome_of r ≡ o → ((x : Corrupt) → r ≡ Err x → ⊥) → (p : Option Place) × (o ≡ done p) × (r ≡ Ok p)
  read_done (Ok p) e h = (p, sym e, refl)
  read_done (Err x) e h = absurd (h x refl)

  -- decode_place answered no place
  pub read_nowhere : (r : Result (Option Place) Corrupt) → outcome_of r ≡ o → r ≡ Ok None → o ≡ done None
  read_nowhere r e q = sym e ∙ ap outcome_of q

  -- decode_place answered a place
  pub read_at : (r : Result (Option Place) Corrupt) (p : Place) → outcome_of r ≡ o → r ≡ Ok (Some p) → o ≡ done (Some p)
  read_at r p e q = sym e ∙ ap outcome_of q

-- ---- the cell after one

module _ (o : Outcome (Option Visit)) {r : Result (Option Visit) Corrupt} (e : outcome_of r ≡ o) where
  -- next_cell answered corrupt, the end, or a cell: `next` came to it
  pub next_broken : {x : Corrupt} → r ≡ Err x → o ≡ corrupt
  next_broken q = sym e ∙ ap outcome_of q

  pub next_end : r ≡ Ok None → o ≡ done None
  next_end q = sym e ∙ ap outcome_of q

  pub next_cell : (v : Visit) → r ≡ Ok (Some v) → o ≡ done (Some v)
  next_cell v q = sym e ∙ ap outcome_of q

-- ---- the values of an answer, in document 01's terms

abbrev pub place_list : Place → List ℕ
place_list p = p.cell ∷ p.bucket ∷ p.slot ∷ []

abbrev pub place_values : Option Place → List ℕ
place_values None = []
place_values (Some p) = place_list p

-- they tell which place it is, or that it is none
pub place_values_lem : (q : Option Place) (p : Place) → place_values q ≡ place_list p → q ≡ Some p
place_values_lem None p e = clash (cc)
place_values_lem (Some q) p e =
    let c : q.cell ≡ p.cell = cc in
    let b : q.bucket ≡ p.bucket = cc in
    let s : q.slot ≡ p.slot = cc in
    ap Some (λ i. record { cell = c i; bucket = b i; slot = s i })

pub no_values : (q : Option Place) → place_values q ≡ [] → q ≡ None
no_values None e = refl
no_values (Some q) e = clash (cc)

abbrev pub visit_values : Option Visit → List ℕ
visit_values None = []
visit_values (Some v) = one v.cell

-- they tell which cell it is, or that it is none
pub visit_values_lem : (v : Option Visit) (w : Visit) → visit_values v ≡ one w.cell → v ≡ Some w
visit_values_lem None w e = clash (cc)
visit_values_lem (Some v) w e = let c : v.cell ≡ w.cell = cc in ap Some (λ i. record { cell = c i })

pub no_visit : (v : Option Visit) → visit_values v ≡ [] → v ≡ None
no_visit None e = refl
no_visit (Some v) e = clash (cc)
