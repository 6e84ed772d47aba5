-- Laws of outcomes: who was told the number knows the outcome, and what a `done` at the end says of each test on the way.
use mathlib.Core.Path.{◌≡◌, refl, sym, ap, ◌∙◌}
use mathlib.Core.Bool.{Bool, true, false}
use mathlib.Core.List.{List}
use Prim.Native.Nat.{ℕ}
use native.Mathlib.Omega.{arith}
use Rattle.base.proofs.Table.{clash}
use Rattle.base.specs.Outcome.{Told, says, Outcome, corrupt, blocked, done, need, awaits, and_then, tells, leaves, ended}

-- ---- who was told the number knows the outcome

number_of : {s t : Told} → s ≡ t → s.number ≡ t.number
number_of e = ap (λ (r : Told). r.number) e

module _ {A : Type 0} (f : A → List ℕ) where
  pub told_corrupt : (o : Outcome A) {vs : List ℕ} → tells f o ≡ says 12 vs → o ≡ corrupt
  unfolding tells
  told_corrupt corrupt e = refl
  told_corrupt blocked e = absurd (omega (arith, number_of e))
  told_corrupt (done a) e = absurd (omega (arith, number_of e))

  pub told_blocked : (o : Outcome A) {vs : List ℕ} → tells f o ≡ says 20 vs → o ≡ blocked
  unfolding tells
  told_blocked corrupt e = absurd (omega (arith, number_of e))
  told_blocked blocked e = refl
  told_blocked (done a) e = absurd (omega (arith, number_of e))

  pub told_done : (o : Outcome A) {vs : List ℕ} → tells f o ≡ says 0 vs → (a : A) × (o ≡ done a) × (f a ≡ vs)
  unfolding tells
  told_done corrupt e = absurd (omega (arith, number_of e))
  told_done blocked e = absurd (omega (arith, number_of e))
  told_done (done a) e = (a, refl, ap (λ (r : Told). r.values) e)

module _ {A B : Type 0} (f : A → List ℕ) (g : A → B) (t t' : B) (o : Outcome A) {vs : List ℕ} where
  pub ended_corrupt : ended f g t o ≡ (says 12 vs, t') → (o ≡ corrupt) × (t' ≡ t)
  unfolding leaves
  ended_corrupt e =
      let c : o ≡ corrupt = told_corrupt f o (ap (λ (r : Told × B). r.0) e) in
      (c, sym (ap (λ (r : Told × B). r.1) e) ∙ rw c)

  pub ended_blocked : ended f g t o ≡ (says 20 vs, t') → (o ≡ blocked) × (t' ≡ t)
  unfolding leaves
  ended_blocked e =
      let c : o ≡ blocked = told_blocked f o (ap (λ (r : Told × B). r.0) e) in
      (c, sym (ap (λ (r : Told × B). r.1) e) ∙ rw c)

  pub ended_done : ended f g t o ≡ (says 0 vs, t') → (a : A) × (o ≡ done a) × (f a ≡ vs) × (g a ≡ t')
  unfolding leaves
  ended_done e =
      let d = told_done f o (ap (λ (r : Told × B). r.0) e) in
      (d.0, d.1, d.2, sym (ap (leaves g t) d.1) ∙ ap (λ (r : Told × B). r.1) e)

-- ---- what a `done` at the end says of each test on the way

pub done_one : {A : Type 0} {a b : A} → done a ≡ done b → a ≡ b
done_one e = cc

pub need_done : {A : Type 0} {a : A} (b : Bool) (k : Outcome A) → need b k ≡ done a → (b ≡ true) × (k ≡ done a)
unfolding need
need_done true k e = (refl, e)
need_done false k e = clash (cc)

pub awaits_done : {A : Type 0} {a : A} (b : Bool) (k : Outcome A) → awaits b k ≡ done a → (b ≡ true) × (k ≡ done a)
unfolding awaits
awaits_done true k e = (refl, e)
awaits_done false k e = clash (cc)

pub then_done : {A B : Type 0} {b : B} (o : Outcome A) (k : A → Outcome B) → and_then o k ≡ done b → (a : A) × (o ≡ done a) × (k a ≡ done b)
unfolding and_then
then_done corrupt k e = clash (cc)
then_done blocked k e = clash (cc)
then_done (done a) k e = (a, refl, e)

-- and the way to a `done`
pub need_true : {A : Type 0} (b : Bool) (k : Outcome A) → b ≡ true → need b k ≡ k
unfolding need
need_true b k e = rw e

pub awaits_true : {A : Type 0} (b : Bool) (k : Outcome A) → b ≡ true → awaits b k ≡ k
unfolding awaits
awaits_true b k e = rw e

pub then_true : {A B : Type 0} {a : A} (o : Outcome A) (k : A → Outcome B) → o ≡ done a → and_then o k ≡ k a
unfolding and_then
then_true o k e = rw e
