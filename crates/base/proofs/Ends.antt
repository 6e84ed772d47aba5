-- An operation's outcome on all tables, as its contract states it.
use mathlib.Core.Path.{◌≡◌, refl, sym, ap, ◌∙◌}
use mathlib.Core.List.{List, []}
use Prim.Native.Nat.{ℕ}
use Rattle.base.specs.Outcome.{Told, says, Outcome, corrupt, blocked, done, tells, leaves, ended}

module _ {A B : Type 0} (f : A → List ℕ) (g : A → B) (t : B) (o : Outcome A) where
  pub refuses : o ≡ corrupt → ended f g t o ≡ (says 12 [], t)
  unfolding tells leaves
  refuses e = rw e

  pub waits : o ≡ blocked → ended f g t o ≡ (says 20 [], t)
  unfolding tells leaves
  waits e = rw e

  pub comes : (t' : B) (a : A) → o ≡ done a → t' ≡ g a → ended f g t o ≡ (says 0 (f a), t')
  unfolding tells leaves
  comes t' a e p = rw e (ap (λ (x : B). (says 0 (f a), x)) (sym p))

-- of its own table, seen on all of them
module _ {A B : Type 0} (f : A → List ℕ) (g : A → B) (a : A) where
  leaves_in : (o : Outcome A) → leaves g (g a) o ≡ g (leaves (λ (x : A). x) a o)
  unfolding leaves
  leaves_in corrupt = refl
  leaves_in blocked = refl
  leaves_in (done b) = refl

  pub within : (o : Outcome A) (s : Told) (a' : A) (t' : B) → ended f (λ (x : A). x) a o ≡ (s, a') → t' ≡ g a' → ended f g (g a) o ≡ (s, t')
  within o s a' t' e p = rw (leaves_in o) (ap (λ (r : Told × A). (r.0, g r.1)) e ∙ ap (λ (x : B). (s, x)) (sym p))
