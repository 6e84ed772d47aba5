-- Laws of answers: who called a function and knows its answer knows the outcome.
use mathlib.Core.Path.{◌≡◌, refl, sym, ap, ◌∙◌}
use Rattle.std.specs.Prelude.{Result, Ok, Err, ⊤}
use Prim.Native.Nat.{ℕ}
use mathlib.Core.List.{List}
use Rattle.base.specs.Outcome.{Outcome, corrupt, blocked, done, and_then, outcome_map, tells, leaves, ended, nothing}
use Rattle.base.proofs.Outcome.{told_corrupt, told_blocked, ended_corrupt, ended_blocked, ended_done}
use Rattle.base.proofs.Table.{clash}
use Rattle.base.specs.declared.Corrupt.{Corrupt}
use Rattle.base.specs.declared.Stop.{Stop}
use Rattle.base.specs.declared.Stop.TheVariants.{Corrupt as StopCorrupt, Blocked}
use Rattle.base.specs.Answer.{outcome_of, attempt_of}
use Rattle.base.specs.Promise.{Gives}

module _ {A : Type 0} (t t' : A) (o : Outcome A) {r : Result ⊤ Corrupt} (e : ended nothing (λ (x : A). x) t o ≡ (tells nothing (outcome_of r), t')) where
  pub changed_corrupt : {x : Corrupt} → r ≡ Err x → (o ≡ corrupt) × (t' ≡ t)
  unfolding tells
  changed_corrupt q = ended_corrupt nothing (λ (x : A). x) t t' o (rw q at e)

  pub changed_done : {x : ⊤} → r ≡ Ok x → o ≡ done t'
  unfolding tells
  changed_done q = let d = ended_done nothing (λ (x : A). x) t t' o (rw q at e) in d.1 ∙ ap done d.3

module _ {A : Type 0} (t t' : A) (o : Outcome A) {r : Result ⊤ Stop} (e : ended nothing (λ (x : A). x) t o ≡ (tells nothing (attempt_of r), t')) where
  pub attempt_corrupt : r ≡ Err StopCorrupt → (o ≡ corrupt) × (t' ≡ t)
  unfolding tells
  attempt_corrupt q = ended_corrupt nothing (λ (x : A). x) t t' o (rw q at e)

  pub attempt_blocked : r ≡ Err Blocked → (o ≡ blocked) × (t' ≡ t)
  unfolding tells
  attempt_blocked q = ended_blocked nothing (λ (x : A). x) t t' o (rw q at e)

  pub attempt_done : {x : ⊤} → r ≡ Ok x → o ≡ done t'
  unfolding tells
  attempt_done q = let d = ended_done nothing (λ (x : A). x) t t' o (rw q at e) in d.1 ∙ ap done d.3

-- the same of a change of a part of t, which g puts in its place
module _ {A B : Type 0} (g : A → B) (t t' : B) (o : Outcome A) {r : Result ⊤ Corrupt} (e : ended nothing g t o ≡ (tells nothing (outcome_of r), t')) where
  pub changed_in_corrupt : {x : Corrupt} → r ≡ Err x → (o ≡ corrupt) × (t' ≡ t)
  unfolding tells
  changed_in_corrupt q = ended_corrupt nothing g t t' o (rw q at e)

  pub changed_in_done : {x : ⊤} → r ≡ Ok x → (a : A) × (o ≡ done a) × (g a ≡ t')
  unfolding tells
  changed_in_done q = let d = ended_done nothing g t t' o (rw q at e) in (d.0, d.1, d.3)

module _ {A B : Type 0} (g : A → B) (t t' : B) (o : Outcome A) {r : Result ⊤ Stop} (e : ended nothing g t o ≡ (tells nothing (attempt_of r), t')) where
  pub attempt_in_corrupt : r ≡ Err StopCorrupt → (o ≡ corrupt) × (t' ≡ t)
  unfolding tells
  attempt_in_corrupt q = ended_corrupt nothing g t t' o (rw q at e)

  pub attempt_in_blocked : r ≡ Err Blocked → (o ≡ blocked) × (t' ≡ t)
  unfolding tells
  attempt_in_blocked q = ended_blocked nothing g t t' o (rw q at e)

  pub attempt_in_done : {x : ⊤} → r ≡ Ok x → (a : A) × (o ≡ done a) × (g a ≡ t')
  unfolding tells
  attempt_in_done q = let d = ended_done nothing g t t' o (rw q at e) in (d.0, d.1, d.3)

-- ---- a change that hands back a value

module _ {A B : Type 0} (f : A → B) where
  pub mapped_corrupt : (o : Outcome A) → outcome_map f o ≡ corrupt → o ≡ corrupt
  unfolding outcome_map
  mapped_corrupt corrupt e = refl
  mapped_corrupt blocked e = clash (cc)
  mapped_corrupt (done a) e = clash (cc)

  pub mapped_done : (o : Outcome A) {b : B} → outcome_map f o ≡ done b → (a : A) × (o ≡ done a) × (f a ≡ b)
  unfolding outcome_map
  mapped_done corrupt e = clash (cc)
  mapped_done blocked e = clash (cc)
  mapped_done (done a) e = (a, refl, cc)

module _ {A V T : Type 0} (value : A → V) (put : A → T) (t t' : T) (o : Outcome A) {r : Result V Corrupt} (e : Gives value put t o r t') where
  pub gave_corrupt : {x : Corrupt} → r ≡ Err x → (o ≡ corrupt) × (t' ≡ t)
  unfolding leaves
  gave_corrupt q =
      let c : o ≡ corrupt = mapped_corrupt value o (ap (λ (p : Outcome V × T). p.0) (rw q at e)) in
      (c, sym (ap (λ (p : Outcome V × T). p.1) e) ∙ rw c)

  pub gave_done : {v : V} → r ≡ Ok v → (a : A) × (o ≡ done a) × (value a ≡ v) × (put a ≡ t')
  unfolding leaves
  gave_done q =
      let d = mapped_done value o (ap (λ (p : Outcome V × T). p.0) (rw q at e)) in
      (d.0, d.1, d.2, sym (ap (leaves put t) d.1) ∙ ap (λ (p : Outcome V × T). p.1) e)

-- the way to such a promise
module _ {A V T : Type 0} (value : A → V) (put : A → T) (t : T) (o : Outcome A) (t' : T) where
  pub gives : (a : A) → o ≡ done a → t' ≡ put a → ◌≡◌ {A = Outcome V × T} (outcome_map value o, leaves put t o) (done (value a), t')
  unfolding outcome_map leaves
  gives a e p = rw e (ap (λ (u : T). (done (value a), u)) (sym p))

  pub gives_none : o ≡ corrupt → t' ≡ t → ◌≡◌ {A = Outcome V × T} (outcome_map value o, leaves put t o) (corrupt, t')
  unfolding outcome_map leaves
  gives_none e p = rw e (ap (λ (u : T). (corrupt, u)) (sym p))

-- and in document 01's terms
pub gave_tells : {A V T : Type 0} (value : A → V) (put : A → T) (t t' : T) (o : Outcome A) (r : Result V Corrupt) (f : V → List ℕ)
    → Gives value put t o r t' → ended (λ (a : A). f (value a)) put t o ≡ (tells f (outcome_of r), t')
unfolding tells outcome_map
gave_tells {V = V} {T = T} value put t t' corrupt r f e = ap (λ (p : Outcome V × T). (tells f p.0, p.1)) e
gave_tells {V = V} {T = T} value put t t' blocked r f e = ap (λ (p : Outcome V × T). (tells f p.0, p.1)) e
gave_tells {V = V} {T = T} value put t t' (done a) r f e = ap (λ (p : Outcome V × T). (tells f p.0, p.1)) e

-- ---- what is passed on by a `?`

-- a refusal or a wait at the first of two
pub stops : {A T : Type 0} (o : Outcome A) (k : A → Outcome T) (t : T) (x : Stop)
    → tells nothing o ≡ tells nothing (attempt_of {A = ⊤} (Err x)) → ended nothing (λ (u : T). u) t (and_then o k) ≡ (tells nothing (attempt_of {A = ⊤} (Err x)), t)
unfolding tells leaves and_then
stops o k t StopCorrupt e = rw (told_corrupt nothing o e)
stops o k t Blocked e = rw (told_blocked nothing o e)
