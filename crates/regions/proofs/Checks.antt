-- What the answer of `check_region` says of the tests, and that 0 is the answer exactly of a question that is in range.
-- By cases on the three tests: different outcomes have different numbers.
use mathlib.Core.Path.{◌≡◌, refl, sym, ap, ◌∙◌}
use mathlib.Core.Bool.{Bool, true, false, ◌&&◌, and-eq-true_iff}
use mathlib.Core.List.{[]}
use mathlib.Core.Logic.{◌↔◌}
use native.Mathlib.Omega.{arith}
use Rattle.std.specs.Prelude.{Result, Ok, Err, ⊤, is_ok}
use Rattle.base.specs.Outcome.{Told, says, pick}
use Rattle.layout.specs.Question.{corners_on, ordered, Proper}
use Rattle.layout.proofs.Bools.{not_so}
use Rattle.layout.proofs.Corners.{proper_iff}
use Rattle.regions.specs.Region.{right_radius, proper, checks, checked_says}
use Rattle.regions.specs.declared.region.Region.{Region}
use Rattle.regions.specs.declared.region.BadRegion.{BadRegion}
use Rattle.regions.specs.declared.region.BadRegion.TheVariants.{OffGrid, Crossed, Wide}

module _ (g : Region) where
  -- a question in range has accepted corners and a radius that fits
  pub proper_parts : proper g ≡ true → Proper g.area × (right_radius g ≡ true)
  unfolding proper
  proper_parts h =
      let s = (and-eq-true_iff (corners_on g.area && ordered g.area) (right_radius g)).0 h in
      ((proper_iff g.area).1 s.0, s.1)

  -- its three tests hold
  pub proper_tests : proper g ≡ true → (corners_on g.area ≡ true) × (ordered g.area ≡ true) × (right_radius g ≡ true)
  unfolding proper
  proper_tests h =
      let s = (and-eq-true_iff (corners_on g.area && ordered g.area) (right_radius g)).0 h in
      let c = (and-eq-true_iff (corners_on g.area) (ordered g.area)).0 s.0 in
      (c.0, c.1, s.1)

  -- and one whose three tests hold is in range
  pub tests_proper : corners_on g.area ≡ true → ordered g.area ≡ true → right_radius g ≡ true → proper g ≡ true
  unfolding proper
  tests_proper a b d = rw (a, b, d)

  -- THE LAW: 0 is answered exactly where the question is in range
  pub checks_proper : (checks g ≡ says 0 []) ↔ (proper g ≡ true)
  unfolding checks proper pick
  checks_proper = (λ e. grind arith, λ h. grind arith)

  -- what is answered, by the tests
  pub checks_off : corners_on g.area ≡ false → checks g ≡ says 5 []
  unfolding checks pick
  checks_off h = rw h

  pub checks_crossed : (corners_on g.area ≡ true) × (ordered g.area ≡ false) → checks g ≡ says 6 []
  unfolding checks pick
  checks_crossed h = rw (h.0, h.1)

  pub checks_wide : (corners_on g.area ≡ true) × (ordered g.area ≡ true)
      → right_radius g ≡ false → checks g ≡ says 32 []
  unfolding checks pick
  checks_wide h k = rw (h.0, h.1, k)

  pub checks_fits : (corners_on g.area ≡ true) × (ordered g.area ≡ true)
      → right_radius g ≡ true → checks g ≡ says 0 []
  unfolding checks pick
  checks_fits h k = rw (h.0, h.1, k)

  module _ {r : Result ⊤ BadRegion} (e : checks g ≡ checked_says r) where
    -- which test failed, by the answer
    pub checked_accepted : {x : ⊤} → r ≡ Ok x → proper g ≡ true
    checked_accepted p = checks_proper.0 (e ∙ ap checked_says p)

    pub checked_off : r ≡ Err OffGrid → corners_on g.area ≡ false
    unfolding checks pick
    checked_off p = grind arith

    pub checked_crossed : r ≡ Err Crossed → (corners_on g.area ≡ true) × (ordered g.area ≡ false)
    unfolding checks pick
    checked_crossed p = grind arith

    pub checked_wide : r ≡ Err Wide
        → (corners_on g.area ≡ true) × (ordered g.area ≡ true) × (right_radius g ≡ false)
    unfolding checks pick
    checked_wide p = grind arith

-- a question is accepted exactly where it is in range
pub checked_in_range : (g : Region) (r : Result ⊤ BadRegion) → checks g ≡ checked_says r → is_ok r ≡ proper g
unfolding checks proper pick
checked_in_range g (Ok x) e = grind arith
checked_in_range g (Err OffGrid) e = grind arith
checked_in_range g (Err Crossed) e = grind arith
checked_in_range g (Err Wide) e = grind arith

-- equal answers have equal numbers
same_number : {s t : Told} → s ≡ t → s.number ≡ t.number
same_number e = ap (λ (t : Told). t.number) e

-- an answer that is a refusal has another number than 0
pub not_accepted : (r : Result ⊤ BadRegion) → (r ≡ Ok tt → ⊥) → checked_says r ≡ says 0 [] → ⊥
not_accepted (Ok x) o e = o refl
not_accepted (Err OffGrid) o e = omega (arith, same_number e)
not_accepted (Err Crossed) o e = omega (arith, same_number e)
not_accepted (Err Wide) o e = omega (arith, same_number e)

-- where the answer is a refusal, the question is out of range
pub checked_refused : (g : Region) (r : Result ⊤ BadRegion) → checks g ≡ checked_says r
    → (r ≡ Ok tt → ⊥) → proper g ≡ false
checked_refused g r e o = not_so (proper g) (λ h. not_accepted r o (sym e ∙ (checks_proper g).1 h))

-- ---- the answer of three tests in a row, by its number

abbrev pub answer : Bool → Bool → Bool → Told
answer a b d = pick a (pick b (pick d (says 0 []) (says 32 [])) (says 6 [])) (says 5 [])

pub told_accepted : (a b d : Bool) → answer a b d ≡ says 0 [] → (a ≡ true) × (b ≡ true) × (d ≡ true)
unfolding pick
told_accepted true true true e = (refl, refl, refl)
told_accepted true true false e = absurd (omega (arith, same_number e))
told_accepted true false d e = absurd (omega (arith, same_number e))
told_accepted false b d e = absurd (omega (arith, same_number e))

pub told_off : (a b d : Bool) → answer a b d ≡ says 5 [] → a ≡ false
unfolding pick
told_off true true true e = absurd (omega (arith, same_number e))
told_off true true false e = absurd (omega (arith, same_number e))
told_off true false d e = absurd (omega (arith, same_number e))
told_off false b d e = refl

pub told_crossed : (a b d : Bool) → answer a b d ≡ says 6 [] → (a ≡ true) × (b ≡ false)
unfolding pick
told_crossed true true true e = absurd (omega (arith, same_number e))
told_crossed true true false e = absurd (omega (arith, same_number e))
told_crossed true false d e = (refl, refl)
told_crossed false b d e = absurd (omega (arith, same_number e))

pub told_wide : (a b d : Bool) → answer a b d ≡ says 32 [] → (a ≡ true) × (b ≡ true) × (d ≡ false)
unfolding pick
told_wide true true true e = absurd (omega (arith, same_number e))
told_wide true true false e = (refl, refl, refl)
told_wide true false d e = absurd (omega (arith, same_number e))
told_wide false b d e = absurd (omega (arith, same_number e))
