-- A number read off the front of some bytes is a numeral there, and a numeral in front of a comma or of nothing is read off.
-- Both by induction along the bytes: the value so far only grows, so a value in range was in range at every digit.
use mathlib.Core.Path.{◌≡◌, refl, sym, ap, subst, ◌∙◌}
use mathlib.Core.Bool.{true, false}
use Rattle.std.specs.Prelude.{None, Some}
use mathlib.Core.List.{List, [], ◌∷◌, ◌++◌}
use Prim.Native.Nat.{ℕ, ◌+◌, ◌*◌, ◌-◌, ◌<◌, ◌≤◌}
use native.Mathlib.Omega.{arith}
use lib.Dec.{eqb, ltb, leb}
use lib.ListN.{length}
use borrow.Author.Tests.{le-ltb, le-leb, eq-eqb, ne_eqb, ltb-false, leb-true, eqb-true, eqb-false}
use Rattle.base.specs.Outcome.{pick}
use Rattle.base.specs.Table.{at}
use Rattle.base.proofs.Table.{by_test, at_or, clash}
use Rattle.script.specs.Grammar.{largest, Digits, none as no-digits, more, value_from, Numeral}
use Rattle.script.specs.Parse.{Front, front_of, is_digit, digits_on, number}

digit_in : (b : ℕ) → is_digit b ≡ true → (48 ≤ b) × (b ≤ 57)
unfolding is_digit pick
digit_in b e = by_test (ltb b 48) (λ t. clash (let z : false ≡ true = rw t at e in cc)) (λ t. (ltb-false b 48 t, leb-true b 57 (rw t at e)))

digit_yes : (b : ℕ) → 48 ≤ b → b ≤ 57 → is_digit b ≡ true
unfolding is_digit pick
digit_yes b h k = rw (le-ltb b 48 h, le-leb b 57 k)

digit_comma : is_digit 44 ≡ false
unfolding is_digit pick
digit_comma = refl

-- ---- what is read off is a numeral

-- bytes that begin with digits behind v, up to what f leaves
pub record Begins (bs : List ℕ) (v : ℕ) (f : Front) : Type 0 where
  pub front : List ℕ
  pub parts : bs ≡ front ++ f.rest
  pub digits : Digits front
  pub value : value_from v front ≡ f.value
  pub small : f.value ≤ largest

on_sound : (bs : List ℕ) (v : ℕ) {f : Front} → v ≤ largest → digits_on v bs ≡ Some f → Begins bs v f
unfolding digits_on value_from pick
on_sound [] v {f} h e =
    let q : front_of v [] ≡ f = cc in
    record { front = []; parts = ap (λ (g : Front). g.rest) q; digits = no-digits; value = ap (λ (g : Front). g.value) q; small = subst (λ (g : Front). g.value ≤ largest) q h }
on_sound (b ∷ bs) v {f} h e =
    by_test (is_digit b)
    (λ t. by_test (leb (10 * v + (b - 48)) largest)
    (λ u.
    let d = digit_in b t in
    let r = on_sound bs (10 * v + (b - 48)) (leb-true (10 * v + (b - 48)) largest u) (rw (t, u) at e) in
    record { front = b ∷ r.front; parts = ap (λ (l : List ℕ). b ∷ l) r.parts; digits = more d.0 d.1 r.digits; value = r.value; small = r.small })
    (λ u. clash (let z : None ≡ Some f = rw (t, u) at e in cc)))
    (λ t.
    let z : Some (front_of v (b ∷ bs)) ≡ Some f = rw t at e in
    let q : front_of v (b ∷ bs) ≡ f = cc in
    record { front = []; parts = ap (λ (g : Front). g.rest) q; digits = no-digits; value = ap (λ (g : Front). g.value) q; small = subst (λ (g : Front). g.value ≤ largest) q h })

-- bytes that begin with a numeral
pub record Fronted (bs : List ℕ) (f : Front) : Type 0 where
  pub front : List ℕ
  pub parts : bs ≡ front ++ f.rest
  pub numeral : Numeral front f.value

-- a 0 alone
zero_numeral : (b : ℕ) → b ≡ 48 → Numeral (b ∷ []) 0
unfolding value_from
zero_numeral b e = record { digits = more {b = b} (omega arith) (omega arith) no-digits; some = omega arith; plain = λ _. refl; value = omega arith; small = omega arith }

pub number_sound : (bs : List ℕ) {f : Front} → number bs ≡ Some f → Fronted bs f
unfolding number value_from pick
number_sound [] {f} e = clash (cc)
number_sound (b ∷ bs) {f} e =
    by_test (is_digit b)
    (λ t. by_test (eqb b 48)
    (λ u.
    let z : Some (front_of 0 bs) ≡ Some f = rw (t, u) at e in
    let q : front_of 0 bs ≡ f = cc in
    record { front = b ∷ []; parts = ap (λ (g : Front). b ∷ g.rest) q; numeral = subst (λ (g : Front). Numeral (b ∷ []) g.value) q (zero_numeral b (eqb-true b 48 u)) })
    (λ u.
    let d = digit_in b t in
    let r = on_sound bs (b - 48) (omega arith) (rw (t, u) at e) in
    let w : 10 * 0 + (b - 48) ≡ b - 48 = omega arith in
    record {
      front = b ∷ r.front;
      parts = ap (λ (l : List ℕ). b ∷ l) r.parts;
      numeral = record { digits = more d.0 d.1 r.digits; some = omega arith; plain = λ (p : b ≡ 48). absurd (eqb-false b 48 u p); value = ap (λ (k : ℕ). value_from k r.front) w ∙ r.value; small = r.small };
    }))
    (λ t. clash (let z : None ≡ Some f = rw t at e in cc))

-- ---- a numeral is read off

-- what may stand behind a numeral
pub data Ends : List ℕ → Type 0 where
  nothing : Ends []
  comma : {bs : List ℕ} → Ends (44 ∷ bs)

value_up : (ds : List ℕ) (v : ℕ) → v ≤ value_from v ds
unfolding value_from
value_up [] v = omega arith
value_up (b ∷ ds) v = omega (arith, value_up ds (10 * v + (b - 48)))

on_end : {rest : List ℕ} (v : ℕ) → Ends rest → digits_on v rest ≡ Some (front_of v rest)
unfolding digits_on pick
on_end v nothing = refl
on_end v comma = rw digit_comma

on_complete : {ds rest : List ℕ} → Digits ds → Ends rest → (v : ℕ) → value_from v ds ≤ largest → digits_on v (ds ++ rest) ≡ Some (front_of (value_from v ds) rest)
unfolding digits_on value_from pick
on_complete no-digits s v h = on_end v s
on_complete (more {b} {bs} lo hi ds) s v h =
    rw (digit_yes b lo hi, le-leb (10 * v + (b - 48)) largest (omega (arith, value_up bs (10 * v + (b - 48))))) (on_complete ds s (10 * v + (b - 48)) h)

alone : (b : ℕ) (ds : List ℕ) → length (b ∷ ds) ≡ 1 → ds ≡ []
alone b [] e = refl
alone b (x ∷ ds) e = absurd (omega arith)

complete : (ds : List ℕ) {rest : List ℕ} {n : ℕ} → Ends rest → Digits ds → 0 < length ds → ((b : ℕ) (bs : List ℕ) → ds ≡ b ∷ bs → b ≡ 48 → bs ≡ []) → value_from 0 ds ≡ n → n ≤ largest → number (ds ++ rest) ≡ Some (front_of n rest)
unfolding number value_from pick
complete [] s d p g e h = absurd (omega arith)
complete (b ∷ ds) {rest} {n} s (more lo hi d) p g e h =
    at_or b 48
    (λ z.
    let w : ds ≡ [] = g b ds refl z in
    let v : 0 ≡ n = let k : value_from (10 * 0 + (b - 48)) [] ≡ n = subst (λ (l : List ℕ). value_from (10 * 0 + (b - 48)) l ≡ n) w e in omega arith in
    rw (digit_yes b lo hi, eq-eqb b 48 z, w, v))
    (λ z.
    let w : 10 * 0 + (b - 48) ≡ b - 48 = omega arith in
    let k : value_from (b - 48) ds ≡ n = rw w at e in
    rw (digit_yes b lo hi, ne_eqb b 48 z) (on_complete d s (b - 48) (subst (λ (m : ℕ). m ≤ largest) (sym k) h) ∙ ap (λ (m : ℕ). Some (front_of m rest)) k))

pub number_complete : {ds rest : List ℕ} {n : ℕ} → Numeral ds n → Ends rest → number (ds ++ rest) ≡ Some (front_of n rest)
number_complete {ds} {rest} {n} m s =
    complete ds s m.digits m.some (λ b bs e z. alone b bs (subst (λ (l : List ℕ). length l ≡ 1) e (m.plain (subst (λ (l : List ℕ). at l 0 ≡ 48) (sym e) z)))) m.value m.small
