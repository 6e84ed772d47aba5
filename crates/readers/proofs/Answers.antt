-- Who holds the answer of add_reader, leave_for or take_reader knows how the definition ended.
use mathlib.Core.Path.{◌≡◌, sym, ap, ◌∙◌}
use mathlib.Core.Bool.{not}
use mathlib.Core.List.{List}
use Prim.Native.Nat.{ℕ, ◌-◌}
use lib.Dec.{eqb, ltb, leb}
use lib.ListN.{length, set}
use Rattle.std.specs.Prelude.{Result, Ok, Err, ⊤}
use Rattle.base.specs.Outcome.{Outcome, corrupt, done, need, ended, nothing, tells}
use Rattle.base.specs.Answer.{outcome_of}
use Rattle.base.specs.Promise.{Gives}
use Rattle.base.specs.declared.Corrupt.{Corrupt}
use Rattle.base.proofs.Answer.{gave_corrupt, gave_done}
use Rattle.base.proofs.Outcome.{ended_corrupt, ended_done}
use Rattle.base.specs.Table.{at}
use Rattle.base.proofs.Table.{by_test}
use Rattle.words.specs.Map.{READERS, WORDS}
use native.Mathlib.Omega.{arith}
use Rattle.words.specs.Words.{readers_in, put_readers}
use Rattle.words.proofs.Parts.{put_fits, part_same}
use Rattle.readers.specs.Reader.{Reading, take_reader}
use Rattle.readers.specs.declared.Standing.{Standing}

-- readers that were put into the words, which are as many as before, are those in the words afterwards
there : (w w' rs : List ℕ) → length w ≡ WORDS → length w' ≡ length w → put_readers w rs ≡ w' → rs ≡ readers_in w'
there w w' rs w# k p =
    let r# : length rs ≡ 512 = put_fits w READERS 512 (omega arith) rs (ap length p ∙ k) in
    sym (part_same w READERS 512 (omega arith) rs r#) ∙ ap readers_in p

module _ (w w' : List ℕ) (o : Outcome Reading) {r : Result Standing Corrupt} (e : Gives (λ (d : Reading). d.standing) (λ (d : Reading). put_readers w d.readers) w o r w') where
  pub stood_corrupt : {x : Corrupt} → r ≡ Err x → (o ≡ corrupt) × (w' ≡ w)
  stood_corrupt q = gave_corrupt (λ (d : Reading). d.standing) (λ (d : Reading). put_readers w d.readers) w w' o e q

  -- the readers are those in the words afterwards, and nothing else changed
  pub stood_in : length w ≡ WORDS → length w' ≡ length w → (s : Standing) → r ≡ Ok s → (o ≡ done (record { standing = s; readers = readers_in w' })) × (put_readers w (readers_in w') ≡ w')
  stood_in w# k s q =
      let d = gave_done (λ (d : Reading). d.standing) (λ (d : Reading). put_readers w d.readers) w w' o e q in
      let m = there w w' d.0.readers w# k d.3 in
      (d.1 ∙ ap done (λ i. record { standing = d.2 i; readers = m i }), ap (put_readers w) (sym m) ∙ d.3)

-- the same of take_reader
module _ (w w' : List ℕ) (o : Outcome (List ℕ)) {r : Result ⊤ Corrupt} (e : ended nothing (put_readers w) w o ≡ (tells nothing (outcome_of r), w')) where
  pub took_corrupt : {x : Corrupt} → r ≡ Err x → (o ≡ corrupt) × (w' ≡ w)
  unfolding tells
  took_corrupt q = ended_corrupt nothing (put_readers w) w w' o (rw q at e)

  pub took_done : {x : ⊤} → length w ≡ WORDS → length w' ≡ length w → r ≡ Ok x → (o ≡ done (readers_in w')) × (put_readers w (readers_in w') ≡ w')
  unfolding tells
  took_done w# k q =
      let d = ended_done nothing (put_readers w) w w' o (rw q at e) in
      let m = there w w' d.0 w# k d.3 in
      (d.1 ∙ ap done m, ap (put_readers w) (sym m) ∙ d.3)

-- taking a reader is refused or done, never blocked
pub take_or {ℓ} : {C : Type ℓ} (l : List ℕ) (b : ℕ) → (take_reader l b ≡ corrupt → C) → ((r : List ℕ) → take_reader l b ≡ done r → C) → C
unfolding take_reader need
take_or l b f g = by_test (ltb b 512) (λ p. by_test (not (eqb (at l b) 0)) (λ q. by_test (leb (at l b) 4) (λ r. g (set l b (at l b - 1)) (rw (p, q, r))) (λ r. f (rw (p, q, r)))) (λ q. f (rw (p, q)))) (λ p. f (rw p))
