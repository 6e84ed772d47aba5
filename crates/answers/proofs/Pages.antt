-- A text printed on a page stands there behind what stood on it: nothing, one byte, one text behind another, and how
-- long the page is then.
use mathlib.Core.Path.{◌≡◌, refl, sym, ap, ◌∙◌}
use mathlib.Core.List.{List, [], ◌∷◌, ◌++◌, append-nil}
use Prim.Native.Nat.{ℕ, ◌+◌}
use lib.ListN.{length, length-append}
use Rattle.answers.proofs.Printing.{appended_both}

-- the text was printed on the page
pub record Printed (page text page' : List ℕ) : Type 0 where
  pub bytes : page' ≡ page ++ text

-- nothing printed yet
pub printed_none : (page : List ℕ) → Printed page [] page
printed_none page = record { bytes = sym (append-nil page) }

-- one byte
pub printed_byte : (page : List ℕ) (b : ℕ) → Printed page (b ∷ []) (page ++ b ∷ [])
printed_byte page b = record { bytes = refl }

-- one text behind another
pub printed_both : {a b c s t : List ℕ} → Printed a s b → Printed b t c → Printed a (s ++ t) c
printed_both {a} {s = s} {t = t} p q = record { bytes = appended_both a s t p.bytes q.bytes }

-- another name of the text
pub printed_as : {a s t b : List ℕ} → s ≡ t → Printed a s b → Printed a t b
printed_as {a} e p = record { bytes = p.bytes ∙ ap (λ (l : List ℕ). a ++ l) e }

-- the page is longer by the text
pub printed_length : {a s b : List ℕ} → Printed a s b → length b ≡ length a + length s
printed_length {a} {s} p = ap length p.bytes ∙ length-append a s
