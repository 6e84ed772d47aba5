-- What a function is lent: the value behind a reference as the function finds it, and as it leaves it.
use Rattle.std.specs.Borrow.{Bor, MutBor}
use denote.Triple.Both.{Both}

pub record Lent (A : Type 0) : Type 0 where
  pub old : A
  pub new : A

-- by a `&mut`
abbrev pub lent : {A : Type 0} → Both (MutBor A) (MutBor A) → Lent A
lent r = record { old = r.entry.now; new = r.exit.now }

-- by a `&`
abbrev pub seen : {A : Type 0} → Both (Bor A) (Bor A) → Lent A
seen r = record { old = r.entry.now; new = r.exit.now }
