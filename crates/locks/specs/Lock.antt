-- A table of locks: 0 is free, 1 to 8 is held by lane 0 to 7, anything else is out of range.
use Rattle.std.specs.Prelude.{List, ℕ, eqb, ltb, leb, length, set}
use Rattle.base.specs.Outcome.{Outcome, done, need, awaits, and_then}
use Rattle.base.specs.Table.{at}

-- Is the lock free? Blocked if it is held. The table is handed on unchanged.
unfoldable pub look : List ℕ → ℕ → Outcome (List ℕ)
look locks i = need (ltb i (length locks)) (need (leb (at locks i) 8) (awaits (eqb (at locks i) 0) (done locks)))

-- Take it for an owner.
unfoldable pub take_lock : List ℕ → ℕ → ℕ → Outcome (List ℕ)
take_lock locks i owner = and_then (look locks i) (λ l. done (set l i owner))

-- Free it. What it was is not looked at.
unfoldable pub release : List ℕ → ℕ → Outcome (List ℕ)
release locks i = need (ltb i (length locks)) (done (set locks i 0))
