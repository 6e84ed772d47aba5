-- What functions that change tables promise: they tell how the definition ends, and leave what it leaves. Refused, or blocked, nothing has changed.
use Rattle.std.specs.Prelude.{◌≡◌, Result, ⊤}
use Rattle.base.specs.Outcome.{Outcome, outcome_map, tells, leaves, ended, nothing}
use Rattle.base.specs.Answer.{outcome_of, attempt_of}
use Rattle.base.specs.declared.Corrupt.{Corrupt}
use Rattle.base.specs.declared.Stop.{Stop}

-- A CHANGE of t by f: r is how it ended, t' what is there afterwards.
abbrev pub Changes : {T : Type 0} → T → (T → Outcome T) → Result ⊤ Corrupt → T → Type 0
Changes t f r t' = ended nothing (λ (u : _). u) t (f t) ≡ (tells nothing (outcome_of r), t')

-- A change of a part of t by f, which `put` puts in its place.
abbrev pub ChangesIn : {A T : Type 0} → (T → A → T) → (T → Outcome A) → Result ⊤ Corrupt → T → T → Type 0
ChangesIn put f r t t' = ended nothing (put t) t (f t) ≡ (tells nothing (outcome_of r), t')

-- A change that may have to wait.
abbrev pub Attempts : {T : Type 0} → T → (T → Outcome T) → Result ⊤ Stop → T → Type 0
Attempts t f r t' = ended nothing (λ (u : _). u) t (f t) ≡ (tells nothing (attempt_of r), t')

-- The same of a part of t.
abbrev pub AttemptsIn : {A T : Type 0} → (T → A → T) → (T → Outcome A) → Result ⊤ Stop → T → T → Type 0
AttemptsIn put f r t t' = ended nothing (put t) t (f t) ≡ (tells nothing (attempt_of r), t')

-- A change that hands back a value: o is how it ends, `value` finds in what came of it what r hands back, and `put` what is there afterwards.
abbrev pub Gives : {A V T : Type 0} → (A → V) → (A → T) → T → Outcome A → Result V Corrupt → T → Type 0
Gives {V = V} {T = T} value put t o r t' = ◌≡◌ {A = Outcome V × T} (outcome_map value o, leaves put t o) (outcome_of r, t')
