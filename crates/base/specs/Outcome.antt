-- How an operation on the tables ends, and the number that document 01 gives for it.
-- A refusal and a blocked step carry no tables, so they cannot change one.
use Rattle.std.specs.Prelude.{Bool, true, false, List, [], ◌∷◌, ℕ}
use Rattle.base.specs.Numbers.{DONE, BLOCKED, CORRUPT}

-- An answer in document 01's terms: its number, and the values that come with it.
pub record Told : Type 0 where
  pub number : ℕ
  pub values : List ℕ

abbrev pub says : ℕ → List ℕ → Told
says n vs = record { number = n; values = vs }

-- corrupt: document 01's broken tables, number 12. blocked: held, number 20. done: number 0, with what comes of it.
pub data Outcome (A : Type 0) : Type 0 where
  corrupt : Outcome A
  blocked : Outcome A
  done : A → Outcome A

-- corrupt unless the test holds
unfoldable pub need : {A : Type 0} → Bool → Outcome A → Outcome A
need true k = k
need false k = corrupt

-- blocked unless the test holds
unfoldable pub awaits : {A : Type 0} → Bool → Outcome A → Outcome A
awaits true k = k
awaits false k = blocked

-- the first if the test holds, else the second
unfoldable pub pick : {A : Type 0} → Bool → A → A → A
pick true x y = x
pick false x y = y

-- go on with what came of the first
unfoldable pub and_then : {A B : Type 0} → Outcome A → (A → Outcome B) → Outcome B
and_then corrupt k = corrupt
and_then blocked k = blocked
and_then (done a) k = k a

-- with a function of what came of it
unfoldable pub outcome_map : {A B : Type 0} → (A → B) → Outcome A → Outcome B
outcome_map f corrupt = corrupt
outcome_map f blocked = blocked
outcome_map f (done a) = done (f a)

-- What is told of an outcome: document 01's number, and the values that f finds in what came of it.
unfoldable pub tells : {A : Type 0} → (A → List ℕ) → Outcome A → Told
tells f corrupt = says CORRUPT []
tells f blocked = says BLOCKED []
tells f (done a) = says DONE (f a)

-- The tables afterwards: those at the start, t, unless something came of it.
unfoldable pub leaves : {A B : Type 0} → (A → B) → B → Outcome A → B
leaves g t corrupt = t
leaves g t blocked = t
leaves g t (done a) = g a

-- Both: what the contract of an operation on tables is stated with.
abbrev pub ended : {A B : Type 0} → (A → List ℕ) → (A → B) → B → Outcome A → Told × B
ended f g t o = (tells f o, leaves g t o)

-- no values
abbrev pub nothing : {A : Type 0} → A → List ℕ
nothing a = []

-- one value
abbrev pub one : ℕ → List ℕ
one b = b ∷ []
