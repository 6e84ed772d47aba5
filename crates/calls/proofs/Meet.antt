-- TWO OUTCOMES SIDE BY SIDE: both blocked, both done with P between them, or one of them refused. The rules go past one
-- test at a time; a test that only refuses asks for nothing. So a relation between two sets of tables is kept by every
-- step that does not read what differs, and where neither is ever refused the two go alike.
use mathlib.Core.Path.{◌≡◌, refl}
use mathlib.Core.Bool.{Bool, true, false}
use Prim.Native.Nat.{ℕ, ◌+◌}
use lib.Dec.{ltb}
use Rattle.base.specs.Outcome.{Outcome, corrupt, blocked, done, need, pick, and_then}
use Rattle.base.specs.Step.{Step, lift}
use Rattle.index.specs.declared.search.Search.{Search}
use Rattle.index.specs.declared.search.Search.TheVariants.{Found, Empty}
use Rattle.stage.specs.Turn.{at_entry, draw}

pub data Meet {A B : Type 0} (P : A → B → Type 0) : Outcome A → Outcome B → Type 0 where
  both_blocked : Meet P blocked blocked
  both_done : {a : A} {b : B} → P a b → Meet P (done a) (done b)
  left_refused : {o : Outcome B} → Meet P corrupt o
  right_refused : {o : Outcome A} → Meet P o corrupt

module _ {A B : Type 0} {P : A → B → Type 0} where
  pub meet_need : (b b' : Bool) {k : Outcome A} {k' : Outcome B} → Meet P k k' → Meet P (need b k) (need b' k')
  unfolding need
  meet_need true true m = m
  meet_need true false m = right_refused
  meet_need false b' m = left_refused

  -- with what the tests say
  pub meet_so : (b b' : Bool) (k : Outcome A) (k' : Outcome B) → (b ≡ true → b' ≡ true → Meet P k k')
      → Meet P (need b k) (need b' k')
  unfolding need
  meet_so true true k k' f = f refl refl
  meet_so true false k k' f = right_refused
  meet_so false b' k k' f = left_refused

  pub meet_pick : (b : Bool) {x y : Outcome A} {x' y' : Outcome B} → Meet P x x' → Meet P y y'
      → Meet P (pick b x y) (pick b x' y')
  unfolding pick
  meet_pick true m n = m
  meet_pick false m n = n

  pub meet_then : {C D : Type 0} {Q : C → D → Type 0} {o : Outcome C} {o' : Outcome D} {k : C → Outcome A}
      {k' : D → Outcome B} → Meet Q o o' → ((c : C) (d : D) → Q c d → Meet P (k c) (k' d))
      → Meet P (and_then o k) (and_then o' k')
  unfolding and_then
  meet_then both_blocked f = both_blocked
  meet_then (both_done q) f = f _ _ q
  meet_then left_refused f = left_refused
  meet_then {o = o} {k = k} right_refused f = right_refused

  pub meet_entry : (s : Search) {k : ℕ → Outcome A} {k' : ℕ → Outcome B} → ((i : ℕ) → Meet P (k i) (k' i))
      → Meet P (at_entry s k) (at_entry s k')
  unfolding at_entry
  meet_entry (Found i) f = f i
  meet_entry (Empty i) f = left_refused

  pub meet_draw : (c c' : ℕ) (k : ℕ → Outcome A) (k' : ℕ → Outcome B) → Meet P (k (c + 1)) (k' (c' + 1))
      → Meet P (draw c k) (draw c' k')
  unfolding draw
  meet_draw c c' k k' m = meet_need (ltb c 2147483647) (ltb c' 2147483647) m

-- the same outcome twice
pub meet_same : {A : Type 0} (o : Outcome A) → Meet (λ (a b : A). a ≡ b) o o
meet_same corrupt = left_refused
meet_same blocked = both_blocked
meet_same (done a) = both_done refl

-- two steps: the same number, N between what comes next, R between the tables
pub record Steps {S T B C : Type 0} (N : S → T → Type 0) (R : B → C → Type 0) (m : Step S B) (m' : Step T C) : Type 0 where
  pub number : m'.number ≡ m.number
  pub next : N m.next m'.next
  pub tables : R m.tables m'.tables

-- seen on more tables
pub meet_lift : {S T A A' B C : Type 0} {N : S → T → Type 0} {Q : A → A' → Type 0} {R : B → C → Type 0}
    (f : A → B) (f' : A' → C) {o : Outcome (Step S A)} {o' : Outcome (Step T A')}
    → ((a : A) (b : A') → Q a b → R (f a) (f' b)) → Meet (Steps N Q) o o' → Meet (Steps N R) (lift f o) (lift f' o')
unfolding lift
meet_lift f f' g both_blocked = both_blocked
meet_lift f f' g (both_done s) = both_done (record { number = s.number; next = s.next; tables = g _ _ s.tables })
meet_lift f f' g left_refused = left_refused
meet_lift f f' g right_refused = right_refused

-- the same step on two sets of tables
pub meet_lift_same : {S A B C : Type 0} {R : B → C → Type 0} (f : A → B) (f' : A → C) (o : Outcome (Step S A))
    → ((a : A) → R (f a) (f' a)) → Meet (Steps (λ (s s' : S). s' ≡ s) R) (lift f o) (lift f' o)
unfolding lift
meet_lift_same f f' corrupt g = left_refused
meet_lift_same f f' blocked g = both_blocked
meet_lift_same f f' (done m) g = both_done (record { number = refl; next = refl; tables = g m.tables })

-- the same step twice
pub steps_same : {S B : Type 0} (o : Outcome (Step S B))
    → Meet (Steps (λ (s s' : S). s' ≡ s) (λ (x y : B). x ≡ y)) o o
steps_same corrupt = left_refused
steps_same blocked = both_blocked
steps_same (done m) = both_done (record { number = refl; next = refl; tables = refl })
