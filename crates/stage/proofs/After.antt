-- A stage that makes one change and goes on ends as the function does that makes the change: where that refuses or
-- waits, so does the stage, and where it is done, the stage goes on.
use mathlib.Core.Path.{◌≡◌, refl}
use Rattle.std.specs.Prelude.{Result, Ok, Err, ⊤}
use Rattle.base.specs.Outcome.{Outcome, corrupt, blocked, done, tells, and_then, ended, nothing}
use Rattle.base.proofs.Outcome.{ended_corrupt, ended_blocked, ended_done}
use Rattle.base.specs.Answer.{outcome_of, attempt_of}
use Rattle.base.specs.Step.{turned, turn_tells, turn_leaves, lift}
use Rattle.base.specs.declared.Corrupt.{Corrupt}
use Rattle.base.specs.declared.Stop.{Stop}
use Rattle.base.specs.declared.Stop.TheVariants.{Corrupt as StopCorrupt, Blocked}
use Rattle.stage.specs.Turn.{Move, turn_says, advance}
use Rattle.stage.specs.declared.Stage.{Stage}
use Rattle.stage.specs.declared.Turn.{Turn}
use Rattle.stage.specs.declared.Turn.TheVariants.{Advanced}

-- a change of its own tables, seen on all of them
pub goes_on : {A B : Type 0} (g : A → B) (s : Stage) (o : Outcome A) →
    lift g (and_then o (λ a. advance s a)) ≡ and_then o (λ a. advance s (g a))
unfolding and_then lift
goes_on g s corrupt = refl
goes_on g s blocked = refl
goes_on g s (done a) = refl

module _ {A B : Type 0} (g : A → B) (t t' : B) (o : Outcome A) (s : Stage) where
  abbrev Ends : Result Turn Stop → Outcome (Move B) → Type 0
  Ends u m = turned t m ≡ (turn_says u, t')

  -- the change is refused
  pub change_refused : (x : Corrupt) → ended nothing g t o ≡ (tells nothing (outcome_of {A = ⊤} (Err x)), t')
      → Ends (Err StopCorrupt) (lift g (and_then o (λ a. advance s a)))
  unfolding and_then turn_tells turn_leaves tells
  change_refused x e = let d = ended_corrupt nothing g t t' o e in rw (goes_on g s o, d.0, d.1)

  -- it is refused, or has to wait
  pub change_stopped : (x : Stop) → ended nothing g t o ≡ (tells nothing (attempt_of {A = ⊤} (Err x)), t')
      → Ends (Err x) (lift g (and_then o (λ a. advance s a)))
  unfolding and_then turn_tells turn_leaves tells
  change_stopped StopCorrupt e = let d = ended_corrupt nothing g t t' o e in rw (goes_on g s o, d.0, d.1)
  change_stopped Blocked e = let d = ended_blocked nothing g t t' o e in rw (goes_on g s o, d.0, d.1)

  -- it is done
  pub change_made : (x : ⊤) → ended nothing g t o ≡ (tells nothing (done x), t')
      → Ends (Ok (Advanced s)) (lift g (and_then o (λ a. advance s a)))
  unfolding and_then turn_tells turn_leaves tells
  change_made x e = let d = ended_done nothing g t t' o e in rw (goes_on g s o, d.1, d.3)

-- ---- the same by the answer of the function that makes the change

-- the end of a step that makes one change and goes on to a stage: as the change ended
abbrev pub turn_after : Result ⊤ Corrupt → Stage → Result Turn Stop
turn_after (Err x) s = Err StopCorrupt
turn_after (Ok x) s = Ok (Advanced s)

-- the same of a change that may have to wait
abbrev pub turn_attempted : Result ⊤ Stop → Stage → Result Turn Stop
turn_attempted (Err x) s = Err x
turn_attempted (Ok x) s = Ok (Advanced s)

module _ {A B : Type 0} (g : A → B) (t t' : B) (o : Outcome A) (s : Stage) where
  after : (r : Result ⊤ Corrupt) → ended nothing g t o ≡ (tells nothing (outcome_of r), t') →
      Ends g t t' o s (turn_after r s) (lift g (and_then o (λ a. advance s a)))
  after (Err x) e = change_refused g t t' o s x e
  after (Ok x) e = change_made g t t' o s x e

  attempted : (r : Result ⊤ Stop) → ended nothing g t o ≡ (tells nothing (attempt_of r), t') →
      Ends g t t' o s (turn_attempted r s) (lift g (and_then o (λ a. advance s a)))
  attempted (Err x) e = change_stopped g t t' o s x e
  attempted (Ok x) e = change_made g t t' o s x e

  -- as turn_after answers
  pub turns_after : (r : Result ⊤ Corrupt) {u : Result Turn Stop} → ended nothing g t o ≡ (tells nothing (outcome_of r), t') → u ≡ turn_after r s →
      turned t (lift g (and_then o (λ a. advance s a))) ≡ (turn_says u, t')
  turns_after r e q = rw q (after r e)

  -- as turn_attempted answers
  pub turns_attempted : (r : Result ⊤ Stop) {u : Result Turn Stop} → ended nothing g t o ≡ (tells nothing (attempt_of r), t') → u ≡ turn_attempted r s →
      turned t (lift g (and_then o (λ a. advance s a))) ≡ (turn_says u, t')
  turns_attempted r e q = rw q (attempted r e)

-- the same on its own tables alone
pub own_attempted : {A : Type 0} (t t' : A) (o : Outcome A) (s : Stage) (r : Result ⊤ Stop) {u : Result Turn Stop} →
    ended nothing (λ (x : A). x) t o ≡ (tells nothing (attempt_of r), t') → u ≡ turn_attempted r s →
    turned t (and_then o (λ a. advance s a)) ≡ (turn_says u, t')
own_attempted {A} t t' o s r e q = rw (← goes_on (λ (x : A). x) s o) (turns_attempted (λ (x : A). x) t t' o s r e q)
