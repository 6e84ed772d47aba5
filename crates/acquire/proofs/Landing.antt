-- What happens to the locks of the objects, seen on the whole index.
use mathlib.Core.Path.{◌≡◌, refl, sym, ap, ◌∙◌}
use mathlib.Core.List.{List}
use Prim.Native.Nat.{ℕ}
use lib.ListN.{length}
use Rattle.std.specs.Prelude.{Ok, Err, ⊤}
use Rattle.base.specs.Outcome.{Told, Outcome, corrupt, blocked, done, and_then, tells, leaves, ended, nothing}
use Rattle.base.proofs.Outcome.{told_corrupt, told_blocked, told_done}
use Rattle.base.specs.Answer.{attempt_of}
use Rattle.base.specs.declared.Stop.{Stop}
use Rattle.base.specs.declared.Stop.TheVariants.{Corrupt as StopCorrupt, Blocked}
use Rattle.locks.specs.Lock.{look}
use Rattle.base.specs.Step.{Said, turned, turn_tells, turn_leaves, lift}
use Rattle.base.proofs.Step.{lifted}
use Rattle.words.specs.Map.{COUNT}
use Rattle.words.specs.Part.{part, put}
use Rattle.index.specs.Index.{Index, index_at, with_lock}
use Rattle.index.proofs.Room.{put_lock_lem}
use Rattle.stage.specs.Turn.{Move, turn_says}
use Rattle.stage.specs.declared.Stage.{Stage}

-- what the answer of look_lock says
pub lock_free : (l : List ℕ) (i : ℕ) {x : ⊤} → tells nothing (look l i) ≡ tells nothing (attempt_of (Ok x)) → (l' : List ℕ) × (look l i ≡ done l')
unfolding tells
lock_free l i e = let d = told_done nothing (look l i) e in (d.0, d.1)

-- a step that begins with a look at a lock ends as the look does, unless it is free
pub lock_stopped : (l : List ℕ) (i : ℕ) (k : List ℕ → Outcome (Move (List ℕ))) (x : Stop)
    → tells nothing (look l i) ≡ tells nothing (attempt_of {A = ⊤} (Err x)) → turned l (and_then (look l i) k) ≡ (turn_says (Err x), l)
unfolding tells and_then turn_tells turn_leaves
lock_stopped l i k StopCorrupt e = rw (told_corrupt nothing (look l i) e)
lock_stopped l i k Blocked e = rw (told_blocked nothing (look l i) e)

leaves_on : {A B : Type 0} (g : A → B) (a : A) (o : Outcome A) → leaves g (g a) o ≡ g (leaves (λ (x : A). x) a o)
unfolding leaves
leaves_on g a corrupt = refl
leaves_on g a blocked = refl
leaves_on g a (done b) = refl

tells_on : {A B : Type 0} (g : A → B) (a : A) (o : Outcome A) (s : Told) (a' : A) → ended nothing (λ (x : A). x) a o ≡ (s, a') → ended nothing g (g a) o ≡ (s, g a')
tells_on {A} g a o s a' e = rw (leaves_on g a o) (ap (λ (p : Told × A). (p.0, g p.1)) e)

module _ (l : List ℕ) (l# : length l ≡ 2048) where
  -- the locks changed
  pub locks_on : (o : Outcome (List ℕ)) (s : Told) (v : List ℕ) → length v ≡ 512 → ended nothing (λ (x : List ℕ). x) (part COUNT 512 l) o ≡ (s, v) → ended nothing (with_lock (index_at l)) (index_at l) o ≡ (s, index_at (put COUNT 512 v l))
  locks_on o s v v# e = tells_on (with_lock (index_at l)) (part COUNT 512 l) o s v e ∙ ap (λ (d : Index). (s, d)) (sym (put_lock_lem l l# v v#))

  module _ (o : Outcome (Move (List ℕ))) (s : Said Stage) where
    pub moves : (v : List ℕ) → length v ≡ 512 → turned (part COUNT 512 l) o ≡ (s, v) → turned (index_at l) (lift (with_lock (index_at l)) o) ≡ (s, index_at (put COUNT 512 v l))
    moves v v# e = lifted (with_lock (index_at l)) (part COUNT 512 l) o s v e ∙ ap (λ (d : Index). (s, d)) (sym (put_lock_lem l l# v v#))

    -- nothing changed
    pub stays : turned (part COUNT 512 l) o ≡ (s, part COUNT 512 l) → turned (index_at l) (lift (with_lock (index_at l)) o) ≡ (s, index_at l)
    stays e = lifted (with_lock (index_at l)) (part COUNT 512 l) o s (part COUNT 512 l) e
