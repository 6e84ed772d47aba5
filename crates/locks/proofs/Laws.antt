-- The laws of a lock table: when a lock is taken, held or out of range, and what taking and freeing change.
use mathlib.Core.Path.{◌≡◌, sym, ap, ◌∙◌}
use mathlib.Core.Logic.{◌≢◌}
use mathlib.Core.List.{List}
use Prim.Native.Nat.{ℕ, ◌<◌, ◌≤◌}
use lib.ListN.{length, set}
use borrow.Author.Tests.{ltb-true, eqb-true, lt-ltb, le-leb, ne_eqb}
use Rattle.base.specs.Outcome.{done, blocked, need, awaits, and_then}
use Rattle.base.proofs.Outcome.{need_done, awaits_done, then_done, then_true, need_true, done_one}
use Rattle.base.specs.Table.{at}
use Rattle.locks.specs.Lock.{look, take_lock, release}

module _ (l : List ℕ) (i : ℕ) where
  -- a lock that was found free is in range and 0, and nothing changed
  pub look_done : (l' : List ℕ) → look l i ≡ done l' → (i < length l) × (at l i ≡ 0) × (l' ≡ l)
  unfolding look
  look_done l' e =
      let n₁ = need_done _ _ e in
      let n₂ = need_done _ _ n₁.1 in
      let n₃ = awaits_done _ _ n₂.1 in
      (ltb-true _ _ n₁.0, eqb-true _ _ n₃.0, sym (done_one n₃.1))

  -- a free lock is found free
  pub look_free : i < length l → at l i ≡ 0 → look l i ≡ done l
  unfolding look need awaits
  look_free h e = rw (lt-ltb i (length l) h, e)

  -- a lock that a lane holds blocks
  pub look_held : i < length l → at l i ≤ 8 → at l i ≢ 0 → look l i ≡ blocked
  unfolding look need awaits
  look_held h k n = rw (lt-ltb i (length l) h, le-leb (at l i) 8 k, ne_eqb (at l i) 0 n)

  module _ (o : ℕ) where
    -- a lock that was taken was free, and has its owner now
    pub take_done : (l' : List ℕ) → take_lock l i o ≡ done l' → (i < length l) × (at l i ≡ 0) × (l' ≡ set l i o)
    unfolding take_lock
    take_done l' e =
        let t = then_done _ _ e in
        let f = look_done t.0 t.1 in
        (f.0, f.1, sym (done_one t.2) ∙ ap (λ (m : List ℕ). set m i o) f.2)

    pub take_free : i < length l → at l i ≡ 0 → take_lock l i o ≡ done (set l i o)
    unfolding take_lock
    take_free h e = then_true _ _ (look_free h e)

    pub take-held : i < length l → at l i ≤ 8 → at l i ≢ 0 → take_lock l i o ≡ blocked
    unfolding take_lock and_then
    take-held h k n = rw (look_held h k n)

  -- freeing
  pub release_done : (l' : List ℕ) → release l i ≡ done l' → (i < length l) × (l' ≡ set l i 0)
  unfolding release
  release_done l' e = let n = need_done _ _ e in (ltb-true _ _ n.0, sym (done_one n.1))

  pub release_some : i < length l → release l i ≡ done (set l i 0)
  unfolding release
  release_some h = need_true _ _ (lt-ltb _ _ h)
