-- The tests of a reading from a variable lane: one law for each way in which they end, and what the reading comes to by
-- the answer to them. The tests of a clearing are the first four.
use mathlib.Core.Path.{◌≡◌, ap, sym, ◌∙◌}
use mathlib.Core.Bool.{Bool, true, false}
use Rattle.std.specs.Prelude.{None, Some, Result, Ok, Err}
use mathlib.Core.List.{List}
use Prim.Native.Nat.{ℕ, ◌*◌, ◌<◌, ◌≤◌}
use lib.ListN.{length}
use borrow.Author.Tests.{lt-ltb, le-ltb, le-leb, lt-leb}
use Rattle.base.specs.Step.{said}
use Rattle.hits.specs.Hits.{Hits}
use Rattle.query.specs.declared.Query.{Query}
use Rattle.tables.specs.Tables.{Tables, right_lengths}
use Rattle.calls.specs.Call.{unless, after, after_of}
use Rattle.calls.specs.Refusals.{refusal_number}
use Rattle.calls.specs.declared.refusal.Refusal.{Refusal}
use Rattle.queries.specs.Query.{is_idle, is_finished}
use Rattle.collect.specs.Admission.{ask, admitted_one, admission_says}
use Rattle.collect.specs.Collect.{idled, entries_from}
use Rattle.collect.specs.Filling.{over}
use Rattle.collect.specs.One.{clear_one, filling_one_of, read_one_into}
use Rattle.collect.proofs.Asked.{Passed, passed, into_refused, into_accepted}

-- ---- how the tests end

module _ (q : Query) (l n : ℕ) where
  -- a wrong length
  pub asked_sizes : (right : Bool) → right ≡ false → admitted_one right q l n ≡ said 12 None
  unfolding admitted_one ask
  asked_sizes right s = rw s

  module _ (right : Bool) (s : right ≡ true) where
    -- no such lane
    pub asked_lane : 4 ≤ l → admitted_one right q l n ≡ said 1 None
    unfolding admitted_one ask
    asked_lane h = rw (s, le-ltb l 4 h)

    module _ (l< : l < 4) where
      pub asked_idle : is_idle q.stage ≡ true → admitted_one right q l n ≡ said 3 None
      unfolding admitted_one ask
      asked_idle h = rw (s, lt-ltb l 4 l<, h)

      module _ (i : is_idle q.stage ≡ false) where
        pub asked_unfinished : is_finished q.stage ≡ false → admitted_one right q l n ≡ said 10 None
        unfolding admitted_one ask
        asked_unfinished h = rw (s, lt-ltb l 4 l<, i, h)

        module _ (f : is_finished q.stage ≡ true) where
          -- a list that is too short
          pub asked_short : n < 4 * q.hits → admitted_one right q l n ≡ said 11 None
          unfolding admitted_one ask
          asked_short h = rw (s, lt-ltb l 4 l<, i, f, lt-leb _ _ h)

          module _ (m : 4 * q.hits ≤ n) where
            -- more hits than a list has entries
            pub asked_many : 256 < q.hits → admitted_one right q l n ≡ said 12 None
            unfolding admitted_one ask
            asked_many h = rw (s, lt-ltb l 4 l<, i, f, le-leb _ _ m, lt-leb _ _ h)

            pub asked_done : q.hits ≤ 256 → admitted_one right q l n ≡ said 0 (Some q)
            unfolding admitted_one ask
            asked_done h = rw (s, lt-ltb l 4 l<, i, f, le-leb _ _ m, le-leb _ _ h)

-- ---- the same from the answer of `admit`

module _ (right : Bool) (q₀ : Query) (l n : ℕ) (r : Result Query Refusal)
    (e : admitted_one right q₀ l n ≡ admission_says r) where
  pub says_refused : (k : Refusal) → r ≡ Err k → admitted_one right q₀ l n ≡ said (refusal_number k) None
  says_refused k c = e ∙ ap admission_says c

  pub says_accepted : (q : Query) → r ≡ Ok q → admitted_one right q₀ l n ≡ said 0 (Some q)
  says_accepted q c = e ∙ ap admission_says c

  pub accepted_passed : (q : Query) → r ≡ Ok q → Passed right l n q
  accepted_passed q c = passed right q₀ l n (says_accepted q c)

module _ (right : Bool) (q₀ : Query) (l : ℕ) (out : List ℕ) (r : Result Query Refusal)
    (e : admitted_one right q₀ l (length out) ≡ admission_says r) (t : Tables) (s : right_lengths t ≡ right) where
  pub handed_none : (k : Refusal) → r ≡ Err k → read_one_into t l q₀ out ≡ filling_one_of (refusal_number k) t 0 0 out
  handed_none k c = into_refused t l right s q₀ out (refusal_number k) (says_refused right q₀ l (length out) r e k c)

  -- the entries were written
  pub handed_over : (q : Query) → r ≡ Ok q → (h : Hits) → t.hits ≡ h → (l' : List ℕ)
      → l' ≡ over (entries_from h (256 * l) q.hits) out
      → (k : ℕ) → k ≡ q.steps → (f : ℕ) → f ≡ 4 * q.hits → read_one_into t l q₀ out ≡ filling_one_of 0 t k f l'
  handed_over q c h d l' z k ek f ef =
      into_accepted t l right s q₀ out q (says_accepted right q₀ l (length out) r e q c) l'
      (z ∙ ap (λ (u : Hits). over (entries_from u (256 * l) q.hits) out) (sym d))
      ∙ rw (ek, ef)

-- ---- a clearing

module _ (t : Tables) (q : Query) (l : ℕ) where
  pub clear_sizes : right_lengths t ≡ false → after t q (clear_one t l q) ≡ after_of 12 t q
  unfolding clear_one unless after
  clear_sizes s = rw s

  module _ (s : right_lengths t ≡ true) where
    pub clear_lane_lem : 4 ≤ l → after t q (clear_one t l q) ≡ after_of 1 t q
    unfolding clear_one unless after
    clear_lane_lem h = rw (s, le-ltb l 4 h)

    module _ (l< : l < 4) where
      pub clear_idle : is_idle q.stage ≡ true → after t q (clear_one t l q) ≡ after_of 3 t q
      unfolding clear_one unless after
      clear_idle h = rw (s, lt-ltb l 4 l<, h)

      module _ (i : is_idle q.stage ≡ false) where
        pub clear_unfinished : is_finished q.stage ≡ false → after t q (clear_one t l q) ≡ after_of 10 t q
        unfolding clear_one unless after
        clear_unfinished h = rw (s, lt-ltb l 4 l<, i, h)

        pub clear_done : is_finished q.stage ≡ true → (q' : Query) → q' ≡ idled q
            → after t q (clear_one t l q) ≡ after_of 0 t q'
        unfolding clear_one unless after
        clear_done h q' e = rw (s, lt-ltb l 4 l<, i, h, e)
