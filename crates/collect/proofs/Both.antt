-- A COLLECTION IS A READING AND THEN THE CLEARING, for all tables, lanes and lent lists: refused as the reading is, and then nothing is cleared; else number, steps
-- and list are those of the reading, and the lanes are those that the clearing leaves. And the tests that a collection makes, written out. By the cases of a reading.
use mathlib.Core.Path.{◌≡◌, refl, sym, ap, ◌∙◌}
use mathlib.Core.Logic.{◌≢◌}
use mathlib.Core.Bool.{Bool, true, false, not}
use mathlib.Core.List.{List, []}
use Prim.Native.Nat.{ℕ, ◌*◌}
use lib.Dec.{eqb, ltb, leb}
use lib.ListN.{length, get_or}
use borrow.Author.Tests.{ne_eqb}
use Rattle.base.specs.Outcome.{pick}
use Rattle.std.specs.Prelude.{Result as Answer, Ok, Err, IsOk}
use Rattle.query.specs.declared.Query.{Query}
use Rattle.tables.specs.Tables.{Tables, right_lengths}
use Rattle.calls.specs.Call.{Result, answered, After, after, after_of, unless}
use Rattle.calls.specs.Refusals.{told_call}
use Rattle.calls.specs.declared.refusal.Refusal.{Refusal}
use Rattle.calls.proofs.Runs.{no_step}
use Rattle.queries.specs.Query.{idle_query, is_idle, is_finished}
use Rattle.collect.specs.Collect.{Handed, handed_of, read_query, clear_query, cleared, then_clear, collect_query}
use Rattle.collect.specs.Filling.{Filling, filling_of, written, read_into, collect_into}
use Rattle.collect.proofs.Cases.{idled_lane, clear_passes, read_out, taken_out, Ready, read_cases}

-- with the queries as they are left
abbrev pub with_queries : Filling → List Query → Filling
with_queries f qs = filling_of f.number f.tables qs f.steps f.filled f.list

module _ (t : Tables) (qs : List Query) (l : ℕ) (out : List ℕ) where
  -- what is to be shown, of what a reading ends in
  abbrev Both : Result Handed → Type 0
  Both r =
      let a = after t (handed_of qs 0 []) r in
      written (after t (handed_of qs 0 []) (then_clear l r)) out
      ≡ pick (eqb a.number 0) (with_queries (written a out) (after t qs (clear_query t qs l)).lanes) (written a out)

  both_done : Ready t qs l (length out) → clear_query t qs l ≡ answered 0 t (idled_lane t qs l)
  both_done R = clear_passes t qs l R.query

  pub into_both : collect_into t qs l out ≡ pick (eqb (read_into t qs l out).number 0) (with_queries (read_into t qs l out) (after t qs (clear_query t qs l)).lanes) (read_into t qs l out)
  unfolding collect_into read_into collect_query then_clear cleared after pick
  into_both = read_cases t qs l (length out) Both refl refl refl refl refl (λ R. rw (both_done R))

  -- the reading is refused
  pub both_refused : {n k f : ℕ} {out' : List ℕ} → read_into t qs l out ≡ filling_of n t qs k f out' → n ≢ 0 → collect_into t qs l out ≡ filling_of n t qs k f out'
  unfolding pick
  both_refused {n} e h = into_both ∙ rw (e, ne_eqb n 0 h)

  -- it is accepted, and so is the clearing
  both_passes : (read_into t qs l out).number ≡ 0 → clear_query t qs l ≡ answered 0 t (idled_lane t qs l)
  unfolding read_into after
  both_passes =
      read_cases t qs l (length out)
      (λ r. (written (after t (handed_of qs 0 []) r) out).number ≡ 0 → clear_query t qs l ≡ answered 0 t (idled_lane t qs l))
      (λ e. cc) (λ e. cc) (λ e. cc) (λ e. cc) (λ e. cc) (λ R e. both_done R)

  pub both_ok : {k f : ℕ} {out' : List ℕ} → read_into t qs l out ≡ filling_of 0 t qs k f out'
      → (a : Answer (List Query) Refusal) → after t qs (clear_query t qs l) ≡ told_call qs a t → IsOk a
  unfolding after
  both_ok e (Ok qs') h = refl
  both_ok {k} {f} {out'} e (Err r) h =
      let n : (read_into t qs l out).number ≡ 0 = ap (λ (g : Filling). g.number) e in
      let p = rw (both_passes n) at h in
      absurd ((no_step r).0 (sym (ap (λ (a : After (List Query)). a.number) p)))

  -- then number, steps and list are those of the reading, and the lanes are those that the clearing leaves
  pub both_accepted : {n k f m : ℕ} {out' : List ℕ} {qs' : List Query} → read_into t qs l out ≡ filling_of n t qs k f out' → n ≡ 0
      → after t qs (clear_query t qs l) ≡ after_of m t qs' → collect_into t qs l out ≡ filling_of n t qs' k f out'
  unfolding pick
  both_accepted e h c = into_both ∙ rw (e, h, c)

-- THE TESTS OF A COLLECTION, one after the other, and what it leaves.
module _ (t : Tables) (qs : List Query) (l n : ℕ) where
  clear_past : (b : Bool) (k : ℕ) (r s : Result Handed) → (b ≡ true → then_clear l r ≡ s) → then_clear l (unless b k r) ≡ unless b k s
  unfolding unless then_clear
  clear_past true k r s f = f refl
  clear_past false k r s f = refl

  pub collect_as_before : collect_query t qs l n ≡
      unless (right_lengths t) 12
      (unless (ltb l 4) 1
      (unless (not (is_idle (get_or qs l idle_query).stage)) 3
      (unless (is_finished (get_or qs l idle_query).stage) 10
      (unless (leb (4 * (get_or qs l idle_query).hits) n) 11
      (unless (leb (get_or qs l idle_query).hits 256) 12
      (answered 0 t (taken_out t qs l n)))))))
  unfolding collect_query read_query then_clear cleared
  collect_as_before =
      clear_past _ _ _ _ (λ a. clear_past _ _ _ _ (λ b. clear_past _ _ _ _ (λ c. clear_past _ _ _ _ (λ d. clear_past _ _ _ _ (λ _. clear_past _ _ _ _ (λ _.
      ap (cleared (read_out t qs l n)) (clear_passes t qs l (record { lengths = a; lane = b; busy = c; over = d }))))))))
