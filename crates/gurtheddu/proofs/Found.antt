-- A lane among the chunks of all lanes' numbers: found, it is the part of them with its numbers; and why it is not
-- found.
use mathlib.Core.Path.{◌≡◌, sym, ap, ◌∙◌}
use mathlib.Core.Bool.{Bool, true, false, ◌&&◌}
use mathlib.Core.List.{List}
use Prim.Native.Nat.{ℕ, zero, suc, ◌+◌, ◌*◌, ◌/◌, ◌<◌, ◌≤◌}
use native.Mathlib.Omega.{arith}
use lib.Dec.{ltb}
use lib.ListN.{length, take, drop, get_or}
use borrow.Author.Tests.{lt-ltb, le-ltb, eq-eqb, ne_eqb}
use Rattle.std.specs.Simd.{first_chunks}
use Rattle.std.proofs.lemmas.List.{drop-drop}
use Rattle.base.specs.Numbers.{NO-SUCH-LANE, CORRUPT}
use Rattle.base.specs.Outcome.{pick}
use Rattle.words.specs.Part.{part}
use Rattle.tables.specs.Tables.{Tables}
use Rattle.calls.specs.Call.{Result, after, after_of, unless}
use Rattle.calls.specs.Run.{Ran, ran_of}
use Rattle.calls.specs.Refusals.{refusal_number}
use Rattle.calls.specs.declared.refusal.Refusal.{Refusal}
use Rattle.collect.specs.One.{FillingOne, filling_one_of}
use Rattle.gurtheddu.specs.Coded.{coded_run}
use Rattle.gurtheddu.specs.Promise.{FoundLane, LostLane, laneless, nameless}

-- a chunk is a part
chunk_part : (n k l : ℕ) (ns d : List ℕ) → l < k → get_or (first_chunks n k ns) l d ≡ part (n * l) n ns
chunk_part n zero l ns d h = absurd (omega arith)
chunk_part n (suc k) zero ns d h =
    let front : 0 ≡ n * 0 = omega arith in
    ap (λ (i : ℕ). part i n ns) front
chunk_part n (suc k) (suc l) ns d h =
    let here : n + n * l ≡ n * suc l = omega arith in
    chunk_part n k l (drop n ns) d (omega arith) ∙ ap (take n) (drop-drop (n * l) n ns ∙ ap (λ (i : ℕ). drop i ns) here)

-- LANE l CANNOT BE TOLD, one of k lanes: there is no such lane, and m is 1, or its numbers name nothing, and m is 12.
abbrev pub Lost : ℕ → ℕ → Bool → ℕ → Type 0
Lost k l named m = ((ltb l k && named) ≡ false) × (m ≡ pick (ltb l k) CORRUPT NO-SUCH-LANE)

-- lane l is one of k lanes of n numbers each, its numbers are x, and they name something
pub record Here (n k : ℕ) (ns : List ℕ) (l : ℕ) (names : Bool) (x : List ℕ) : Type 0 where
  pub lane : l < k
  pub named : names ≡ true
  pub is : x ≡ part (n * l) n ns

module _ (n k : ℕ) (ns : List ℕ) (size : length ns / n ≡ k)
    (chunks : List (List ℕ)) (front : chunks ≡ first_chunks n (length ns / n) ns) (len : length chunks ≡ length ns / n) (names : List ℕ → Bool → Type 0) (l : ℕ) (named : Bool)
    (says : (x : List ℕ) (b : Bool) → x ≡ part (n * l) n ns → names x b → b ≡ named) where
  below : l < length chunks → l < k
  below h = omega arith

  chunk : (x : List ℕ) → l < length chunks → get_or chunks l x ≡ x → x ≡ part (n * l) n ns
  chunk x h e = sym (rw (front, size) at e) ∙ chunk_part n k l ns x (below h)

  pub found : (x : List ℕ) → FoundLane names chunks l x → Here n k ns l named x
  found x f =
      let e = chunk x f.lane f.is in
      record { lane = below f.lane; named = sym (says x true e f.named); is = e }

  pub lost : (r : Refusal) → LostLane names chunks l r → Lost k l named (refusal_number r)
  unfolding pick
  lost _ (laneless h) =
      let e : ltb l k ≡ false = le-ltb l k (omega arith) in
      (rw e, rw e)
  lost _ (nameless x h e w) =
      let t : ltb l k ≡ true = lt-ltb l k (below h) in
      let m : named ≡ false = sym (says x false (chunk x h e) w) in
      (rw (t, m), rw t)

-- a call in such a lane, and a run of some steps
module _ {L : Type 0} (t : Tables) (ls : L) where
  pub lost_call : (b c : Bool) (m : ℕ) (k : Result L) → (b && c) ≡ false → m ≡ pick b 12 1
      → after t ls (unless b 1 (unless c 12 k)) ≡ after_of m t ls
  unfolding unless after pick
  lost_call false c m k e f = rw f
  lost_call true false m k e f = rw f
  lost_call true true m k e f = let g : true ≡ false = e in cc

  pub lost_run : (b c : Bool) (m : ℕ) (r : Ran L) → (b && c) ≡ false → m ≡ pick b 12 1
      → pick b (pick c r (ran_of 12 0 t ls)) (ran_of 1 0 t ls) ≡ ran_of m 0 t ls
  unfolding pick
  lost_run false c m r e f = rw f
  lost_run true false m r e f = rw f
  lost_run true true m r e f = let g : true ≡ false = e in cc

-- and a reading
module _ (t : Tables) (out : List ℕ) where
  pub lost_reading : (b c : Bool) (m : ℕ) (r : FillingOne) → (b && c) ≡ false → m ≡ pick b 12 1
      → pick b (pick c r (filling_one_of 12 t 0 0 out)) (filling_one_of 1 t 0 0 out) ≡ filling_one_of m t 0 0 out
  unfolding pick
  lost_reading false c m r e f = rw f
  lost_reading true false m r e f = rw f
  lost_reading true true m r e f = let g : true ≡ false = e in cc

-- the numbers after a run: those of the lane that it leaves, if a step is carried out
module _ {L : Type 0} (ns : List ℕ) (store : L → List ℕ) (n m : ℕ) (t : Tables) (v : L) where
  pub run_kept : m ≤ 0 → coded_run ns store (ran_of n m t v) ≡ ran_of n m t ns
  unfolding pick
  run_kept h = rw (eq-eqb m 0 (omega arith))

  pub run_stored : 0 < m → coded_run ns store (ran_of n m t v) ≡ ran_of n m t (store v)
  unfolding pick
  run_stored h = rw (ne_eqb m 0 (λ z. omega arith))
