-- The calls of updates over variable tables and lanes: a start, refused or let in, and a run, with its lane stored or
-- not.
use mathlib.Core.Path.{◌≡◌, refl, sym, ap, ◌∙◌}
use mathlib.Core.Logic.{◌≢◌}
use mathlib.Core.Bool.{Bool}
use mathlib.Core.List.{List}
use Prim.Native.Nat.{ℕ, ◌*◌, ◌/◌, ◌<◌, ◌≤◌}
use native.Mathlib.Omega.{arith}
use denote.Param.Members.{Shared}
use denote.Ref.{Bor}
use lib.Dec.{eqb, ltb, leb}
use lib.ListN.{length}
use borrow.Author.Tests.{lt-ltb, leb-true, ne_eqb}
use Rattle.std.proofs.lemmas.List.Edits.{sets}
use Rattle.std.specs.Fn.{FnReturnsAt}
use Rattle.std.specs.Simd.{first_chunks}
use Rattle.base.specs.Outcome.{Outcome, corrupt, blocked, done, pick}
use Rattle.base.specs.Table.{at}
use Rattle.words.specs.Part.{part}
use Rattle.index.specs.Index.{Index}
use Rattle.stage.specs.Turn.{is_idle}
use Rattle.stage.specs.declared.Updater.{Updater}
use Rattle.tables.specs.Tables.{Tables}
use Rattle.calls.specs.Call.{after, after_of, unless}
use Rattle.calls.specs.Refusals.{refusal_number}
use Rattle.calls.proofs.Runs.{no_step}
use Rattle.calls.specs.declared.refusal.Refusal.{Refusal}
use Rattle.calls.specs.Run.{ran_of}
use Rattle.update_run.specs.Run.{run_one}
use Rattle.updates.specs.One.{started_one, start_one}
use Rattle.codes.specs.Updaters.{names_stage, stage_in, updater_in, with_updater, started_updater, code_updater, decode_updater}
use Rattle.codes.proofs.Updaters.{stage_read, lane_seen}
use Rattle.gurtheddu.specs.Coded.{coded, coded_run, start_update, run_update}
use Rattle.gurtheddu.specs.Promise.{FoundLane, LostLane}
use Rattle.gurtheddu.proofs.Found.{Here, found, Lost, lost, lost_call, lost_run, run_kept, run_stored}
use Rattle.gurtheddu.proofs.Ends.{Starting, away, let_in, past, sent_away, stored}

-- ---- the lane

module _ {F : Type 0} {g : Shared F (Bor (List ℕ) × Unit {0}) Bool} {f : F}
    (says : (s : Bor (List ℕ)) (b : Bool) → g.post f (s, tt) b → b ≡ leb (at s.now 4) 14)
    (ns : List ℕ) (size : length ns ≡ 80) (chunks : List (List ℕ))
    (front : chunks ≡ first_chunks 10 (length ns / 10) ns)
    (len : length chunks ≡ length ns / 10) (l : ℕ) where
  -- what the test of a lane's numbers answers
  said : (x : List ℕ) (b : Bool) → x ≡ part (10 * l) 10 ns → FnReturnsAt g f x b → b ≡ names_stage ns l
  said x b e m =
      says m.shown b m.says.met ∙ ap (λ (z : List ℕ). leb (at z 4) 14) (m.shows ∙ e)
      ∙ ap (λ (i : ℕ). leb i 14) (stage_read ns l)

  pub updater_found : (x : List ℕ) → FoundLane (FnReturnsAt g f) chunks l x → Here 10 8 ns l (names_stage ns l) x
  updater_found =
      found 10 8 ns (ap (λ (i : ℕ). i / 10) size) chunks front len (FnReturnsAt g f) l (names_stage ns l) said

  pub updater_lost : (r : Refusal) → LostLane (FnReturnsAt g f) chunks l r
      → Lost 8 l (names_stage ns l) (refusal_number r)
  updater_lost = lost 10 8 ns (ap (λ (i : ℕ). i / 10) size) chunks front len (FnReturnsAt g f) l (names_stage ns l) said

-- ---- a start

entered : (t : Tables) (u : Updater) (o : Outcome Index) → Starting u (started_one t u o)
unfolding started_one
entered t u corrupt = away {n = 12} (λ z. omega arith)
entered t u blocked = away {n = 12} (λ z. omega arith)
entered t u (done d) = let_in

pub starting : (t : Tables) (l : ℕ) (u : Updater) (k x y m : ℕ)
    → Starting (started_updater k x y m) (start_one t l u k x y m)
unfolding start_one
starting t l u k x y m =
    past _ 12 _ (λ z. omega arith) (past _ 1 _ (λ z. omega arith) (past _ 2 _ (λ z. omega arith)
    (past _ 4 _ (λ z. omega arith) (past _ 5 _ (λ z. omega arith) (past _ 31 _ (λ z. omega arith)
    (past _ 7 _ (λ z. omega arith) (past _ 8 _ (λ z. omega arith) (entered t _ _))))))))

module _ (t : Tables) (ns : List ℕ) (l k x y m : ℕ) where
  -- of the update in the lane only whether it is idle is looked at
  pub alike : (u v : Updater) → is_idle u.stage ≡ is_idle v.stage → start_one t l u k x y m ≡ start_one t l v k x y m
  unfolding start_one
  alike u v h = rw h

  -- no lane is found
  pub start_lost : (r : ℕ) → Lost 8 l (names_stage ns l) r → after t ns (start_update t ns l k x y m) ≡ after_of r t ns
  unfolding start_update
  start_lost r h = lost_call t ns (ltb l 8) (names_stage ns l) r _ h.0 h.1

  module _ (z : List ℕ) (here : Here 10 8 ns l (names_stage ns l) z) (p : Updater)
      (seen : is_idle p.stage ≡ eqb (at z 4) 0) (t' : Tables) where
    same : start_update t ns l k x y m ≡ coded (with_updater ns l) (start_one t l p k x y m)
    unfolding start_update unless
    same =
        let idle = rw (here.is, stage_read ns l) at seen in
        rw (lt-ltb l 8 here.lane, here.named)
        (ap (coded (with_updater ns l)) (alike (updater_in ns l) p
        (lane_seen ns l (leb-true (stage_in ns l) 14 here.named) ∙ sym idle)))

    pub start_refused : (r : Refusal) → after t p (start_one t l p k x y m) ≡ after_of (refusal_number r) t' p
        → after t ns (start_update t ns l k x y m) ≡ after_of (refusal_number r) t' ns
    start_refused r e = ap (after t ns) same
        ∙ sent_away (with_updater ns l) t p ns (refusal_number r) t' p _ (starting t l p k x y m) e (no_step r).0

    pub start_accepted : (v : Updater) → after t p (start_one t l p k x y m) ≡ after_of 0 t' v
        → (ms : List ℕ) → ms ≡ code_updater v → (ns' : List ℕ) → ns' ≡ sets ns (10 * l) ms
        → after t ns (start_update t ns l k x y m) ≡ after_of 0 t' ns'
    start_accepted v e ms c ns' h =
        ap (after t ns) same ∙ stored (with_updater ns l) t p ns 0 t' v _ (starting t l p k x y m) e refl
        ∙ ap (after_of 0 t') (sym (rw c at h))

-- ---- a run

module _ (t : Tables) (ns : List ℕ) (l b : ℕ) (some : b ≢ 0) where
  -- no lane is found
  pub run_lost : (r : ℕ) → Lost 8 l (names_stage ns l) r → run_update b l t ns ≡ ran_of r 0 t ns
  unfolding run_update pick
  run_lost r h = rw (ne_eqb b 0 some) (lost_run t ns (ltb l 8) (names_stage ns l) r _ h.0 h.1)

  module _ (z : List ℕ) (here : Here 10 8 ns l (names_stage ns l) z) (u : Updater) (is : u ≡ decode_updater z)
      (n m : ℕ) (t' : Tables) (v : Updater) (e : run_one b l t u ≡ ran_of n m t' v) where
    onward : run_update b l t ns ≡ coded_run ns (with_updater ns l) (ran_of n m t' v)
    unfolding run_update pick
    onward =
        let lane : updater_in ns l ≡ u = sym (is ∙ ap decode_updater here.is) in
        rw (ne_eqb b 0 some, lt-ltb l 8 here.lane, here.named)
        (ap (coded_run ns (with_updater ns l)) (ap (λ (w : Updater). run_one b l t w) lane ∙ e))

    pub run_unmade : m ≤ 0 → run_update b l t ns ≡ ran_of n m t' ns
    run_unmade h = onward ∙ run_kept ns (with_updater ns l) n m t' v h

    pub run_made : 0 < m → (ms : List ℕ) → ms ≡ code_updater v → (ns' : List ℕ) → ns' ≡ sets ns (10 * l) ms
        → run_update b l t ns ≡ ran_of n m t' ns'
    run_made h ms c ns' g = onward ∙ run_stored ns (with_updater ns l) n m t' v h ∙ ap (ran_of n m t') (sym (rw c at g))
