-- Runs of steps: one step more, what is left of a run when some of its steps are made, and that A RUN OF ONE LANE, put among the lanes, IS THE RUN
-- OVER ALL LANES, call after call.
use mathlib.Core.Path.{◌≡◌, refl, sym, ap, ◌∙◌}
use mathlib.Core.Logic.{◌≢◌}
use mathlib.Core.Bool.{Bool, true, false}
use mathlib.Core.List.{List}
use Rattle.std.specs.Prelude.{Result as Ended, Ok, Err}
use Prim.Native.Nat.{ℕ, zero, suc, ◌+◌, ◌-◌, ◌<◌, ◌≤◌}
use native.Mathlib.Omega.{arith}
use lib.Dec.{eqb}
use lib.ListN.{length, get_or, set, length-set}
use lib.Seq.{set-get_or, set-set, get_or-set_same}
use borrow.Author.Tests.{eq-eqb, ne_eqb}
use Rattle.base.specs.Outcome.{pick}
use Rattle.tables.specs.Tables.{Tables}
use Rattle.calls.specs.Call.{Result, After, after, after_of, placed}
use Rattle.calls.specs.Run.{Ran, ran_of, carried_out, later, run_steps}
use Rattle.calls.specs.Refusals.{refusal_number, pace_number, told_step}
use Rattle.calls.specs.declared.refusal.Refusal.{Refusal}
use Rattle.calls.specs.declared.refusal.Refusal.TheVariants.{NoSuchLane, LaneTaken, LaneIdle, NoObject, OffGrid, CrossedCorners, GridFull, ClockExhausted}
use Rattle.calls.specs.declared.refusal.Refusal.TheVariants.{QueryFinished, QueryUnfinished, ShortOutput, Corrupt, Unreadable, Busy, TagOver, RadiusOver}
use Rattle.calls.specs.declared.pace.Pace.{Pace}
use Rattle.calls.specs.declared.pace.Pace.TheVariants.{Moved, Blocked, Restarted, Finished}
use Rattle.calls.specs.declared.pace.Stepped.{Stepped}

-- ---- one step more

module _ {L : Type 0} (step : Tables → L → Result L) where
  pub run_none : (m : ℕ) (t : Tables) (u : L) → m ≤ 0 → run_steps step m t u ≡ ran_of 0 0 t u
  unfolding run_steps
  run_none zero t u h = refl
  run_none (suc m) t u h = absurd (omega arith)

  module _ (t : Tables) (u : L) (k : ℕ) (t' : Tables) (u' : L) (e : after t u (step t u) ≡ after_of k t' u') where
    run_first : (m : ℕ) → 0 < m → run_steps step m t u ≡ pick (eqb k 0) (later 1 (run_steps step (m - 1) t' u')) (ran_of k (carried_out k) t' u')
    unfolding run_steps
    run_first zero h = absurd (omega arith)
    run_first (suc n) h =
        let n# : suc n - 1 ≡ n = omega arith in
        rw n# (ap (λ (a : After L). pick (eqb a.number 0) (later 1 (run_steps step n a.tables a.lanes)) (ran_of a.number (carried_out a.number) a.tables a.lanes)) e)

    pub run_ends : (m : ℕ) → 0 < m → k ≢ 0 → run_steps step m t u ≡ ran_of k (carried_out k) t' u'
    unfolding pick
    run_ends m h z = run_first m h ∙ rw (ne_eqb k 0 z)

    pub run_goes : (m : ℕ) → 0 < m → k ≡ 0 → run_steps step m t u ≡ later 1 (run_steps step (m - 1) t' u')
    unfolding pick
    run_goes m h z = run_first m h ∙ rw (eq-eqb k 0 z)

-- ---- how a step went, as a Result tells it

-- a refused step does not go on, and does not count
pub no_step : (r : Refusal) → (refusal_number r ≢ 0) × (carried_out (refusal_number r) ≡ 0)
unfolding carried_out pick
no_step NoSuchLane = (λ z. omega arith, refl)
no_step LaneTaken = (λ z. omega arith, refl)
no_step LaneIdle = (λ z. omega arith, refl)
no_step NoObject = (λ z. omega arith, refl)
no_step OffGrid = (λ z. omega arith, refl)
no_step CrossedCorners = (λ z. omega arith, refl)
no_step GridFull = (λ z. omega arith, refl)
no_step ClockExhausted = (λ z. omega arith, refl)
no_step QueryFinished = (λ z. omega arith, refl)
no_step QueryUnfinished = (λ z. omega arith, refl)
no_step ShortOutput = (λ z. omega arith, refl)
no_step Corrupt = (λ z. omega arith, refl)
no_step Unreadable = (λ z. omega arith, refl)
no_step Busy = (λ z. omega arith, refl)
no_step TagOver = (λ z. omega arith, refl)
no_step RadiusOver = (λ z. omega arith, refl)

-- only one that moves on has number 0
pub not_moved : (p : Pace) → p ≢ Moved → pace_number p ≢ 0
not_moved Moved z = absurd (z refl)
not_moved Blocked z = λ e. omega arith
not_moved Restarted z = λ e. omega arith
not_moved Finished z = λ e. omega arith

-- ---- when so many steps are made

-- the whole run is what is left of it, later
pub record Running {L : Type 0} (step : Tables → L → Result L) (n : ℕ) (t₀ : Tables) (u₀ : L) (t : Tables) (u : L) (made : ℕ) : Type 0 where
  pub few : made ≤ n
  pub rest : run_steps step n t₀ u₀ ≡ later made (run_steps step (n - made) t u)

module _ {L : Type 0} (step : Tables → L → Result L) (n : ℕ) (t₀ : Tables) (u₀ : L) where
  zero-later : (r : Ran L) → r ≡ later 0 r
  zero-later r = ap (λ (k : ℕ). ran_of r.number k r.tables r.lanes) (omega arith)

  pub running_first : Running step n t₀ u₀ t₀ u₀ 0
  running_first =
      let n# : n ≡ n - 0 = omega arith in
      record { few = omega arith; rest = ap (λ (m : ℕ). run_steps step m t₀ u₀) n# ∙ zero-later (run_steps step (n - 0) t₀ u₀) }

  module _ (t : Tables) (u : L) (made : ℕ) (R : Running step n t₀ u₀ t u made) where
    -- no step is left
    pub running_out : n ≤ made → run_steps step n t₀ u₀ ≡ ran_of 0 made t u
    running_out h =
        R.rest ∙ ap (later made) (run_none step (n - made) t u (omega arith)) ∙ ap (λ (k : ℕ). ran_of 0 k t u) (omega arith)

    module _ (k : ℕ) (t' : Tables) (u' : L) (e : after t u (step t u) ≡ after_of k t' u') (more : made < n) where
      -- a step ends the run
      pub running_ends : k ≢ 0 → run_steps step n t₀ u₀ ≡ ran_of k (made + carried_out k) t' u'
      running_ends z = R.rest ∙ ap (later made) (run_ends step t u k t' u' e (n - made) (omega arith) z)

      -- or it goes on
      pub running_more : k ≡ 0 → Running step n t₀ u₀ t' u' (made + 1)
      running_more z =
          let r = run_steps step (n - made - 1) t' u' in
          let n# : n - made - 1 ≡ n - (made + 1) = omega arith in
          let m# : made + (1 + r.made) ≡ (made + 1) + r.made = omega arith in
          record {
            few = omega arith;
            rest =
                R.rest ∙ ap (later made) (run_goes step t u k t' u' e (n - made) (omega arith) z)
                ∙ ap (λ (k : ℕ). ran_of r.number k r.tables r.lanes) m#
                ∙ ap (λ (m : ℕ). later (made + 1) (run_steps step m t' u')) n#;
          }

    -- the same of a step that is told as a Result
    module _ (r : Ended (Stepped L) Refusal) (t' : Tables) (e : after t u (step t u) ≡ told_step u r t') (more : made < n) where
      told_so : {q : Ended (Stepped L) Refusal} → r ≡ q → after t u (step t u) ≡ told_step u q t'
      told_so p = e ∙ ap (λ (q : Ended (Stepped L) Refusal). told_step u q t') p

      -- one that does not move on
      pub told_ends : {s : Stepped L} → r ≡ Ok s → s.pace ≢ Moved → (m : ℕ) → m ≡ carried_out (pace_number s.pace)
          → run_steps step n t₀ u₀ ≡ ran_of (pace_number s.pace) (made + m) t' s.lanes
      told_ends {s} p z m em =
          running_ends (pace_number s.pace) t' s.lanes (told_so p) more (not_moved s.pace z)
          ∙ ap (λ (j : ℕ). ran_of (pace_number s.pace) (made + j) t' s.lanes) (sym em)

      -- one that is refused
      pub told_refused : {a : Refusal} → r ≡ Err a → run_steps step n t₀ u₀ ≡ ran_of (refusal_number a) made t' u
      told_refused {a} p =
          let o : made + carried_out (refusal_number a) ≡ made = omega (arith, (no_step a).1) in
          running_ends (refusal_number a) t' u (told_so p) more (no_step a).0 ∙ ap (λ (j : ℕ). ran_of (refusal_number a) j t' u) o

      -- one that moves on
      pub told_more : {s : Stepped L} → r ≡ Ok s → s.pace ≡ Moved → Running step n t₀ u₀ t' s.lanes (made + 1)
      told_more {s} p z = running_more (pace_number s.pace) t' s.lanes (told_so p) more (ap (λ (q : Pace). pace_number q) z)

-- ---- a run of one lane among the lanes

-- what a run of lane l by itself comes to, put among the lanes
abbrev pub placed_run : {L : Type 0} → List L → ℕ → Ran L → Ran (List L)
placed_run ls l r = ran_of r.number r.made r.tables (set ls l r.lanes)

module _ {L : Type 0} (d : L) (one : Tables → L → Result L) (all : Tables → List L → Result (List L)) (l : ℕ)
    (is : (t : Tables) (ls : List L) → after t ls (all t ls) ≡ placed ls l (after t (get_or ls l d) (one t (get_or ls l d)))) where
  picked : (ls : List L) (b : Bool) (x : Ran (List L)) (y a : Ran L) → x ≡ placed_run ls l y → pick b x (placed_run ls l a) ≡ placed_run ls l (pick b y a)
  unfolding pick
  picked ls true x y a h = h
  picked ls false x y a h = refl

  pub run_calls : (n : ℕ) (t : Tables) (ls : List L) → l < length ls → run_steps all n t ls ≡ placed_run ls l (run_steps one n t (get_or ls l d))
  unfolding run_steps
  run_calls zero t ls h = ap (ran_of 0 0 t) (sym (set-get_or ls l d))
  run_calls (suc n) t ls h =
      let a = after t (get_or ls l d) (one t (get_or ls l d)) in
      let ls' = set ls l a.lanes in
      let g : get_or ls' l d ≡ a.lanes = get_or-set_same ls l a.lanes d h in
      let i : run_steps all n a.tables ls' ≡ placed_run ls' l (run_steps one n a.tables (get_or ls' l d)) = run_calls n a.tables ls' (rw (length-set ls l a.lanes) h) in
      let j : placed_run ls' l (run_steps one n a.tables (get_or ls' l d)) ≡ placed_run ls' l (run_steps one n a.tables a.lanes) = ap (λ (u : L). placed_run ls' l (run_steps one n a.tables u)) g in
      let b = run_steps one n a.tables a.lanes in
      let k : placed_run ls' l b ≡ placed_run ls l b = ap (ran_of b.number b.made b.tables) (set-set ls l a.lanes b.lanes) in
      ap (λ (c : After (List L)). pick (eqb c.number 0) (later 1 (run_steps all n c.tables c.lanes)) (ran_of c.number (carried_out c.number) c.tables c.lanes)) (is t ls)
      ∙ picked ls (eqb a.number 0) (later 1 (run_steps all n a.tables ls')) (later 1 b) (ran_of a.number (carried_out a.number) a.tables a.lanes) (ap (later 1) (i ∙ j ∙ k))
