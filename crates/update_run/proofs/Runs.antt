-- A run over variable tables: a step that gives 0 leaves the lane busy, the loop's invariant, and the runs that are refused at their first step.
use mathlib.Core.Path.{◌≡◌, refl, ap, sym, ◌∙◌}
use mathlib.Core.Logic.{◌≢◌}
use mathlib.Core.Bool.{true, false}
use Rattle.std.specs.Prelude.{None, Some, Result as Ended, Ok, Err}
use mathlib.Core.List.{List}
use Prim.Native.Nat.{ℕ, ◌+◌, ◌<◌, ◌≤◌}
use native.Mathlib.Omega.{arith}
use lib.IntN.{ℤ}
use lib.ListN.{length}
use Rattle.base.specs.Outcome.{Outcome, corrupt, blocked, done, pick}
use Rattle.base.specs.Step.{Said, said, turn_tells, turned}
use Rattle.base.proofs.Table.{clash}
use Rattle.stage.specs.Turn.{Move, turn_says, is_idle}
use Rattle.stage.specs.declared.Stage.{Stage}
use Rattle.stage.specs.declared.Updater.{Updater}
use Rattle.stage.specs.declared.Turn.{Turn}
use Rattle.stage.specs.declared.Turn.TheVariants.{Advanced, Restarted, Finished}
use Rattle.base.specs.declared.Stop.{Stop}
use Rattle.base.specs.declared.Stop.TheVariants.{Corrupt, Blocked}
use Rattle.words.specs.Map.{WORDS, TIMES}
use Rattle.tables.specs.Tables.{Tables, right_lengths}
use Rattle.tables.specs.Grid.{grid}
use Rattle.tables.proofs.Grid.{right_words_lem}
use Rattle.calls.specs.Call.{Result, After, after, after_of, next_lanes}
use Rattle.calls.specs.Run.{ran_of, carried_out}
use Rattle.calls.specs.Refusals.{refusal_number, pace_number, told_step}
use Rattle.calls.specs.declared.refusal.Refusal.{Refusal}
use Rattle.calls.specs.declared.pace.Pace.{Pace}
use Rattle.calls.specs.declared.pace.Pace.TheVariants.{Moved}
use Rattle.calls.specs.declared.pace.Stepped.{Stepped}
use Rattle.calls.proofs.Moves.{Moves, move_of}
use Rattle.calls.proofs.Runs.{run_none, run_ends, Running, running_first, running_out, told_ends, told_refused, told_more}
use Rattle.turns.specs.Stages.{stage_on}
use Rattle.updates.specs.Update.{with_stage}
use Rattle.updates.specs.One.{step_one}
use Rattle.updates.specs.Promise.{EndsTurn}
use Rattle.updates.proofs.Steps.{step_sizes, step_lane, step_idle, step_stage}
use Rattle.updates.proofs.Moves.{Moved as Ways, on, back, end, stage_moves}
use Rattle.update_run.specs.Run.{run_one}

-- ---- what comes after a step that gives 0 is not idle

goes_on : {n : ℕ} {s : Stage} → Ways n s → n ≡ 0 → is_idle s ≡ false
goes_on (on i) z = i
goes_on (back i) z = i
goes_on end z = absurd (omega arith)

said_on : {B : Type 0} (o : Outcome (Move B)) (s : Stage) → Moves Ways o → turn_tells o ≡ said 0 (Some s) → is_idle s ≡ false
unfolding turn_tells
said_on corrupt s m e = let z : None ≡ Some s = ap (λ (r : Said Stage). r.next) e in clash (cc)
said_on blocked s m e = let z : None ≡ Some s = ap (λ (r : Said Stage). r.next) e in clash (cc)
said_on (done d) s m e =
    let z : Some d.next ≡ Some s = ap (λ (r : Said Stage). r.next) e in
    let n : d.number ≡ 0 = ap (λ (r : Said Stage). r.number) e in
    let y : d.next ≡ s = cc in
    rw (← y) (goes_on (move_of m) n)

stays : (t t' : Tables) (o : ℕ) (u u' : Updater) (r : Ended Turn Stop) (n : ℕ)
    → turned t (stage_on t o u u.stage) ≡ (turn_says r, t') → n ≡ (turn_says r).number → u' ≡ next_lanes u (with_stage u) (turn_says r).next
    → n ≡ 0 → is_idle u'.stage ≡ false
stays t t' o u u' (Err Corrupt) n e en eu z = absurd (omega arith)
stays t t' o u u' (Err Blocked) n e en eu z = absurd (omega arith)
stays t t' o u u' (Ok Restarted) n e en eu z = absurd (omega arith)
stays t t' o u u' (Ok Finished) n e en eu z = absurd (omega arith)
stays t t' o u u' (Ok (Advanced s)) n e en eu z =
    let tells : turn_tells (stage_on t o u u.stage) ≡ said 0 (Some s) = ap (λ (w : Said Stage × Tables). w.0) e in
    rw eu (said_on (stage_on t o u u.stage) s (stage_moves t o u u.stage) tells)

-- the same of what a step tells
stays_told : (t t' : Tables) (o : ℕ) (u : Updater) (turn : Ended Turn Stop) (r : Ended (Stepped Updater) Refusal) {s : Stepped Updater}
    → turned t (stage_on t o u u.stage) ≡ (turn_says turn, t') → EndsTurn u turn r → r ≡ Ok s → s.pace ≡ Moved → is_idle s.lanes.stage ≡ false
stays_told t t' o u turn r {s} e ends p m =
    let a : After Updater = after_of (turn_says turn).number t' (next_lanes u (with_stage u) (turn_says turn).next) in
    let told : a ≡ after_of (pace_number s.pace) t' s.lanes = ends t' ∙ ap (λ (q : Ended (Stepped Updater) Refusal). told_step u q t') p in
    stays t t' o u s.lanes turn (pace_number s.pace) e (sym (ap (λ (b : After Updater). b.number) told)) (sym (ap (λ (b : After Updater). b.lanes) told))
    (ap (λ (q : Pace). pace_number q) m)

-- ---- the loop

abbrev steps : ℕ → Tables → Updater → Result Updater
steps l t u = step_one t l u

pub record Loop (l : ℕ) (w₀ : List ℕ) (x₀ : List ℤ) (n : ℕ) (u₀ : Updater) (w : List ℕ) (x : List ℤ) (u : Updater) (made : ℕ) : Type 0 where
  pub long : length w ≡ WORDS
  pub stamps : length x ≡ TIMES
  pub idle : is_idle u.stage ≡ false
  pub run : Running (steps l) n (grid w₀ x₀) u₀ (grid w x) u made

module _ (l : ℕ) (w₀ : List ℕ) (x₀ : List ℤ) (n : ℕ) (u₀ : Updater) where
  pub loop_first : length w₀ ≡ WORDS → length x₀ ≡ TIMES → is_idle u₀.stage ≡ false → Loop l w₀ x₀ n u₀ w₀ x₀ u₀ 0
  loop_first w# x# i = record { long = w#; stamps = x#; idle = i; run = running_first (steps l) n (grid w₀ x₀) u₀ }

  module _ (w : List ℕ) (x : List ℤ) (u : Updater) (made : ℕ) (R : Loop l w₀ x₀ n u₀ w x u made) where
    pub loop_out : n ≤ made → run_one n l (grid w₀ x₀) u₀ ≡ ran_of 0 n (grid w x) u
    unfolding run_one
    loop_out h =
        let all : made ≡ n = omega (arith, R.run.few) in
        running_out (steps l) n (grid w₀ x₀) u₀ (grid w x) u made R.run h ∙ ap (λ (j : ℕ). ran_of 0 j (grid w x) u) all

    -- a step
    module _ (l< : l < 8) (turn : Ended Turn Stop) (r : Ended (Stepped Updater) Refusal) (w' : List ℕ) (x' : List ℤ)
        (e : turned (grid w x) (stage_on (grid w x) (l + 1) u u.stage) ≡ (turn_says turn, grid w' x')) (ends : EndsTurn u turn r)
        (more : made < n) where
      stepped_on : after (grid w x) u (step_one (grid w x) l u) ≡ told_step u r (grid w' x')
      stepped_on = step_stage (grid w x) l u (right_words_lem w x R.long R.stamps) l< R.idle turn (grid w' x') r e ends

      pub loop_ends : {s : Stepped Updater} → r ≡ Ok s → s.pace ≢ Moved → (m : ℕ) → m ≡ carried_out (pace_number s.pace)
          → run_one n l (grid w₀ x₀) u₀ ≡ ran_of (pace_number s.pace) (made + m) (grid w' x') s.lanes
      unfolding run_one
      loop_ends p z m em = told_ends (steps l) n (grid w₀ x₀) u₀ (grid w x) u made R.run r (grid w' x') stepped_on more p z m em

      pub loop_refused : {a : Refusal} → r ≡ Err a → run_one n l (grid w₀ x₀) u₀ ≡ ran_of (refusal_number a) made (grid w' x') u
      unfolding run_one
      loop_refused p = told_refused (steps l) n (grid w₀ x₀) u₀ (grid w x) u made R.run r (grid w' x') stepped_on more p

      pub loop_more : length w' ≡ WORDS → length x' ≡ TIMES → {s : Stepped Updater} → r ≡ Ok s → s.pace ≡ Moved → Loop l w₀ x₀ n u₀ w' x' s.lanes (made + 1)
      loop_more w# x# p z =
          record {
            long = w#;
            stamps = x#;
            idle = stays_told (grid w x) (grid w' x') (l + 1) u turn r e ends p z;
            run = told_more (steps l) n (grid w₀ x₀) u₀ (grid w x) u made R.run r (grid w' x') stepped_on more p z;
          }

-- ---- a run that makes no step

module _ (n l : ℕ) (t : Tables) (u : Updater) where
  pub run_nothing : n ≡ 0 → run_one n l t u ≡ ran_of 0 0 t u
  unfolding run_one
  run_nothing z = run_none (steps l) n t u (omega arith)

  module _ (n> : n ≢ 0) where
    refused_at : (k : ℕ) → k ≢ 0 → carried_out k ≡ 0 → after t u (step_one t l u) ≡ after_of k t u → run_one n l t u ≡ ran_of k 0 t u
    unfolding run_one
    refused_at k z o e = run_ends (steps l) t u k t u e n (omega arith) z ∙ ap (λ (j : ℕ). ran_of k j t u) o

    pub run_sizes : right_lengths t ≡ false → run_one n l t u ≡ ran_of 12 0 t u
    unfolding carried_out pick
    run_sizes s = refused_at 12 (λ z. omega arith) refl (step_sizes t l u s)

    module _ (s : right_lengths t ≡ true) where
      pub run_lane : 8 ≤ l → run_one n l t u ≡ ran_of 1 0 t u
      unfolding carried_out pick
      run_lane h = refused_at 1 (λ z. omega arith) refl (step_lane t l u s h)

      pub run_idle : l < 8 → is_idle u.stage ≡ true → run_one n l t u ≡ ran_of 3 0 t u
      unfolding carried_out pick
      run_idle l< h = refused_at 3 (λ z. omega arith) refl (step_idle t l u s l< h)
