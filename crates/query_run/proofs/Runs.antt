-- A run over variable tables: a step that gives 0 leaves the lane neither idle nor finished, the loop's invariant, and the runs that are refused at their
-- first step.
use mathlib.Core.Path.{◌≡◌, refl, ap, sym, ◌∙◌}
use mathlib.Core.Logic.{◌≢◌}
use mathlib.Core.Bool.{true, false, not}
use Rattle.std.specs.Prelude.{None, Some, Result as Ended, Ok, Err}
use mathlib.Core.List.{List}
use Prim.Native.Nat.{ℕ, ◌+◌, ◌<◌, ◌≤◌}
use native.Mathlib.Omega.{arith}
use lib.IntN.{ℤ}
use lib.ListN.{length}
use Rattle.base.specs.Outcome.{Outcome, corrupt, blocked, done}
use Rattle.base.specs.Step.{Said, said, Step, turn_tells, turned}
use Rattle.base.proofs.Table.{clash}
use Rattle.std.proofs.lemmas.Bool.{not-true}
use Rattle.query.specs.Scan.{scan_number, progress_says}
use Rattle.query.specs.declared.Scan.{Scan}
use Rattle.query.specs.declared.Scan.TheVariants.{Idle, Enter, Read, Finished}
use Rattle.query.specs.declared.Query.{Query}
use Rattle.base.specs.declared.Stop.{Stop}
use Rattle.base.specs.declared.Stop.TheVariants.{Corrupt, Blocked}
use Rattle.words.specs.Map.{WORDS, TIMES}
use Rattle.tables.specs.Tables.{Tables, right_lengths}
use Rattle.tables.specs.Grid.{grid}
use Rattle.tables.proofs.Grid.{right_words_lem}
use Rattle.calls.specs.Call.{Result, After, after, after_of, next_lanes}
use Rattle.calls.specs.Refusals.{refusal_number, pace_number, told_step}
use Rattle.calls.specs.declared.refusal.Refusal.{Refusal}
use Rattle.calls.specs.declared.refusal.Refusal.TheVariants.{NoSuchLane, LaneIdle, QueryFinished, Corrupt as RefusalCorrupt}
use Rattle.calls.specs.declared.pace.Pace.{Pace}
use Rattle.calls.specs.declared.pace.Pace.TheVariants.{Moved}
use Rattle.calls.specs.declared.pace.Stepped.{Stepped}
use Rattle.calls.specs.Run.{ran_of, carried_out}
use Rattle.calls.proofs.Runs.{no_step, run_none, run_ends, Running, running_first, running_out, told_ends, told_refused, told_more}
use Rattle.queries.specs.Query.{is_idle, is_finished}
use Rattle.queries.specs.Scans.{scan_on}
use Rattle.queries.specs.One.{step_one}
use Rattle.queries.specs.Promise.{EndsStep}
use Rattle.queries.proofs.Steps.{step_sizes, step_lane, step_idle, step_finished, step_scan}
use Rattle.query_run.specs.Run.{run_one}
use Rattle.query_run.proofs.Busy.{busy, scan_busy}

-- ---- what comes after a step that gives 0

number_unfinished : (s : Scan) → scan_number s ≡ 0 → is_finished s ≡ false
unfolding is_finished
number_unfinished Idle h = refl
number_unfinished (Enter c) h = refl
number_unfinished (Read c s) h = refl
number_unfinished Finished h = absurd (omega arith)

busy_said : {B : Type 0} (o : Outcome (Step Query B)) (n : ℕ) (q : Query) → busy o ≡ true → turn_tells o ≡ said n (Some q) → is_idle q.stage ≡ false
unfolding busy turn_tells
busy_said corrupt n q b e = let z : None ≡ Some q = ap (λ (s : Said Query). s.next) e in clash (cc)
busy_said blocked n q b e = let z : None ≡ Some q = ap (λ (s : Said Query). s.next) e in clash (cc)
busy_said (done m) n q b e =
    let z : Some m.next ≡ Some q = ap (λ (s : Said Query). s.next) e in
    let y : m.next ≡ q = cc in
    let w : not (is_idle q.stage) ≡ true = rw y at b in
    not-true (is_idle q.stage) w

pub stays : (t t' : Tables) (l : ℕ) (q q' : Query) (r : Ended Query Stop) (n : ℕ)
    → turned t (scan_on t l q q.stage) ≡ (progress_says r, t') → n ≡ (progress_says r).number → q' ≡ next_lanes q (λ (s : Query). s) (progress_says r).next
    → n ≡ 0 → (is_idle q'.stage ≡ false) × (is_finished q'.stage ≡ false)
stays t t' l q q' (Err Corrupt) n e en eq z = absurd (omega arith)
stays t t' l q q' (Err Blocked) n e en eq z = absurd (omega arith)
stays t t' l q q' (Ok p) n e en eq z =
    let tells : turn_tells (scan_on t l q q.stage) ≡ said (scan_number p.stage) (Some p) = ap (λ (w : Said Query × Tables). w.0) e in
    rw eq (busy_said (scan_on t l q q.stage) (scan_number p.stage) p (scan_busy t l q q.stage) tells, number_unfinished p.stage (sym en ∙ z))

-- the same of a step that is told as a Result
stays_told : (t t' : Tables) (l : ℕ) (q : Query) (p : Ended Query Stop) (r : Ended (Stepped Query) Refusal) {s : Stepped Query}
    → turned t (scan_on t l q q.stage) ≡ (progress_says p, t') → EndsStep q p r → r ≡ Ok s → s.pace ≡ Moved
    → (is_idle s.lanes.stage ≡ false) × (is_finished s.lanes.stage ≡ false)
stays_told t t' l q p r {s} e ends o z =
    let a = after_of (progress_says p).number t' (next_lanes q (λ (s : Query). s) (progress_says p).next) in
    let told : a ≡ after_of (pace_number s.pace) t' s.lanes = ends t' ∙ ap (λ (r : Ended (Stepped Query) Refusal). told_step q r t') o in
    stays t t' l q s.lanes p (pace_number s.pace) e (sym (ap (λ (b : After Query). b.number) told)) (sym (ap (λ (b : After Query). b.lanes) told))
    (ap (λ (p : Pace). pace_number p) z)

-- ---- the loop

abbrev steps : ℕ → Tables → Query → Result Query
steps l t q = step_one t l q

pub record Loop (l : ℕ) (x : List ℤ) (w₀ : List ℕ) (n : ℕ) (q₀ : Query) (w : List ℕ) (q : Query) (made : ℕ) : Type 0 where
  pub same : length w ≡ length w₀
  pub idle : is_idle q.stage ≡ false
  pub finished : is_finished q.stage ≡ false
  pub run : Running (steps l) n (grid w₀ x) q₀ (grid w x) q made

module _ (l : ℕ) (x : List ℤ) (w₀ : List ℕ) (n : ℕ) (q₀ : Query) where
  pub loop_first : is_idle q₀.stage ≡ false → is_finished q₀.stage ≡ false → Loop l x w₀ n q₀ w₀ q₀ 0
  loop_first i f = record { same = refl; idle = i; finished = f; run = running_first (steps l) n (grid w₀ x) q₀ }

  module _ (w : List ℕ) (q : Query) (made : ℕ) (R : Loop l x w₀ n q₀ w q made) where
    pub loop_out : n ≤ made → run_one n l (grid w₀ x) q₀ ≡ ran_of 0 n (grid w x) q
    unfolding run_one
    loop_out h =
        let m : made ≡ n = omega (arith, R.run.few) in
        running_out (steps l) n (grid w₀ x) q₀ (grid w x) q made R.run h ∙ ap (λ (k : ℕ). ran_of 0 k (grid w x) q) m

    -- a step
    module _ (w# : length w₀ ≡ WORDS) (x# : length x ≡ TIMES) (l< : l < 4) (p : Ended Query Stop) (w' : List ℕ) (r : Ended (Stepped Query) Refusal)
        (e : turned (grid w x) (scan_on (grid w x) l q q.stage) ≡ (progress_says p, grid w' x)) (ends : EndsStep q p r) (more : made < n) where
      stepped_on : after (grid w x) q (step_one (grid w x) l q) ≡ told_step q r (grid w' x)
      stepped_on = step_scan (grid w x) l q (right_words_lem w x (R.same ∙ w#) x#) l< R.idle R.finished p (grid w' x) r e ends

      pub loop_refused : {z : Refusal} → r ≡ Err z → run_one n l (grid w₀ x) q₀ ≡ ran_of (refusal_number z) made (grid w' x) q
      unfolding run_one
      loop_refused o = told_refused (steps l) n (grid w₀ x) q₀ (grid w x) q made R.run r (grid w' x) stepped_on more o

      pub loop_ends : {s : Stepped Query} → r ≡ Ok s → s.pace ≢ Moved → (m : ℕ) → m ≡ carried_out (pace_number s.pace)
          → run_one n l (grid w₀ x) q₀ ≡ ran_of (pace_number s.pace) (made + m) (grid w' x) s.lanes
      unfolding run_one
      loop_ends o z m em = told_ends (steps l) n (grid w₀ x) q₀ (grid w x) q made R.run r (grid w' x) stepped_on more o z m em

      pub loop_more : length w' ≡ WORDS → {s : Stepped Query} → r ≡ Ok s → s.pace ≡ Moved → Loop l x w₀ n q₀ w' s.lanes (made + 1)
      loop_more w'# o z =
          let b = stays_told (grid w x) (grid w' x) l q p r e ends o z in
          record {
            same = w'# ∙ sym w#;
            idle = b.0;
            finished = b.1;
            run = told_more (steps l) n (grid w₀ x) q₀ (grid w x) q made R.run r (grid w' x) stepped_on more o z;
          }

-- ---- a run that makes no step

module _ (n l : ℕ) (t : Tables) (q : Query) where
  pub run_nothing : n ≡ 0 → run_one n l t q ≡ ran_of 0 0 t q
  unfolding run_one
  run_nothing z = run_none (steps l) n t q (omega arith)

  module _ (n> : n ≢ 0) where
    refused_at : (r : Refusal) → after t q (step_one t l q) ≡ after_of (refusal_number r) t q → run_one n l t q ≡ ran_of (refusal_number r) 0 t q
    unfolding run_one
    refused_at r e =
        let k = refusal_number r in
        run_ends (steps l) t q k t q e n (omega arith) (no_step r).0 ∙ ap (λ (j : ℕ). ran_of k j t q) (no_step r).1

    pub run_sizes : right_lengths t ≡ false → run_one n l t q ≡ ran_of 12 0 t q
    run_sizes s = refused_at RefusalCorrupt (step_sizes t l q s)

    module _ (s : right_lengths t ≡ true) where
      pub run_lane : 4 ≤ l → run_one n l t q ≡ ran_of 1 0 t q
      run_lane h = refused_at NoSuchLane (step_lane t l q s h)

      module _ (l< : l < 4) where
        pub run_idle : is_idle q.stage ≡ true → run_one n l t q ≡ ran_of 3 0 t q
        run_idle h = refused_at LaneIdle (step_idle t l q s l< h)

        pub run_finished : is_idle q.stage ≡ false → is_finished q.stage ≡ true → run_one n l t q ≡ ran_of 9 0 t q
        run_finished i h = refused_at QueryFinished (step_finished t l q s l< i h)
