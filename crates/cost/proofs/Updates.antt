-- The calls of updates keep what ties the past to the grid: the start of an update, and a step of one.
use mathlib.Core.Path.{◌≡◌, refl, sym, subst, ◌∙◌}
use mathlib.Core.Logic.{◌≢◌, ◌⊎◌, inl, inr, ⊎_elim}
use mathlib.Core.Bool.{Bool, true, false}
use Rattle.std.specs.Prelude.{None, Some}
use mathlib.Core.List.{List, [], ◌∷◌}
use Prim.Native.Nat.{ℕ, suc, ◌<◌}
use native.Mathlib.Omega.{arith}
use lib.Dec.{T, eqb, eqb_refl, eqb→eq}
use lib.Seq.{get_or-set_same, get_or-set_other}
use borrow.Author.Tests.{ltb-true, not-true}
use Rattle.base.specs.Lists.{In, here, there}
use Rattle.base.specs.Outcome.{Outcome, corrupt, blocked, done, pick}
use Rattle.base.specs.Table.{at, upd}
use Rattle.base.proofs.Table.{at_or, by_test, upd_same, upd_other, clash}
use Rattle.layout.specs.Place.{cell_of}
use Rattle.index.specs.Index.{entry_for}
use Rattle.stage.specs.Turn.{Move, is_idle}
use Rattle.stage.specs.declared.Stage.{Stage}
use Rattle.stage.specs.declared.Stage.TheVariants.{Idle, TakeObject}
use Rattle.stage.specs.declared.Updater.{Updater}
use Rattle.tables.specs.Tables.{Tables}
use Rattle.calls.specs.Call.{Result, refused, answered, after, unless, accepted_number, stepped as steppedCall}
use Rattle.calls.proofs.Moves.{Moves, move_of}
use Rattle.turns.specs.Stages.{stage_on}
use Rattle.updates.specs.Update.{idle_updater, with_stage, put_stage, update_start, update_step}
use Rattle.updates.proofs.Moves.{Moved, on as advanced, back, end, moved_end, stage_moves}
use Rattle.grid.specs.Run.{Grid, grid_of, Call, start_update, step_update, answer_of, call}
use Rattle.runs.specs.Quiet.{updater}
use Rattle.runs.specs.Sweeps.{query}
use Rattle.runs.proofs.Every.{Good, known_same, not_idle, below_stays}
use Rattle.runs.proofs.Parts.{Parts, stage_parts}
use Rattle.runs.proofs.Runs.{call_good}
use Rattle.runs.proofs.Sim.{stepped}
use Rattle.runs.proofs.SimStart.{entered_known}
use Rattle.runs.proofs.Stages.{Kept, still, on, stage_kept}
use Rattle.runs.proofs.View.{view, known_f}
use Rattle.cost.specs.Account.{Event, event_of, deed, deed_of, only_if, under_way, among, known, tally}
use Rattle.cost.proofs.Aside.{new, no_step, no_tally, aside}
use Rattle.cost.proofs.CallKinds.{rel_nothing}
use Rattle.cost.proofs.Lies.{May, may_step, may_start}
use Rattle.cost.proofs.Match.{match_kept}
use Rattle.cost.proofs.Rel.{busy, Rel, known_quiet}
use Rattle.cost.proofs.Verdict.{Verdict, no, yes, update_verdict, UpdateBegun, update_begun, deed_refused, deed_accepted}

-- ---- known objects

pub among_in : (k : ℕ) (ks : List ℕ) → among k ks ≡ true → In k ks
unfolding among pick
among_in k [] e = clash (cc)
among_in k (j ∷ js) e = go (eqb j k) refl e (λ z. among_in k js z)
  where
    go : (b : Bool) → eqb j k ≡ b → pick b true (among k js) ≡ true → (among k js ≡ true → In k js) → In k (j ∷ js)
    go true z w f = let q : j ≡ k = eqb→eq j k (rw z tt) in rw q here
    go false z w f = there (f w)

-- one more, if it is not there
pub in_old : (k j : ℕ) (ks : List ℕ) (b : Bool) → In j ks → In j (pick b ks (k ∷ ks))
unfolding pick
in_old k j ks true i = i
in_old k j ks false i = there i

pub in_new : (k : ℕ) (ks : List ℕ) (b : Bool) → among k ks ≡ b → In k (pick b ks (k ∷ ks))
unfolding pick
in_new k ks true e = among_in k ks e
in_new k ks false e = here

-- ---- the start of an update

module _ (past : List Event) (g : Grid) (R : Rel past g) (l k x y m : ℕ) (e : Event) (t' : Tables) (us' : List Updater) (is : deed e ≡ deed_of (Some (l, k)) None None None None)
    (B : UpdateBegun g.tables g.updaters l k x y m t' us') (G' : Good (grid_of t' us' g.queries)) where
  abbrev u : Updater
  u = record { oid = k; x = x; y = y; tag = m; stage = TakeObject }

  abbrev g' : Grid
  g' = grid_of t' us' g.queries

  known_more : known (e ∷ past) ≡ pick (among k (known past)) (known past) (k ∷ known past)
  unfolding known only_if
  known_more = rw is

  wider : (j : ℕ) → In j (known past) → In j (known (e ∷ past))
  wider j i = rw known_more (in_old k j (known past) (among k (known past)) i)

  knows : (j : ℕ) → T ((view g').known j) → In j (known (e ∷ past))
  unfolding view
  knows j t =
      let S = R.good.shape.index in
      let more : (λ (i : ℕ). known_f (entry_for t'.index i)) ≡ upd (λ (i : ℕ). known_f (entry_for g.tables.index i)) k true = rw B.tables (entered_known k S B.some B.entered) in
      let t₁ : T (upd (λ (i : ℕ). known_f (entry_for g.tables.index i)) k true j) = subst (λ (f : ℕ → Bool). T (f j)) more t in
      at_or j k
      (λ z. rw (z, known_more) (in_new k (known past) (among k (known past)) refl))
      (λ z. wider j (R.knows j (rw (upd_other (λ (i : ℕ). known_f (entry_for g.tables.index i)) k true j z) at t₁)))

  ties : (j : ℕ) → j < 8 → under_way (e ∷ past) j ≡ busy (updater g' j)
  unfolding under_way only_if busy is_idle pick
  ties j j< = at_or j l
      (λ z.
      let lane : updater g' j ≡ u = rw (B.updaters, z) (get_or-set_same g.updaters l u idle_updater (omega (arith, B.lane, R.good.shape.updaters))) in
      rw (is, lane, z) (upd_same (under_way past) l (Some k)))
      (λ z.
      let lane : updater g' j ≡ updater g j = rw B.updaters (get_or-set_other g.updaters l j u idle_updater z) in
      rw (is, lane) (upd_other (under_way past) l (Some k) j z ∙ R.ties j j<))

  may : (j c : ℕ) → May g' j c → May g j c ⊎ (T (new e j) × (c ≡ cell_of x y))
  unfolding only_if
  may j c m = ⊎_elim (λ w. inl w)
      (λ (w : (k ≡ j) × (cell_of x y ≡ c)). inr (rw (is, w.0) (eqb_refl j), sym w.1))
      (may_start g us' t' l u B.updaters B.lane R.good (rw B.tables) (rw B.tables) (rw B.tables) (rw B.tables) j c m)

  pub update_starts : Rel (e ∷ past) g'
  update_starts = aside e past g g' (cell_of x y) (rw is) (rw is) (no_step e past g g' (rw is)) (no_tally e past g g' (rw is) (rw is) (rw is)) R G' ties knows wider may
      (λ q q<. rw B.tables (R.match q q<)) (λ q q< i. refl) (λ q q< i f. refl)

-- ---- a step of an update

module _ (past : List Event) (g : Grid) (R : Rel past g) (l : ℕ) (l< : l < 8) (e : Event) (m : Move Tables) (is : deed e ≡ deed_of None (pick (eqb m.number 22) (Some l) None) None None None)
    (going : stage_on g.tables (suc l) (updater g l) (updater g l).stage ≡ done m) (was : is_idle (updater g l).stage ≡ false)
    (ends : is_idle m.next ≡ eqb m.number 22) (G' : Good (stepped g l m)) (may : (k c : ℕ) → May (stepped g l m) k c → May g k c) where
  abbrev g₁ : Grid
  g₁ = stepped g l m

  step_ties : (j : ℕ) → j < 8 → under_way (e ∷ past) j ≡ busy (updater g₁ j)
  unfolding under_way only_if busy pick
  step_ties j j< = at_or j l
      (λ z.
      let lane : updater g₁ j ≡ with_stage (updater g l) m.next = rw z (get_or-set_same g.updaters l (with_stage (updater g l) m.next) idle_updater (omega (arith, R.good.shape.updaters))) in
      by_test (eqb m.number 22)
      (λ w. rw (is, lane, ends, w, z) (upd_same (under_way past) l None))
      (λ w. rw (is, lane, ends, w, z) (R.ties l l< ∙ rw was)))
      (λ z.
      let lane : updater g₁ j ≡ updater g j = get_or-set_other g.updaters l j (with_stage (updater g l) m.next) idle_updater z in
      by_test (eqb m.number 22)
      (λ w. rw (is, lane, w) (upd_other (under_way past) l None j z ∙ R.ties j j<))
      (λ w. rw (is, lane, w) (R.ties j j<)))

  parts : Parts g.tables m.tables
  parts = stage_parts g.tables (suc l) (updater g l) (updater g l).stage m R.good.shape.lengths.next going

  knows_same : (view g₁).known ≡ (view g).known
  unfolding view
  knows_same = known_same g.tables.index m.tables.index parts.oids

  pub update_steps : Rel (e ∷ past) g₁
  update_steps = aside e past g g₁ 0 (rw is) (rw is) (no_step e past g g₁ (rw is)) (no_tally e past g g₁ (rw is) (rw is) (rw is)) R G' step_ties
      (λ k t. rw (known_quiet e past (rw is) (rw is)) (R.knows k (subst (λ (f : ℕ → Bool). T (f k)) knows_same t))) (λ k i. rw (known_quiet e past (rw is) (rw is)) i) (λ k c w. inl (may k c w))
      (λ q q<. match_kept (at g.tables.next) (at m.tables.next) (query g q) (query g q).stage (tally past q)
      (λ c b r h z d. below_stays g R.good m.tables (put_stage g.updaters l m.next) parts q q< c b r h z d) (R.match q q<))
      (λ q q< i. refl) (λ q q< i f. refl)

-- ---- as calls

-- by the tests of a call
pub by_tests : {L : Type 0} (P : Result L → Type 0) (b : Bool) (n : ℕ) (k : Result L) → P (refused n) → (b ≡ true → P k) → P (unless b n k)
unfolding unless
by_tests P true n k f h = h refl
by_tests P false n k f h = f

module _ (past : List Event) (g : Grid) (R : Rel past g) where
  abbrev t : Tables
  t = g.tables

  -- what a call of updates leaves, by what it comes to
  abbrev event_by : Call → Result (List Updater) → Event
  event_by c r = record { call = c; answer = answer_of (after t g.updaters r).number 0 []; seen = (event_of c g).seen; settles = None }

  abbrev grid_by : Result (List Updater) → Grid
  grid_by r = grid_of (after t g.updaters r).tables (after t g.updaters r).lanes g.queries

  -- refused
  refuses : (c : Call) (n : ℕ) → accepted_number n ≡ false → Rel (event_by c (refused n) ∷ past) (grid_by (refused n))
  unfolding after
  refuses c n a = rel_nothing (event_by c (refused n)) past g (deed_refused (event_by c (refused n)) refl a) R

  module _ (l k x y m : ℕ) where
    start_by : (r : Result (List Updater)) → update_start t g.updaters l k x y m ≡ r → Good (grid_by r) → Verdict r → Rel (event_by (start_update l k x y m) r ∷ past) (grid_by r)
    unfolding after
    start_by _ e G (no n a) = refuses (start_update l k x y m) n a
    start_by _ e G (yes t' us') =
        let ev = event_by (start_update l k x y m) (answered 0 t' us') in
        update_starts past g R l k x y m ev t' us' (deed_accepted ev 0 refl refl refl) (update_begun t g.updaters l k x y m t' us' e) G

    pub keep_update_start : Rel (event_of (start_update l k x y m) g ∷ past) (call (start_update l k x y m) g).1
    unfolding call
    keep_update_start = start_by (update_start t g.updaters l k x y m) refl (call_good (start_update l k x y m) g R.good).1 (update_verdict t g.updaters l k x y m)

  module _ (l : ℕ) where
    abbrev u₀ : Updater
    u₀ = updater g l

    abbrev Stepped : Result (List Updater) → Type 0
    Stepped r = Good (grid_by r) → Rel (event_by (step_update l) r ∷ past) (grid_by r)

    -- a number that is no refusal
    accepts : (n : ℕ) (s : Stage) → Moved n s → accepted_number n ≡ true
    accepts n s (advanced i) = refl
    accepts n s (back i) = refl
    accepts n s end = refl

    blocked_nothing : (e : Event) → deed e ≡ deed_of None (pick (eqb 20 22) (Some l) None) None None None → deed e ≡ deed_of None None None None None
    unfolding pick
    blocked_nothing e is = is

    by_kept : (l< : l < 8) → is_idle u₀.stage ≡ false → u₀.stage ≢ Idle → (o : Outcome (Move Tables)) → stage_on t (suc l) u₀ u₀.stage ≡ o → Kept g R.good.shape R.good.ghost R.good.inv l l< o
        → Moves Moved o → Stepped (steppedCall t g.updaters (put_stage g.updaters l) o)
    unfolding after steppedCall
    by_kept l< was n corrupt e k w = elim k [ ]
    by_kept l< was n blocked e still w = λ G. let ev = event_by (step_update l) (answered 20 t g.updaters) in rel_nothing ev past g (blocked_nothing ev (deed_accepted ev 20 refl refl refl)) R
    by_kept l< was n (done m) e (on _ gh z I E) w = λ G.
        let ev = event_by (step_update l) (answered m.number m.tables (put_stage g.updaters l m.next)) in
        let p = move_of w in
        update_steps past g R l l< ev m (deed_accepted ev m.number refl refl (accepts m.number m.next p)) e was (moved_end p) G (may_step g R.good l l< n m gh I E)

    step_by : Stepped (update_step t g.updaters l)
    unfolding update_step
    step_by =
        by_tests Stepped _ 12 _ (λ G. refuses (step_update l) 12 refl) (λ _.
        by_tests Stepped _ 1 _ (λ G. refuses (step_update l) 1 refl) (λ h.
        by_tests Stepped _ 3 _ (λ G. refuses (step_update l) 3 refl) (λ i.
        let l< = ltb-true l 8 h in
        let was : is_idle u₀.stage ≡ false = not-true _ i in
        let n = not_idle u₀.stage was in
        by_kept l< was n _ refl (stage_kept g R.good.shape R.good.ghost R.good.inv l l< u₀.stage refl n) (stage_moves t (suc l) u₀ u₀.stage))))

    pub keep_update_step : Rel (event_of (step_update l) g ∷ past) (call (step_update l) g).1
    unfolding call
    keep_update_step = step_by (call_good (step_update l) g R.good).1
