-- The calls of queries keep what ties the past to the grid, and the claims hold of them.
use mathlib.Core.Path.{◌≡◌, refl, sym, ap, ◌∙◌}
use mathlib.Core.Logic.{◌≢◌, inl}
use mathlib.Core.Bool.{Bool, true, false, ◌&&◌}
use Rattle.std.specs.Prelude.{Option, None, Some}
use mathlib.Core.List.{List, [], ◌∷◌}
use Prim.Native.Nat.{ℕ, ◌+◌, ◌*◌, ◌<◌}
use native.Mathlib.Omega.{arith}
use lib.Dec.{eqb}
use lib.ListN.{set}
use lib.Seq.{get_or-set_same, get_or-set_other}
use borrow.Author.Tests.{ltb-true, not-true}
use Rattle.base.specs.Outcome.{Outcome, corrupt, blocked, done}
use Rattle.base.specs.Step.{Step}
use Rattle.base.specs.Table.{at}
use Rattle.base.proofs.Table.{at_or, upd_same, upd_other, clash}
use Rattle.regions.specs.declared.region.Region.{Region}
use Rattle.regions.proofs.Walk.{visited_below}
use Rattle.readers.specs.declared.Standing.{Standing}
use Rattle.query.specs.Scan.{scan_number, enter_step, leave_step, read_step}
use Rattle.query.specs.declared.Scan.{Scan}
use Rattle.query.specs.declared.Scan.TheVariants.{Idle, Enter, Read, Finished}
use Rattle.query.specs.declared.Query.{Query}
use Rattle.tables.specs.Tables.{Tables, with_readers, with_hits}
use Rattle.calls.specs.Call.{Result, refused, answered, after, accepted_number, stepped as steppedCall}
use Rattle.queries.specs.Query.{idle_query, is_idle as isIdleQuery, is_finished, begun, query_start, query_step}
use Rattle.queries.specs.Scans.{scan_on}
use Rattle.grid.specs.Run.{Grid, grid_of, Call, start_query, step_query, answer_of, call}
use Rattle.runs.specs.Sweeps.{query}
use Rattle.runs.proofs.Every.{Good}
use Rattle.runs.proofs.Going.{QueryOk}
use Rattle.runs.proofs.Never.{enter_never, read_never, not_refused}
use Rattle.runs.proofs.Parts.{lift_parts}
use Rattle.runs.proofs.Runs.{call_good}
use Rattle.runs.proofs.SimScan.{scanned}
use Rattle.runs.proofs.Swept.{is_leave, is_read}
use Rattle.runs.proofs.View.{view}
use Rattle.cost.specs.Account.{Seen, Event, event_of, Deed, deed, deed_of, only_if, Tally, tally, step_of, Sweep, StepFits}
use Rattle.cost.proofs.Aside.{Apart, aside}
use Rattle.cost.proofs.Chain.{seen_by}
use Rattle.cost.proofs.Lies.{may_same}
use Rattle.cost.proofs.Match.{Match, tally_blocked, Goes, enters, reads, leaves}
use Rattle.cost.proofs.Rel.{Rel, under_quiet, known_quiet}
use Rattle.runs.proofs.Scans.{enter_free_lem, enter_blocked, read_flows}
use Rattle.cost.proofs.Started.{started}
use Rattle.cost.proofs.Stepped.{Kind, inside, enters as entering, fits_step, stepped}
use Rattle.cost.proofs.CallKinds.{rel_nothing}
use Rattle.cost.proofs.Updates.{by_tests}
use Rattle.cost.proofs.Verdict.{Verdict, no, yes, query_verdict, query_begun, deed_refused, deed_accepted}
use Rattle.cost.proofs.Claims.{Claim, no_claim}

and_false : (b : Bool) → (b && false) ≡ false
and_false true = refl
and_false false = refl

-- ---- a blocked step

module _ (e : Event) (past : List Event) (g : Grid) (R : Rel past g) (l : ℕ) (is : deed e ≡ deed_of None None None (Some (l, 20)) None) (sees : e.seen ≡ seen_by g.tables)
    (c : ℕ) (rest : List ℕ) (cells : (tally past l).cells ≡ c ∷ rest) (none_left : (tally past l).rest ≡ 0) (locked : at g.tables.cells c ≢ 0) where
  abbrev S : Seen
  S = seen_by g.tables

  stays : step_of S (tally past l) ≡ (20, tally past l)
  stays = tally_blocked S (tally past l) c rest cells none_left locked

  tally_same : (q : ℕ) → tally (e ∷ past) q ≡ tally past q
  unfolding tally only_if
  tally_same q = rw (is, sees, ap (λ (p : ℕ × Tally). p.1) stays) (at_or q l (λ z. rw z (upd_same (tally past) l (tally past l))) (λ z. upd_other (tally past) l (tally past l) q z))

  apart : (s : Sweep) → Apart e past g g s
  unfolding only_if
  apart s = record { step = rw is (and_false (eqb l s.lane)); going = rw is (and_false (eqb l s.lane)) }

  rel_blocked : Rel (e ∷ past) g
  rel_blocked = aside e past g g 0 (rw is) (rw is) apart tally_same R R.good (λ j j<. rw (under_quiet e past (rw is) (rw is) (rw is)) (R.ties j j<)) (λ k t. rw (known_quiet e past (rw is) (rw is)) (R.knows k t)) (λ k i. rw (known_quiet e past (rw is) (rw is)) i) (λ k x m. inl m) R.match (λ q q< i. refl) (λ q q< i f. refl)

  blocked_fits : StepFits 20 e.seen (tally past l)
  blocked_fits = rw sees (record { answer = ap (λ (p : ℕ × Tally). p.0) (sym stays); blocked = (λ z. (none_left, (c, rest, cells, locked)), λ z. refl) })

pair_one : {p q : ℕ × ℕ} → Some p ≡ Some q → q ≡ p
pair_one e = cc

-- one step of one lane is all that is claimed
one-step : (e : Event) (past : List Event) (l n : ℕ) → deed e ≡ deed_of None None None (Some (l, n)) None → StepFits n e.seen (tally past l) → Claim e past
one-step e past l n is F = record {
  steps = λ l' n' z. let w : ◌≡◌ {A = Option (ℕ × ℕ)} (Some (l, n)) (Some (l', n')) = sym (ap (λ (d : Deed). d.goes) is) ∙ z in let p : ◌≡◌ {A = ℕ × ℕ} (l', n') (l, n) = pair_one w in rw (ap (λ (x : ℕ × ℕ). x.0) p, ap (λ (x : ℕ × ℕ). x.1) p) F;
  collections = λ l' z. let w : None ≡ Some l' = sym (ap (λ (d : Deed). d.collects) is) ∙ z in clash (cc);
}

-- the number of a step that moves is no refusal
moved_number : (a : Scan) (n : ℕ) → n ≡ scan_number a → accepted_number n ≡ true
moved_number Idle n e = rw e
moved_number (Enter c) n e = rw e
moved_number (Read c w) n e = rw e
moved_number Finished n e = rw e

module _ (past : List Event) (g : Grid) (R : Rel past g) where
  abbrev t : Tables
  t = g.tables

  abbrev event_by : Call → Result (List Query) → Event
  event_by c r = record { call = c; answer = answer_of (after t g.queries r).number 0 []; seen = (event_of c g).seen; settles = None }

  abbrev grid_by : Result (List Query) → Grid
  grid_by r = grid_of (after t g.queries r).tables g.updaters (after t g.queries r).lanes

  abbrev Kept : Call → Result (List Query) → Type 0
  Kept c r = Good (grid_by r) → Rel (event_by c r ∷ past) (grid_by r) × Claim (event_by c r) past

  refuses : (c : Call) (n : ℕ) → accepted_number n ≡ false → Kept c (refused n)
  unfolding after
  refuses c n a G =
      let is = deed_refused (event_by c (refused n)) refl a in
      (rel_nothing (event_by c (refused n)) past g is R, no_claim (event_by c (refused n)) past (rw is) (rw is))

  -- ---- the start

  module _ (l : ℕ) (u : Region) where
    start_by : (r : Result (List Query)) → query_start t g.queries l u ≡ r → Verdict r → Kept (start_query l u) r
    unfolding after view
    start_by _ e (no n a) = refuses (start_query l u) n a
    start_by _ e (yes t' qs') = λ G.
        let ev = event_by (start_query l u) (answered 0 t' qs') in
        let is = deed_accepted ev 0 refl refl refl in
        let B = query_begun t g.queries l u t' qs' e in
        let g' = grid_of t' g.updaters qs' in (
          started ev past g g' l u is B.lane R G B.proper (t.clock + 1) B.idle
              (rw B.queries (get_or-set_same g.queries l (begun u (t.clock + 1)) idle_query (omega (arith, B.lane, R.good.shape.queries))))
              (λ q z. rw B.queries (get_or-set_other g.queries l q (begun u (t.clock + 1)) idle_query z))
              refl (rw B.tables) (rw B.tables) (may_same g g' refl (rw B.tables) (rw B.tables) (rw B.tables) (rw B.tables)),
          no_claim ev past (rw is) (rw is),
        )

    pub keep_query_start : Rel (event_of (start_query l u) g ∷ past) (call (start_query l u) g).1 × Claim (event_of (start_query l u) g) past
    unfolding call
    keep_query_start = start_by (query_start t g.queries l u) refl (query_verdict t g.queries l u) (call_good (start_query l u) g R.good).1

  -- ---- a step

  -- the tables that a step of a query leaves alone
  record Leaves (t' : Tables) : Type 0 where
    pub first : t'.first ≡ t.first
    pub next : t'.next ≡ t.next
    pub count : t'.count ≡ t.count
    pub tuples : t'.tuples ≡ t.tuples
    pub index : t'.index ≡ t.index

  leaves_readers : (t' : Tables) (v : List ℕ) → t' ≡ with_readers t v → Leaves t'
  leaves_readers t' v e = record { first = rw e; next = rw e; count = rw e; tuples = rw e; index = rw e }

  module _ (l : ℕ) (l< : l < 4) where
    abbrev s : Query
    s = query g l

    abbrev y : Tally
    y = tally past l

    moves : (m : Step Query Tables) → Goes (seen_by t) (at t.next) y m → Kind t y → Leaves m.tables → isIdleQuery s.stage ≡ false → is_finished s.stage ≡ false
        → Kept (step_query l) (answered m.number m.tables (set g.queries l m.next))
    unfolding after view
    moves m Go K L b f = λ G.
        let ev = event_by (step_query l) (answered m.number m.tables (set g.queries l m.next)) in
        let g' = scanned g l m in
        let is : deed ev ≡ deed_of None None None (Some (l, m.number)) None = deed_accepted ev m.number refl refl (moved_number m.next.stage m.number Go.says) in
        let own : query g' l ≡ m.next = get_or-set_same g.queries l m.next idle_query (omega (arith, R.good.shape.queries)) in
        let others : (q : ℕ) → q ≢ l → query g' q ≡ query g q = λ q z. get_or-set_other g.queries l q m.next idle_query z in
        let may = may_same g g' refl L.first L.next L.count L.tuples in
        let kn : (view g').known ≡ (view g).known = rw L.index in (
          stepped ev past g g' l m.number is refl l< R G m refl Go K b f own others refl refl kn may,
          one-step ev past l m.number is (fits_step ev past g g' l m.number is refl l< R G m refl Go K b f own others refl refl kn may),
        )

    enter_by : (c : ℕ) (o : Outcome (Step Query Tables)) → s.stage ≡ Enter c → scan_on t l s (Enter c) ≡ o → isIdleQuery s.stage ≡ false → is_finished s.stage ≡ false → Match (at t.next) s (Enter c) y → c < 256
        → Kept (step_query l) (steppedCall t g.queries (set g.queries l) o)
    unfolding after steppedCall Match scan_on
    enter_by c corrupt z e b f M c< = absurd (not_refused _ (enter_never g R.good l l< c z) e)
    enter_by c blocked z e b f M c< = λ G.
        let ev = event_by (step_query l) (answered 20 t g.queries) in
        let is : deed ev ≡ deed_of None None None (Some (l, 20)) None = deed_accepted ev 20 refl refl refl in
        let lock = enter_blocked t R.good.shape.lengths l s c e in
        (rel_blocked ev past g R l is refl c M.0.0 M.0.2 M.1 lock, one-step ev past l 20 is (blocked_fits ev past g R l is refl c M.0.0 M.0.2 M.1 lock))
    enter_by c (done m) z e b f M c< =
        let a = lift_parts (with_readers t) (enter_step t.cells t.first t.count t.readers s c) m e in
        moves m (enters g R.good l l< y c m z M e) (entering c M.0.0 M.1 M.0.2 c< (enter_free_lem t l s c m e)) (leaves_readers m.tables a.0.tables a.2) b f

    read_by : (c : ℕ) (w : Standing) (o : Outcome (Step Query Tables)) → s.stage ≡ Read c w → scan_on t l s (Read c w) ≡ o → isIdleQuery s.stage ≡ false → is_finished s.stage ≡ false → Match (at t.next) s (Read c w) y
        → Kept (step_query l) (steppedCall t g.queries (set g.queries l) o)
    unfolding after steppedCall Match
    read_by c w corrupt z e b f M = absurd (not_refused _ (read_never g R.good l l< c w z) e)
    read_by c w blocked z e b f M = absurd (read_flows t R.good.shape.lengths l s c w e)
    read_by c w (done m) z e b f M =
        let K : Kind t y = inside (w.left + 5 * M.1.0) (omega (arith, M.1.2)) in
        at_or w.left 0
        (λ n.
        let a = lift_parts (with_readers t) (leave_step t.next t.count t.readers s c w.bucket) m (sym (is_leave g R.good l l< c w m z n) ∙ e) in
        moves m (leaves g R.good l l< y c w m z M n e) K (leaves_readers m.tables a.0.tables a.2) b f)
        (λ n.
        let a = lift_parts (with_hits t) (read_step t.tuples t.hits l s c w) m (sym (is_read g R.good l l< c w m z n) ∙ e) in
        moves m (reads g R.good l l< y c w m z M n e) K (record { first = rw a.2; next = rw a.2; count = rw a.2; tuples = rw a.2; index = rw a.2 }) b f)

    scan_by : (a : Scan) → s.stage ≡ a → isIdleQuery a ≡ false → is_finished a ≡ false → Kept (step_query l) (steppedCall t g.queries (set g.queries l) (scan_on t l s a))
    unfolding QueryOk isIdleQuery is_finished
    scan_by Idle z b f = clash (cc)
    scan_by (Enter c) z b f =
        let v = visited_below s.question c (rw z at (R.good.asks l l<)).0.visits in
        enter_by c (scan_on t l s (Enter c)) z refl (rw z) (rw z) (rw z at (R.match l l<)) v
    scan_by (Read c w) z b f = read_by c w (scan_on t l s (Read c w)) z refl (rw z) (rw z) (rw z at (R.match l l<))
    scan_by Finished z b f = clash (cc)

  module _ (l : ℕ) where
    step_by : Kept (step_query l) (query_step t g.queries l)
    unfolding query_step
    step_by =
        by_tests (Kept (step_query l)) _ 12 _ (refuses (step_query l) 12 refl) (λ _.
        by_tests (Kept (step_query l)) _ 1 _ (refuses (step_query l) 1 refl) (λ h.
        by_tests (Kept (step_query l)) _ 3 _ (refuses (step_query l) 3 refl) (λ i.
        by_tests (Kept (step_query l)) _ 9 _ (refuses (step_query l) 9 refl) (λ f.
        scan_by l (ltb-true l 4 h) (query g l).stage refl (not-true _ i) (not-true _ f)))))

    pub keep_query_step : Rel (event_of (step_query l) g ∷ past) (call (step_query l) g).1 × Claim (event_of (step_query l) g) past
    unfolding call
    keep_query_step = step_by (call_good (step_query l) g R.good).1
