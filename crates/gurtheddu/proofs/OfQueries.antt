-- The calls of queries over variable tables and lanes: a start and a clearing, refused or let in, a run, with its lane
-- stored or not, and a reading.
use mathlib.Core.Path.{◌≡◌, refl, sym, ap, subst, ◌∙◌}
use mathlib.Core.Logic.{◌≢◌}
use mathlib.Core.Bool.{Bool, true, false, ◌&&◌}
use mathlib.Core.List.{List, []}
use Prim.Native.Nat.{ℕ, ◌+◌, ◌*◌, ◌/◌, ◌<◌, ◌≤◌}
use native.Mathlib.Omega.{arith}
use denote.Param.Members.{Shared}
use denote.Ref.{Bor}
use lib.Dec.{eqb, ltb, leb}
use lib.ListN.{length}
use borrow.Author.Tests.{leb-true, lt-ltb, le-leb, lt-leb, ne_eqb}
use Rattle.std.proofs.lemmas.List.Edits.{sets}
use Rattle.base.specs.Outcome.{pick}
use Rattle.base.specs.Table.{at}
use Rattle.words.specs.Part.{part}
use Rattle.std.specs.Prelude.{Result as Answer, Ok, Err}
use Rattle.std.specs.Fn.{FnReturnsAt}
use Rattle.std.specs.Simd.{first_chunks}
use Rattle.std.specs.Result.{ResultUnwrapsOrElse}
use Rattle.regions.specs.declared.region.Kind.{Kind}
use Rattle.regions.specs.declared.region.Region.{Region}
use Rattle.layout.specs.declared.question.Question.{Question as Rectangle}
use Rattle.query.specs.declared.Query.{Query}
use Rattle.tables.specs.Tables.{Tables}
use Rattle.calls.specs.Call.{Result, answered, after, after_of, unless}
use Rattle.calls.specs.Refusals.{refusal_number}
use Rattle.calls.proofs.Runs.{no_step}
use Rattle.calls.specs.Run.{ran_of}
use Rattle.calls.specs.declared.refusal.Refusal.{Refusal}
use Rattle.queries.specs.Query.{begun, is_idle}
use Rattle.queries.specs.One.{start_one}
use Rattle.query_run.specs.Run.{run_one}
use Rattle.collect.specs.Collect.{entries_from, idled}
use Rattle.collect.specs.declared.read.Reading.{Reading}
use Rattle.collect.specs.One.{HandedOne, handed_one_of, read_one_of, clear_one, FillingOne, filling_one_of}
use Rattle.collect.specs.One.{read_one_into}
use Rattle.collect.specs.Promise.{told_reading_one}
use Rattle.collect.proofs.Written.{entries_length}
use Rattle.codes.specs.Queries.{kind_of, names_kind, scan_in, names_query, query_in, with_query, code_query}
use Rattle.codes.specs.Queries.{decode_query}
use Rattle.codes.proofs.Queries.{scan_read, kind_read, named_parts, lane_seen}
use Rattle.gurtheddu.specs.Coded.{coded, coded_run, start_sweep, run_sweep, read_from, clear_lane}
use Rattle.gurtheddu.specs.Promise.{FoundLane, LostLane}
use Rattle.gurtheddu.proofs.Found.{Here, found, Lost, lost, lost_call, lost_run, lost_reading, run_kept, run_stored}
use Rattle.gurtheddu.proofs.Ends.{Starting, let_in, past, sent_away, stored}

-- ---- the lane

module _ {F : Type 0} {g : Shared F (Bor (List ℕ) × Unit {0}) Bool} {f : F}
    (says : (s : Bor (List ℕ)) (b : Bool) → g.post f (s, tt) b → b ≡ (leb (at s.now 9) 3 && names_kind (at s.now 0)))
    (ns : List ℕ) (size : length ns ≡ 52) (chunks : List (List ℕ))
    (front : chunks ≡ first_chunks 13 (length ns / 13) ns)
    (len : length chunks ≡ length ns / 13) (l : ℕ) where
  -- what the test of a lane's numbers answers
  said : (x : List ℕ) (b : Bool) → x ≡ part (13 * l) 13 ns → FnReturnsAt g f x b → b ≡ names_query ns l
  said x b e m =
      says m.shown b m.says.met ∙ ap (λ (z : List ℕ). leb (at z 9) 3 && names_kind (at z 0)) (m.shows ∙ e)
      ∙ ap (λ (i : ℕ). leb i 3 && names_kind (at (part (13 * l) 13 ns) 0)) (scan_read ns l)
      ∙ ap (λ (i : ℕ). leb (scan_in ns l) 3 && names_kind i) (kind_read ns l)

  pub query_found : (x : List ℕ) → FoundLane (FnReturnsAt g f) chunks l x → Here 13 4 ns l (names_query ns l) x
  query_found = found 13 4 ns (ap (λ (i : ℕ). i / 13) size) chunks front len (FnReturnsAt g f) l (names_query ns l) said

  pub query_lost : (r : Refusal) → LostLane (FnReturnsAt g f) chunks l r
      → Lost 4 l (names_query ns l) (refusal_number r)
  query_lost = lost 13 4 ns (ap (λ (i : ℕ). i / 13) size) chunks front len (FnReturnsAt g f) l (names_query ns l) said

-- ---- a start

pub starting : (t : Tables) (l : ℕ) (q : Query) (u : Region) → Starting (begun u (t.clock + 1)) (start_one t l q u)
unfolding start_one
starting t l q u =
    past _ 12 _ (λ z. omega arith) (past _ 1 _ (λ z. omega arith) (past _ 2 _ (λ z. omega arith)
    (past _ 5 _ (λ z. omega arith) (past _ 6 _ (λ z. omega arith) (past _ 32 _ (λ z. omega arith)
    (past _ 8 _ (λ z. omega arith) let_in))))))

-- of the query in the lane only whether it is idle is looked at
pub alike : (t : Tables) (l : ℕ) (q p : Query) (u : Region) → is_idle q.stage ≡ is_idle p.stage
    → start_one t l q u ≡ start_one t l p u
unfolding start_one
alike t l q p u h = rw h

-- a question by its kind
abbrev asked : Rectangle → ℕ → Kind → Region
asked a r k = record { kind = k; area = a; radius = r }

module _ (t : Tables) (ns : List ℕ) (l k : ℕ) (q : Rectangle) (r : ℕ) where
  -- no lane is found
  pub start_lost : (m : ℕ) → Lost 4 l (names_query ns l) m → after t ns (start_sweep t ns l k q r) ≡ after_of m t ns
  unfolding start_sweep
  start_lost m h = lost_call t ns (ltb l 4) (names_query ns l) m _ h.0 h.1

  module _ (z : List ℕ) (here : Here 13 4 ns l (names_query ns l) z) where
    -- no kind of question has the number
    pub start_unasked : 2 < k → after t ns (start_sweep t ns l k q r) ≡ after_of 12 t ns
    unfolding start_sweep unless after
    start_unasked h = rw (lt-ltb l 4 here.lane, here.named, lt-leb k 2 h)

    module _ (k≤ : k ≤ 2) (kind : Kind) (ek : kind ≡ kind_of k) (p : Query)
        (seen : is_idle p.stage ≡ eqb (at z 9) 0) (t' : Tables) where
      same : start_sweep t ns l k q r ≡ coded (with_query ns l) (start_one t l p (asked q r kind))
      unfolding start_sweep unless
      same =
          let idle = rw (here.is, scan_read ns l) at seen in
          rw (lt-ltb l 4 here.lane, here.named, le-leb k 2 k≤, ← ek)
          (ap (coded (with_query ns l)) (alike t l (query_in ns l) p (asked q r kind)
          (lane_seen ns l (named_parts ns l here.named).0 ∙ sym idle)))

      pub start_refused : (n : Refusal)
          → after t p (start_one t l p (asked q r kind)) ≡ after_of (refusal_number n) t' p
          → after t ns (start_sweep t ns l k q r) ≡ after_of (refusal_number n) t' ns
      start_refused n e = ap (after t ns) same
          ∙ sent_away (with_query ns l) t p ns (refusal_number n) t' p _
          (starting t l p (asked q r kind)) e (no_step n).0

      pub start_accepted : (v : Query) → after t p (start_one t l p (asked q r kind)) ≡ after_of 0 t' v
          → (ms : List ℕ) → ms ≡ code_query v → (ns' : List ℕ) → ns' ≡ sets ns (13 * l) ms
          → after t ns (start_sweep t ns l k q r) ≡ after_of 0 t' ns'
      start_accepted v e ms c ns' h =
          ap (after t ns) same ∙ stored (with_query ns l) t p ns 0 t' v _ (starting t l p (asked q r kind)) e refl
          ∙ ap (after_of 0 t') (sym (rw c at h))

-- ---- a run

module _ (t : Tables) (ns : List ℕ) (l b : ℕ) (some : b ≢ 0) where
  -- no lane is found
  pub run_lost : (r : ℕ) → Lost 4 l (names_query ns l) r → run_sweep b l t ns ≡ ran_of r 0 t ns
  unfolding run_sweep pick
  run_lost r h = rw (ne_eqb b 0 some) (lost_run t ns (ltb l 4) (names_query ns l) r _ h.0 h.1)

  module _ (z : List ℕ) (here : Here 13 4 ns l (names_query ns l) z) (q : Query) (is : q ≡ decode_query z)
      (n m : ℕ) (t' : Tables) (v : Query) (e : run_one b l t q ≡ ran_of n m t' v) where
    onward : run_sweep b l t ns ≡ coded_run ns (with_query ns l) (ran_of n m t' v)
    unfolding run_sweep pick
    onward =
        let lane : query_in ns l ≡ q = sym (is ∙ ap decode_query here.is) in
        rw (ne_eqb b 0 some, lt-ltb l 4 here.lane, here.named)
        (ap (coded_run ns (with_query ns l)) (ap (λ (w : Query). run_one b l t w) lane ∙ e))

    pub run_unmade : m ≤ 0 → run_sweep b l t ns ≡ ran_of n m t' ns
    run_unmade h = onward ∙ run_kept ns (with_query ns l) n m t' v h

    pub run_made : 0 < m → (ms : List ℕ) → ms ≡ code_query v → (ns' : List ℕ) → ns' ≡ sets ns (13 * l) ms
        → run_sweep b l t ns ≡ ran_of n m t' ns'
    run_made h ms c ns' g = onward ∙ run_stored ns (with_query ns l) n m t' v h ∙ ap (ran_of n m t') (sym (rw c at g))

-- ---- a reading

-- at most 1024 numbers are filled
few : (t : Tables) (b : Bool) (n : ℕ) (k : Result HandedOne)
    → (b ≡ true → length (after t (handed_one_of 0 []) k).lanes.part ≤ 1024)
    → length (after t (handed_one_of 0 []) (unless b n k)).lanes.part ≤ 1024
unfolding unless after
few t true n k h = h refl
few t false n k h = omega arith

few_entries : (t : Tables) (l : ℕ) (q : Query) → leb q.hits 256 ≡ true
    → length (after t (handed_one_of 0 [])
    (answered 0 t (handed_one_of q.steps (entries_from t.hits (256 * l) q.hits)))).lanes.part ≤ 1024
unfolding after
few_entries t l q h = omega (arith, entries_length t.hits (256 * l) q.hits, leb-true q.hits 256 h)

pub few_filled : (t : Tables) (l : ℕ) (q : Query) (out : List ℕ) → (read_one_into t l q out).filled ≤ 1024
unfolding read_one_into read_one_of
few_filled t l q out =
    few t _ 12 _ (λ _. few t _ 1 _ (λ _. few t _ 3 _ (λ _. few t _ 10 _ (λ _. few t _ 11 _ (λ _.
    few t (leb q.hits 256) 12 _ (few_entries t l q))))))

module _ (t : Tables) (ns : List ℕ) (l : ℕ) (out : List ℕ) where
  -- no lane is found
  pub read_lost : (m : ℕ) → Lost 4 l (names_query ns l) m → read_from t ns l out ≡ filling_one_of m t 0 0 out
  unfolding read_from
  read_lost m h = lost_reading t out (ltb l 4) (names_query ns l) m _ h.0 h.1

  pub read_there : (z : List ℕ) → Here 13 4 ns l (names_query ns l) z → (q : Query) → q ≡ decode_query z
      → (f : FillingOne)
      → read_one_into t l q out ≡ f → read_from t ns l out ≡ f
  unfolding read_from pick
  read_there z here q is f e =
      let lane : query_in ns l ≡ q = sym (is ∙ ap decode_query here.is) in
      rw (lt-ltb l 4 here.lane, here.named) (ap (λ (w : Query). read_one_into t l w out) lane ∙ e)

  short : (b c : Bool) (r : FillingOne) → r.filled ≤ 1024
      → (pick b (pick c r (filling_one_of 12 t 0 0 out)) (filling_one_of 1 t 0 0 out)).filled ≤ 1024
  unfolding pick
  short false c r h = omega arith
  short true false r h = omega arith
  short true true r h = h

  -- how many numbers a reading fills fits, and none are where it is refused
  pub filled_fits : (r : Answer Reading Refusal) (t' : Tables) (out' : List ℕ)
      → read_from t ns l out ≡ told_reading_one r t' out'
      → {P : Reading → Type 0} → ((d : Reading) → P d → d.filled ≡ 0) → (d : Reading) → ResultUnwrapsOrElse r P d
      → d.filled ≤ 1024
  unfolding read_from
  filled_fits (Ok x) t' out' e none d u =
      let few = short (ltb l 4) (names_query ns l) _ (few_filled t l (query_in ns l) out) in
      let f : x.filled ≤ 1024 = subst (λ (g : FillingOne). g.filled ≤ 1024) e few in
      rw u f
  filled_fits (Err m) t' out' e none d u = omega (arith, none d u)

-- ---- a clearing

pub clearing : (t : Tables) (l : ℕ) (q : Query) → Starting (idled q) (clear_one t l q)
unfolding clear_one
clearing t l q =
    past _ 12 _ (λ z. omega arith) (past _ 1 _ (λ z. omega arith) (past _ 3 _ (λ z. omega arith)
    (past _ 10 _ (λ z. omega arith) let_in)))

module _ (t : Tables) (ns : List ℕ) (l : ℕ) where
  -- no lane is found
  pub clear_lost : (m : ℕ) → Lost 4 l (names_query ns l) m → after t ns (clear_lane t ns l) ≡ after_of m t ns
  unfolding clear_lane
  clear_lost m h = lost_call t ns (ltb l 4) (names_query ns l) m _ h.0 h.1

  module _ (z : List ℕ) (here : Here 13 4 ns l (names_query ns l) z) (q : Query)
      (is : q ≡ decode_query z) (t' : Tables) where
    there : clear_lane t ns l ≡ coded (with_query ns l) (clear_one t l q)
    unfolding clear_lane unless
    there =
        let lane : query_in ns l ≡ q = sym (is ∙ ap decode_query here.is) in
        rw (lt-ltb l 4 here.lane, here.named) (ap (λ (w : Query). coded (with_query ns l) (clear_one t l w)) lane)

    pub clear_refused : (n : Refusal) → after t q (clear_one t l q) ≡ after_of (refusal_number n) t' q
        → after t ns (clear_lane t ns l) ≡ after_of (refusal_number n) t' ns
    clear_refused n e = ap (after t ns) there
        ∙ sent_away (with_query ns l) t q ns (refusal_number n) t' q _ (clearing t l q) e (no_step n).0

    pub clear_done : (v : Query) → after t q (clear_one t l q) ≡ after_of 0 t' v
        → (ms : List ℕ) → ms ≡ code_query v → (ns' : List ℕ) → ns' ≡ sets ns (13 * l) ms
        → after t ns (clear_lane t ns l) ≡ after_of 0 t' ns'
    clear_done v e ms c ns' h =
        ap (after t ns) there ∙ stored (with_query ns l) t q ns 0 t' v _ (clearing t l q) e refl
        ∙ ap (after_of 0 t') (sym (rw c at h))
