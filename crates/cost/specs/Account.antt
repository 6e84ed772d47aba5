-- DEMAND 3: the cost account of range queries (document 01: the tally), and what is claimed of it for every list of calls.
-- All of it is read off the calls, their answers and, at a step of a query, the tables of cells, locks and buckets as the step found them; nothing is read off a lane.
use Rattle.std.specs.Prelude.{◌≡◌, ◌≢◌, Bool, true, false, not, ◌&&◌, List, [], ◌∷◌, ◌++◌, map, ℕ, zero, suc, ◌+◌, ◌*◌, ◌≤◌, eqb, length}
use Rattle.std.specs.Prelude.{Option, None, Some}
use Rattle.base.specs.Numbers.{DONE, BLOCKED, FINISHED, QUERY-FINISHED}
use Rattle.base.specs.Outcome.{pick}
use Rattle.base.specs.Table.{at, upd}
use Rattle.regions.specs.Region.{walk, cells_touched}
use Rattle.regions.specs.declared.region.Region.{Region}
use Rattle.cells.specs.Walk.{chain_of, tuples_in}
use Rattle.calls.specs.Call.{accepted_number}
use Rattle.base.specs.Sums.{bit, count_below}
use Rattle.grid.specs.Run.{Grid, Call, start_update, step_update, start_query, step_query, collect, read, clear, rewind, Answer, answer_of, call, empty_grid}

-- ---- WHAT HAPPENED
-- the tables of cells, locks and buckets: first bucket and lock of each cell, count and next bucket of each bucket
pub record Seen : Type 0 where
  pub first : List ℕ
  pub locks : List ℕ
  pub count : List ℕ
  pub next : List ℕ

-- a call, its answer, and those tables as it found them; and, where it settled everything, the objects that are known then
pub record Event : Type 0 where
  pub call : Call
  pub answer : Answer
  pub seen : Seen
  pub settles : Option (List ℕ)

-- no call of today settles anything
abbrev pub event_of : Call → Grid → Event
event_of c g = record {
  call = c;
  answer = (call c g).0;
  seen = record { first = g.tables.first; locks = g.tables.cells; count = g.tables.count; next = g.tables.next };
  settles = None;
}

-- What came before a list that is made on another grid than the empty one, at rest: these objects are known, and nothing is
-- under way. Neither its call nor its answer is looked at.
abbrev pub settled : List ℕ → Event
settled ks = record { call = collect 0 0; answer = answer_of 0 0 []; seen = record { first = []; locks = []; count = []; next = [] }; settles = Some ks }

-- what happened when calls were made on a grid, each on the grid as the last one left it; the last call comes first
unfoldable pub history : List Call → Grid → List Event → List Event
history [] g past = past
history (c ∷ cs) g past = history cs (call c g).1 (event_of c g ∷ past)

-- What an event comes to, if it does: an update begins (lane, object) or ends (lane); a query is asked (lane, question) or goes a step (lane, number), blocked ones too; a list is handed back (lane), by a reading or a collection.
pub record Deed : Type 0 where
  pub begins : Option (ℕ × ℕ)
  pub ends : Option ℕ
  pub asks : Option (ℕ × Region)
  pub goes : Option (ℕ × ℕ)
  pub collects : Option ℕ
  pub settles : Option (List ℕ)

abbrev pub deed_of : Option (ℕ × ℕ) → Option ℕ → Option (ℕ × Region) → Option (ℕ × ℕ) → Option ℕ → Deed
deed_of b e a g c = record { begins = b; ends = e; asks = a; goes = g; collects = c; settles = None }

-- everything is settled: every update under way has ended, every query is abandoned, and the objects of the list are known
abbrev pub settled_deed : List ℕ → Deed
settled_deed ks = record { begins = None; ends = None; asks = None; goes = None; collects = None; settles = Some ks }

-- an update ends with the step that gives 22
abbrev pub accepted : Call → ℕ → Deed
accepted (start_update l k x y m) n = deed_of (Some (l, k)) None None None None
accepted (step_update l) n = deed_of None (pick (eqb n FINISHED) (Some l) None) None None None
accepted (start_query l u) n = deed_of None None (Some (l, u)) None None
accepted (step_query l) n = deed_of None None None (Some (l, n)) None
accepted (collect l m) n = deed_of None None None None (Some l)
accepted (read l m) n = deed_of None None None None (Some l)
accepted (clear l) n = deed_of None None None None None
accepted rewind n = deed_of None None None None None

-- f of what is there, or else x
unfoldable pub only_if : {A B : Type 0} → Option A → (A → B) → B → B
only_if None f x = x
only_if (Some a) f x = f a

-- a refused call comes to nothing
unfoldable pub deed : Event → Deed
deed e =
    let n = e.answer.number in
    only_if e.settles settled_deed (pick (accepted_number n) (accepted e.call n) (deed_of None None None None None))

-- the object whose update is under way in each lane
unfoldable pub under_way : List Event → ℕ → Option ℕ
under_way [] = λ l. None
under_way (e ∷ past) =
    let f = under_way past in
    only_if (deed e).settles (λ _ l. None)
    (only_if (deed e).begins (λ b. upd f b.0 (Some b.1)) (only_if (deed e).ends (λ l. upd f l None) f))

-- the objects known, each once, from the first accepted start of an update
unfoldable pub among : ℕ → List ℕ → Bool
among k [] = false
among k (j ∷ js) = pick (eqb j k) true (among k js)

unfoldable pub known : List Event → List ℕ
known [] = []
known (e ∷ past) =
    let ks = known past in
    only_if (deed e).settles (λ kept. kept)
    (only_if (deed e).begins (λ b. pick (among b.1 ks) ks (b.1 ∷ ks)) ks)

-- ---- THE TALLY of a query lane: the cells still to enter, the rest, the count
pub record Tally : Type 0 where
  pub cells : List ℕ
  pub rest : ℕ
  pub count : ℕ

abbrev pub tally_of : List ℕ → ℕ → ℕ → Tally
tally_of cs r n = record { cells = cs; rest = r; count = n }

-- what walking the chain of a cell finds: its buckets, and the sum of their counts
pub record Found : Type 0 where
  pub cell : ℕ
  pub buckets : ℕ
  pub tuples : ℕ

abbrev pub found : Seen → ℕ → Found
found s c = only_if (chain_of s.first s.next c) (λ l. record { cell = c; buckets = length l; tuples = tuples_in s.count l }) (record { cell = c; buckets = 0; tuples = 0 })

-- 22 if no cell and no rest remain, else 0
abbrev pub ending : List ℕ → ℕ → ℕ
ending cs r = pick (eqb (length cs + r) 0) FINISHED DONE

-- a step: its answer, and the tally after it (with no cell and no rest the query is finished, and a step on it is refused)
unfoldable pub tally_step : Seen → List ℕ → ℕ → ℕ → ℕ × Tally
tally_step s cs (suc r) n = (ending cs r, tally_of cs r (suc n))
tally_step s [] zero n = (QUERY-FINISHED, tally_of [] 0 n)
tally_step s (c ∷ cs) zero n = let f = found s c in let r = f.buckets + f.tuples in pick (eqb (at s.locks c) 0) (ending cs r, tally_of cs r (suc n)) (BLOCKED, tally_of (c ∷ cs) 0 n)

abbrev pub step_of : Seen → Tally → ℕ × Tally
step_of s t = tally_step s t.cells t.rest t.count

unfoldable pub tally : List Event → ℕ → Tally
tally [] = λ l. tally_of [] 0 0
tally (e ∷ past) =
    let f = tally past in
    only_if (deed e).settles (λ _ l. tally_of [] 0 0)
    (only_if (deed e).asks (λ a. upd f a.0 (tally_of (walk a.1) 0 0))
    (only_if (deed e).goes (λ a. upd f a.0 (step_of e.seen (f a.0)).1) f))

-- ---- THE QUERIES OF A LIST, those collected long ago too. One that is over stays as it was then.
-- steps: accepted and not blocked; finished: one gave 22; over: finished, or abandoned because everything was settled; entered: its cells, the last one first, with what was found there at the step that entered them;
-- updates: of each object, how many were under way at some time of it; objects: those known
pub record Sweep : Type 0 where
  pub lane : ℕ
  pub question : Region
  pub steps : ℕ
  pub finished : Bool
  pub over : Bool
  pub entered : List Found
  pub updates : ℕ → ℕ
  pub objects : List ℕ

-- with no rest, a step enters the next cell
abbrev pub follow : Event → List Event → Sweep → Sweep
follow e past s =
    let t = tally past s.lane in
    let step : Bool = only_if (deed e).goes (λ a. eqb a.0 s.lane && not (eqb a.1 BLOCKED)) false in
    pick s.over s
    (record {
      lane = s.lane;
      question = s.question;
      steps = s.steps + bit step;
      finished = only_if (deed e).goes (λ a. eqb a.0 s.lane && eqb a.1 FINISHED) false;
      over = only_if (deed e).goes (λ a. eqb a.0 s.lane && eqb a.1 FINISHED) false;
      entered = pick (step && eqb t.rest 0) (found e.seen (at t.cells 0) ∷ s.entered) s.entered;
      updates = λ k. s.updates k + bit (only_if (deed e).begins (λ b. eqb b.1 k) false);
      objects = known (e ∷ past);
    })

-- at its start: the updates under way count
abbrev pub opened : ℕ → Region → List Event → Sweep
opened l u past = record { lane = l; question = u; steps = 0; finished = false; over = false; entered = []; updates = λ k. count_below 8 (λ j. only_if (under_way past j) (λ i. eqb i k) false); objects = known past }

-- one that is not over is abandoned: it stays as it was
abbrev pub abandon : Sweep → Sweep
abandon s = pick s.over s (record {
  lane = s.lane;
  question = s.question;
  steps = s.steps;
  finished = s.finished;
  over = true;
  entered = s.entered;
  updates = s.updates;
  objects = s.objects;
})

unfoldable pub sweeps : List Event → List Sweep
sweeps [] = []
sweeps (e ∷ past) =
    let ss = map (follow e past) (sweeps past) in
    only_if (deed e).settles (λ _. map abandon (sweeps past))
    (only_if (deed e).asks (λ a. opened a.0 a.1 past ∷ ss) ss)

unfoldable pub latest : ℕ → List Sweep → Option Sweep
latest q [] = None
latest q (s ∷ ss) = pick (eqb s.lane q) (Some s) (latest q ss)

-- ---- THE CLAIMS
-- K is `cells_touched` of the question, which is the length of its walk (`walk-length` in regions/proofs/Walk.antt).
-- what was found in all cells, together; the cells in the order in which they were entered
unfoldable pub total : List Found → ℕ
total [] = 0
total (f ∷ fs) = f.buckets + f.tuples + total fs

unfoldable pub visits : List Found → List ℕ
visits [] = []
visits (f ∷ fs) = visits fs ++ f.cell ∷ []

-- the next step is to enter a locked cell
abbrev pub AtLocked : Seen → Tally → Type 0
AtLocked s t = (t.rest ≡ 0) × ((c : ℕ) × (cs : List ℕ) × (t.cells ≡ c ∷ cs) × (at s.locks c ≢ 0))

-- 1. An accepted step gives the tally's answer: 'blocked' exactly when it is to enter a locked cell.
pub record StepFits (n : ℕ) (s : Seen) (t : Tally) : Type 0 where
  pub answer : n ≡ (step_of s t).0
  pub blocked : (n ≡ BLOCKED → AtLocked s t) × (AtLocked s t → n ≡ BLOCKED)

-- 2. An accepted reading, and so an accepted collection, is from a query that has finished, the last one of its lane. It hands back the tally's count, which is the number of the query's accepted
-- steps that were not blocked; and it is K and, for each of its cells, the buckets and tuples found at the step that entered it.
pub record Counted (l n : ℕ) (past : List Event) : Type 0 where
  pub tally : n ≡ (tally past l).count
  pub query : Sweep
  pub last : latest l (sweeps past) ≡ Some query
  pub finished : query.finished ≡ true
  pub steps : n ≡ query.steps
  pub found : n ≡ cells_touched query.question + total query.entered
  pub each : visits query.entered ≡ walk query.question

-- 3. A query has had at most K + 6 × N such steps, and if it has had that many it is finished.
abbrev pub Bounded : Sweep → Type 0
Bounded s = let most = cells_touched s.question + 6 * length s.objects in (s.steps ≤ most) × (s.steps ≡ most → s.finished ≡ true)

-- The claim about what happened: 1 and 2 of each event, whatever came before and after; 3, after all, of each query with at most
-- one update of each object in the whole of it
pub record AccountedOf (all : List Event) : Type 0 where
  pub steps : (after before : List Event) (e : Event) (l n : ℕ) → all ≡ after ++ e ∷ before → (deed e).goes ≡ Some (l, n)
      → StepFits n e.seen (tally before l)
  pub collections : (after before : List Event) (e : Event) (l : ℕ) → all ≡ after ++ e ∷ before → (deed e).collects ≡ Some l
      → Counted l e.answer.steps before
  pub queries : (ss ts : List Sweep) (s : Sweep) → sweeps all ≡ ss ++ s ∷ ts → ((k : ℕ) → s.updates k ≤ 1) → Bounded s

-- THE CLAIM about a list of calls, made from the empty grid
abbrev pub Accounted : List Call → Type 0
Accounted cs = AccountedOf (history cs empty_grid [])

-- and about a list made on grid g, at rest, with these objects known
abbrev pub AccountedFrom : Grid → List ℕ → List Call → Type 0
AccountedFrom g ks cs = AccountedOf (history cs g (settled ks ∷ []))
