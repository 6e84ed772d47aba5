-- Stage 12 on all tables: one law for each way, by the end of the search and the answer of shift_entry.
-- The code looks at the cell before the places are shifted, the definition afterwards. A shift is never blocked, so the refusal is the same.
use mathlib.Core.Path.{◌≡◌, refl, sym, ap, ◌∙◌}
use mathlib.Core.Bool.{Bool, true, false}
use Rattle.std.specs.Prelude.{Option, None, Some, Result, Ok, Err}
use mathlib.Core.List.{List}
use Prim.Native.Nat.{ℕ, ◌≤◌, ◌<◌}
use native.Mathlib.Omega.{arith}
use lib.IntN.{ℤ}
use lib.ListN.{length, set}
use borrow.Author.Tests.{le-ltb, lt-ltb}
use Rattle.base.specs.Outcome.{Outcome, corrupt, blocked, done, need, pick, and_then, outcome_map, leaves}
use Rattle.base.specs.Answer.{outcome_of}
use Rattle.base.specs.Promise.{Gives}
use Rattle.base.specs.declared.Corrupt.{Corrupt}
use Rattle.base.proofs.Answer.{gave_corrupt, gave_done}
use Rattle.base.specs.Step.{said, turned}
use Rattle.words.specs.Map.{CELLS, WORDS}
use Rattle.words.specs.Words.{index_in, put_index}
use Rattle.words.proofs.Parts.{part_length}
use Rattle.layout.specs.Place.{encode, decode}
use Rattle.layout.specs.declared.place.Place.{Place}
use Rattle.locks.specs.Lock.{release}
use Rattle.index.specs.Search.{search as sought}
use Rattle.index.specs.Index.{Index, index_at}
use Rattle.index.specs.Places.{Shifted, shift, shift_in, put_shifted}
use Rattle.index.specs.declared.search.Search.TheVariants.{Found, Empty}
use Rattle.tables.specs.Tables.{Tables, with_index}
use Rattle.tables.specs.Grid.{grid}
use Rattle.tables.proofs.Grid.{put_index_lem}
use Rattle.base.proofs.Turns.{halts, moves}
use Rattle.stage.specs.Turn.{at_entry}
use Rattle.stage.specs.declared.Stage.TheVariants.{DeleteOld, ReleaseObject}
use Rattle.commit.specs.Commit.{switching_of, after_switching, stage12}
use Rattle.commit.specs.On.{put_places, freed, switching_in, put_switching, stage12_on, ShiftsAt}

-- an outcome that is not blocked
data Settled {A : Type 0} : Outcome A → Type 0 where
  refused : Settled corrupt
  came : {a : A} → Settled (done a)

settled_need : {A : Type 0} {k : Outcome A} (b : Bool) → Settled k → Settled (need b k)
unfolding need
settled_need true s = s
settled_need false s = refused

settled_pick : {A : Type 0} {j k : Outcome A} (b : Bool) → Settled j → Settled k → Settled (pick b j k)
unfolding pick
settled_pick true s t = s
settled_pick false s t = t

settled_then : {A B : Type 0} {o : Outcome A} {k : A → Outcome B} → Settled o → ((a : A) → Settled (k a)) → Settled (and_then o k)
unfolding and_then
settled_then refused f = refused
settled_then (came {a}) f = f a

-- with nothing but a refusal to follow it is one
settled_refused : {A B : Type 0} {o : Outcome A} {k : A → Outcome B} → Settled o → ((a : A) → k a ≡ corrupt) → and_then o k ≡ corrupt
unfolding and_then
settled_refused refused f = refl
settled_refused (came {a}) f = f a

settled_shift : (current previous : List ℕ) (i : ℕ) (p : Place) → Settled (shift current previous i p)
unfolding shift decode encode
settled_shift current previous i p =
    settled_need _ (settled_need _ (settled_then (settled_need _ (settled_pick _ came came)) (λ old. settled_then (settled_need _ (settled_need _ (settled_need _ came))) (λ n. came))))

-- ---- the tables in the words

module _ (w : List ℕ) (ts : List ℤ) (w# : length w ≡ WORDS) where
  pub cells_there : length (grid w ts).cells ≡ 256
  unfolding grid
  cells_there = part_length w CELLS 256 (omega arith)

leaves_places : (t : Tables) (o : Outcome Shifted) → leaves (put_places t) t o ≡ with_index t (leaves (put_shifted t.index) t.index o)
unfolding leaves
leaves_places t corrupt = refl
leaves_places t blocked = refl
leaves_places t (done s) = refl

-- what was shifted in the index is so among all tables
pub shifted_on : (w : List ℕ) (ts : List ℤ) → length w ≡ WORDS → (o : Outcome Shifted) (r : Result (Option Place) Corrupt) (v : List ℕ) → length v ≡ 2048 →
    Gives (λ (s : Shifted). s.old) (put_shifted (index_at (index_in w))) (index_at (index_in w)) o r (index_at v) →
    Gives (λ (s : Shifted). s.old) (put_places (grid w ts)) (grid w ts) o r (grid (put_index w v) ts)
unfolding grid
shifted_on w ts w# o r v v# e =
    ap (λ (t : Tables). (outcome_map (λ (s : Shifted). s.old) o, t)) (leaves_places (grid w ts) o)
    ∙ ap (λ (p : Outcome (Option Place) × Index). (p.0, with_index (grid w ts) p.1)) e
    ∙ ap (λ (t : Tables). (outcome_of r, t)) (sym (put_index_lem w ts w# v v#))

-- ---- the stage

module _ (t : Tables) (p : Place) (k : ℕ) where
  pub switch_missing : {i : ℕ} → sought t.index.oid k ≡ Empty i → turned t (stage12_on t p k) ≡ (said 12 None, t)
  unfolding stage12_on stage12 at_entry
  switch_missing s = halts (put_switching t) t (stage12 t.index.oid (switching_in t) p k) t (rw s) refl

  module _ {i : ℕ} (s : sought t.index.oid k ≡ Found i) (c# : length t.cells ≡ 256) where
    -- the cell is out of range
    pub switch_far : 256 ≤ p.cell → turned t (stage12_on t p k) ≡ (said 12 None, t)
    unfolding stage12_on stage12 at_entry release need and_then
    switch_far h =
        halts (put_switching t) t (stage12 t.index.oid (switching_in t) p k) t
        (rw s (settled_refused (settled_shift _ _ _ _) (λ a. rw (c#, le-ltb _ _ h)))) refl

    lost : shift_in t.index i p ≡ corrupt → (t' : Tables) → t' ≡ t → turned t (stage12_on t p k) ≡ (said 12 None, t')
    unfolding stage12_on stage12 at_entry and_then
    lost e t' q = halts (put_switching t) t (stage12 t.index.oid (switching_in t) p k) t' (rw (s, e)) q

    -- the places were shifted: the cell is released, and what comes next is told by the old place
    went : (old : Option Place) (a : Shifted) → shift_in t.index i p ≡ done a → a.old ≡ old → p.cell < 256 → (u : Tables) → put_places t a ≡ u → (t' : Tables) → t' ≡ freed u p.cell → turned t (stage12_on t p k) ≡ (said 0 (Some (after_switching old)), t')
    unfolding stage12_on stage12 at_entry release need and_then
    went old a e f h u m t' q =
        moves (put_switching t) t (stage12 t.index.oid (switching_in t) p k) t' 0 (after_switching old) (switching_of a.current a.previous (set t.cells p.cell 0))
        (rw (s, e, f, c#, lt-ltb p.cell 256 h)) (q ∙ ap (λ (v : Tables). freed v p.cell) (sym m))

    -- as shift_entry answers; u: the tables when the places are shifted, and the cell is not free yet
    module _ (u : Tables) {r : Result (Option Place) Corrupt} (e : ShiftsAt i p r t u) where
      pub switch_lost : {x : Corrupt} → r ≡ Err x → turned t (stage12_on t p k) ≡ (said 12 None, u)
      switch_lost q =
          let d = gave_corrupt (λ (a : Shifted). a.old) (put_places t) t u (shift_in t.index i p) e q in
          lost d.0 u d.1

      pub switch_made : {old : Option Place} → r ≡ Ok old → p.cell < 256 → (t' : Tables) → t' ≡ freed u p.cell → turned t (stage12_on t p k) ≡ (said 0 (Some (after_switching old)), t')
      switch_made {old} q h t' z =
          let d = gave_done (λ (a : Shifted). a.old) (put_places t) t u (shift_in t.index i p) e q in
          went old d.0 d.1 d.2 h u d.3 t' z

      -- by the old place
      pub switch_nowhere : r ≡ Ok None → p.cell < 256 → (t' : Tables) → t' ≡ freed u p.cell → turned t (stage12_on t p k) ≡ (said 0 (Some ReleaseObject), t')
      switch_nowhere q h t' z = switch_made q h t' z

      pub switch_at : (o : Place) → r ≡ Ok (Some o) → p.cell < 256 → (t' : Tables) → t' ≡ freed u p.cell → turned t (stage12_on t p k) ≡ (said 0 (Some (DeleteOld o)), t')
      switch_at o q h t' z = switch_made q h t' z
