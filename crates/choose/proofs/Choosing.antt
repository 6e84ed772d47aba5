-- How stage 8 goes on all tables, by the answer about the current place, by the lock of the new cell, and as the tuple is overwritten: one law for each way.
-- The stage reads the place, then chooses; that the two come apart is by cases of the test and of the search's end.
use mathlib.Core.Path.{◌≡◌, refl, sym, ap, ◌∙◌}
use mathlib.Core.Logic.{◌≢◌}
use mathlib.Core.Bool.{Bool, true, false}
use Rattle.std.specs.Prelude.{Option, None, Some}
use mathlib.Core.List.{List}
use Prim.Native.Nat.{ℕ, ◌+◌, ◌<◌}
use lib.IntN.{ℤ}
use lib.ListN.{length}
use borrow.Author.Tests.{eq-eqb, ne_eqb, lt-ltb}
use Rattle.base.specs.Outcome.{Outcome, corrupt, blocked, done, need, pick, and_then}
use Rattle.base.specs.Step.{Said, said, turned, turn_tells, turn_leaves, lift}
use Rattle.base.proofs.Step.{lifted}
use Rattle.words.specs.Map.{WORDS, CURRENT}
use Rattle.words.specs.Part.{part}
use Rattle.words.specs.Words.{cells_in, put_cells}
use Rattle.layout.specs.Place.{on_grid, cell_of}
use Rattle.layout.specs.declared.place.Place.{Place}
use Rattle.locks.specs.Lock.{take_lock}
use Rattle.slots.specs.Tuple.{Tuples}
use Rattle.index.specs.Search.{search as sought, found_at}
use Rattle.index.specs.Places.{read_place}
use Rattle.index.specs.declared.search.Search.{Search}
use Rattle.index.specs.declared.search.Search.TheVariants.{Found, Empty}
use Rattle.tables.specs.Tables.{Tables, with_cells, with_tuples, with_clock}
use Rattle.tables.specs.Grid.{grid}
use Rattle.tables.proofs.Grid.{put_cells_lem}
use Rattle.tables.proofs.Entries.{current_lent}
use Rattle.cells.specs.On.{overwrite_on}
use Rattle.base.proofs.Turns.{halts, moves}
use Rattle.stage.specs.Turn.{advance, at_entry, draw, drawn, hold}
use Rattle.stage.proofs.Draw.{draw_refused, draw_made}
use Rattle.stage.proofs.Entry.{entry_missing, entry_found}
use Rattle.stage.specs.declared.Stage.{Stage}
use Rattle.stage.specs.declared.Stage.TheVariants.{MakeRoom, ReleaseObject}
use Rattle.choose.specs.Choose.{placing_of, rewrite, lock_new, choose, stage8}
use Rattle.choose.specs.On.{placing_in, put_placing, here_on, rewrite_on, lock_new_on, stage8_on}

-- ---- the current place

pub here_off : (t : Tables) (k x y : ℕ) → on_grid x y ≡ false → here_on t k x y ≡ corrupt
unfolding here_on need
here_off t k x y g = rw g

module _ (w : List ℕ) (ts : List ℤ) (w# : length w ≡ WORDS) (k x y : ℕ) (g : on_grid x y ≡ true) where
  pub here_missing : (s : Search) → s ≡ sought (grid w ts).index.oid k → corrupt ≡ found_at s → here_on (grid w ts) k x y ≡ corrupt
  unfolding here_on need
  here_missing s q e = rw (g, entry_missing (read_place (grid w ts).index.current) s _ q e)

  pub here_read : (s : Search) {i : ℕ} → s ≡ sought (grid w ts).index.oid k → done i ≡ found_at s →
      here_on (grid w ts) k x y ≡ read_place (part CURRENT 512 w) i
  unfolding here_on need
  here_read s q e = rw (g, entry_found (read_place (grid w ts).index.current) s _ q e, current_lent w ts w#)

-- ---- the lock of the new cell

lock_way : (t : Tables) (o : Outcome (List ℕ)) → lift (put_placing t) (and_then o (λ l. advance MakeRoom (placing_of l t.tuples t.clock))) ≡ lift (with_cells t) (and_then o (λ l. advance MakeRoom l))
unfolding and_then lift
lock_way t corrupt = refl
lock_way t blocked = refl
lock_way t (done l) = refl

lock_on : (t : Tables) (c owner : ℕ) → lock_new_on t c owner ≡ lift (with_cells t) (hold t.cells c owner MakeRoom)
unfolding lock_new_on lock_new hold
lock_on t c owner = lock_way t (take_lock t.cells c owner)

pub locks_new : (w : List ℕ) (ts : List ℤ) → length w ≡ WORDS → (c owner : ℕ) (s : Said Stage) (v : List ℕ) →
    length v ≡ 256 →
    turned (cells_in w) (hold (cells_in w) c owner MakeRoom) ≡ (s, v) →
    turned (grid w ts) (lock_new_on (grid w ts) c owner) ≡ (s, grid (put_cells w v) ts)
unfolding grid
locks_new w ts w# c owner s v v# e =
    ap (turned (grid w ts)) (lock_on (grid w ts) c owner)
    ∙ lifted (with_cells (grid w ts)) (cells_in w) (hold (cells_in w) c owner MakeRoom) s v e
    ∙ ap (λ (t : Tables). (s, t)) (sym (put_cells_lem w ts w# v v#))

-- ---- the tuple overwritten

module _ (t : Tables) (p : Place) (k x y m : ℕ) where
  pub rewrite_late : corrupt ≡ drawn t.clock → turned t (rewrite_on t p k x y m) ≡ (said 12 None, t)
  unfolding rewrite_on rewrite
  rewrite_late e = halts (put_placing t) t (rewrite (placing_in t) p k x y m) t (draw_refused t.clock _ e) refl

  -- as overwrite_slot answers; u: the tables when the tuple is written, and the clock is not yet
  module _ (n : ℕ) (e : done n ≡ drawn t.clock) (u : Tables) where
    pub rewrite_lost : (overwrite_on t p.bucket p.slot k x y m n ≡ corrupt) × (u ≡ t) → turned t (rewrite_on t p k x y m) ≡ (said 12 None, u)
    unfolding rewrite_on rewrite and_then
    rewrite_lost (f, q) = halts (put_placing t) t (rewrite (placing_in t) p k x y m) u (rw (draw_made t.clock _ e, f)) q

    pub rewrite_done : (d : Tuples) × (overwrite_on t p.bucket p.slot k x y m n ≡ done d) × (with_tuples t d ≡ u) → (t' : Tables) → t' ≡ with_clock u n
        → turned t (rewrite_on t p k x y m) ≡ (said 0 (Some ReleaseObject), t')
    unfolding rewrite_on rewrite and_then
    rewrite_done (d, f, q) t' r =
        moves (put_placing t) t (rewrite (placing_in t) p k x y m) t' 0 ReleaseObject (placing_of t.cells d n)
        (rw (draw_made t.clock _ e, f)) (r ∙ ap (λ (v : Tables). with_clock v n) (sym q))

  -- the same by the clock
  module _ (n : ℕ) (n= : t.clock ≡ n) (n< : n < 2147483647) (u : Tables) where
    pub rewrite_no : overwrite_on t p.bucket p.slot k x y m (n + 1) ≡ corrupt → u ≡ t → turned t (rewrite_on t p k x y m) ≡ (said 12 None, u)
    unfolding rewrite_on rewrite draw need and_then
    rewrite_no e q = halts (put_placing t) t (rewrite (placing_in t) p k x y m) u (rw (n=, lt-ltb n 2147483647 n<, e)) q

    pub rewrite_yes : (d : Tuples) → overwrite_on t p.bucket p.slot k x y m (n + 1) ≡ done d → with_tuples t d ≡ u → (t' : Tables) → t' ≡ with_clock u (n + 1)
        → turned t (rewrite_on t p k x y m) ≡ (said 0 (Some ReleaseObject), t')
    unfolding rewrite_on rewrite draw need and_then
    rewrite_yes d e q t' r =
        moves (put_placing t) t (rewrite (placing_in t) p k x y m) t' 0 ReleaseObject (placing_of t.cells d (n + 1))
        (rw (n=, lt-ltb n 2147483647 n<, e)) (r ∙ ap (λ (v : Tables). with_clock v (n + 1)) (sym q))

-- ---- the stage

apart : {A B : Type 0} (b : Bool) (s : Search) (f : ℕ → Outcome A) (k : A → Outcome B) → need b (at_entry s (λ i. and_then (f i) k)) ≡ and_then (need b (at_entry s f)) k
unfolding need at_entry and_then
apart true (Found i) f k = refl
apart true (Empty i) f k = refl
apart false s f k = refl

module _ (t : Tables) (k x y m owner : ℕ) where
  -- the place, then the choice
  chosen : {o : Outcome (Option Place)} → here_on t k x y ≡ o → stage8_on t k x y m owner ≡ lift (put_placing t) (and_then o (λ p. choose (placing_in t) p k x y m owner))
  unfolding stage8_on stage8 here_on
  chosen e = ap (lift (put_placing t)) (apart (on_grid x y) (sought t.index.oid k) (read_place t.index.current) (λ p. choose (placing_in t) p k x y m owner) ∙ rw e)

  pub choose_corrupt : here_on t k x y ≡ corrupt → turned t (stage8_on t k x y m owner) ≡ (said 12 None, t)
  unfolding and_then lift turn_tells turn_leaves
  choose_corrupt e = ap (turned t) (chosen e)

  module _ {c : ℕ} (q : c ≡ cell_of x y) (s : Said Stage) (t' : Tables) where
    -- the object stands nowhere
    pub choose_nowhere : here_on t k x y ≡ done None → turned t (lock_new_on t c owner) ≡ (s, t') → turned t (stage8_on t k x y m owner) ≡ (s, t')
    unfolding and_then choose lock_new_on
    choose_nowhere e f = ap (turned t) (chosen e ∙ rw (← q)) ∙ f

    -- it stands in another cell
    pub choose_other : (p : Place) → here_on t k x y ≡ done (Some p) → p.cell ≢ c → turned t (lock_new_on t c owner) ≡ (s, t') → turned t (stage8_on t k x y m owner) ≡ (s, t')
    unfolding and_then choose pick lock_new_on
    choose_other p e n f = ap (turned t) (chosen e ∙ rw (← q, ne_eqb p.cell c n)) ∙ f

    -- it stays in its cell
    pub choose_same : (p : Place) → here_on t k x y ≡ done (Some p) → p.cell ≡ c → turned t (rewrite_on t p k x y m) ≡ (s, t') → turned t (stage8_on t k x y m owner) ≡ (s, t')
    unfolding and_then choose pick rewrite_on
    choose_same p e n f = ap (turned t) (chosen e ∙ rw (← q, eq-eqb p.cell c n)) ∙ f
