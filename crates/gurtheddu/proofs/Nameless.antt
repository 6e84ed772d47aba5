-- The exports over variable tables and lanes: one law for each way in which a lane's numbers, or a kind, name nothing;
-- and a run over coded lanes, by whether a step was carried out.
use mathlib.Core.Path.{◌≡◌, ap, ◌∙◌}
use mathlib.Core.Logic.{◌≢◌}
use mathlib.Core.Bool.{true, false}
use mathlib.Core.List.{List}
use Prim.Native.Nat.{ℕ, ◌<◌}
use borrow.Author.Tests.{lt-ltb, lt-leb, eq-eqb, ne_eqb}
use Rattle.base.specs.Outcome.{pick}
use Rattle.layout.specs.declared.question.Question.{Question as Rectangle}
use Rattle.query.specs.declared.Query.{Query}
use Rattle.tables.specs.Tables.{Tables}
use Rattle.calls.specs.Call.{after, after_of, unless}
use Rattle.calls.specs.Run.{Ran, ran_of}
use Rattle.collect.specs.One.{clear_one, filling_one_of}
use Rattle.query_run.specs.Run.{run_one}
use Rattle.codes.specs.Queries.{names_query, query_in, with_query}
use Rattle.codes.specs.Rest.{stages_to, scans_to}
use Rattle.gurtheddu.specs.Coded.{coded, coded_run, start_sweep, run_sweep, read_from, clear_lane, rewind_deck}

-- ---- a run over coded lanes

module _ {L : Type 0} (ns : List ℕ) (store : L → List ℕ) (r : Ran L) (k m : ℕ) (t' : Tables) (v : L)
    (e : r ≡ ran_of k m t' v) where
  -- no step was carried out
  pub run_nothing : m ≡ 0 → coded_run ns store r ≡ ran_of k 0 t' ns
  unfolding pick
  run_nothing z = ap (coded_run ns store) e ∙ rw (eq-eqb m 0 z, z)

  -- some were
  pub run_some : m ≢ 0 → coded_run ns store r ≡ ran_of k m t' (store v)
  unfolding pick
  run_some z = ap (coded_run ns store) e ∙ rw (ne_eqb m 0 z)

-- ---- queries

module _ (t : Tables) (ns : List ℕ) (l k : ℕ) (a : Rectangle) (r : ℕ) (l< : l < 4) where
  -- the lane's numbers name nothing
  pub start_nameless : names_query ns l ≡ false → after t ns (start_sweep t ns l k a r) ≡ after_of 12 t ns
  unfolding start_sweep unless after
  start_nameless h = rw (lt-ltb l 4 l<, h)

  -- nor does the kind
  pub start_kindless : names_query ns l ≡ true → 2 < k → after t ns (start_sweep t ns l k a r) ≡ after_of 12 t ns
  unfolding start_sweep unless after
  start_kindless g h = rw (lt-ltb l 4 l<, g, lt-leb k 2 h)

module _ (n l : ℕ) (t : Tables) (ns : List ℕ) (n> : n ≢ 0) (l< : l < 4) where
  pub run_nameless : names_query ns l ≡ false → run_sweep n l t ns ≡ ran_of 12 0 t ns
  unfolding run_sweep pick
  run_nameless h = rw (ne_eqb n 0 n>, lt-ltb l 4 l<, h)

  pub onward_run : names_query ns l ≡ true
      → run_sweep n l t ns ≡ coded_run ns (with_query ns l) (run_one n l t (query_in ns l))
  unfolding run_sweep pick
  onward_run g = rw (ne_eqb n 0 n>, lt-ltb l 4 l<, g)

module _ (t : Tables) (ns : List ℕ) (l : ℕ) (l< : l < 4) where
  pub read_nameless : (out : List ℕ) → names_query ns l ≡ false → read_from t ns l out ≡ filling_one_of 12 t 0 0 out
  unfolding read_from pick
  read_nameless out h = rw (lt-ltb l 4 l<, h)

  pub clear_nameless : names_query ns l ≡ false → after t ns (clear_lane t ns l) ≡ after_of 12 t ns
  unfolding clear_lane unless after
  clear_nameless h = rw (lt-ltb l 4 l<, h)

  pub onward_clear : names_query ns l ≡ true → (q : Query) → q ≡ query_in ns l
      → clear_lane t ns l ≡ coded (with_query ns l) (clear_one t l q)
  unfolding clear_lane unless
  onward_clear g q eq = rw (lt-ltb l 4 l<, g, eq)

-- ---- a rewind

module _ (t : Tables) (us qs : List ℕ) where
  pub rewind_nameless : stages_to us 14 ≡ false → after t tt (rewind_deck t us qs) ≡ after_of 12 t tt
  unfolding rewind_deck unless after
  rewind_nameless e = rw e

  pub rewind_unnamed : stages_to us 14 ≡ true → scans_to qs 3 ≡ false
      → after t tt (rewind_deck t us qs) ≡ after_of 12 t tt
  unfolding rewind_deck unless after
  rewind_unnamed e f = rw (e, f)
