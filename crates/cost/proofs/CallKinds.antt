-- Three kinds of calls beside starts and steps, and what each keeps of what ties the past to the grid:
-- one that leaves the grid as it is (a refusal, a blocked step of an update, a reading); one that idles the lane of
-- a finished query; one that takes a grid at rest to a grid at rest. None of them is an update or a step of a query,
-- so that no tally changes; the last finds no query under way, and so nothing of the tables matters.
-- And what may be claimed of a call that hands back the steps of a finished query.
use mathlib.Core.Path.{◌≡◌, refl, sym, ◌∙◌}
use mathlib.Core.Logic.{◌≢◌, inl}
use mathlib.Core.Bool.{true, false}
use Rattle.std.specs.Prelude.{None}
use mathlib.Core.List.{List, ◌∷◌}
use Prim.Native.Nat.{ℕ, ◌<◌}
use native.Mathlib.Omega.{arith}
use lib.Dec.{T}
use lib.Seq.{get_or-set_same, get_or-set_other}
use Rattle.base.specs.Outcome.{pick}
use Rattle.base.specs.Table.{at}
use Rattle.base.proofs.Table.{at_or, clash}
use Rattle.stage.specs.Turn.{is_idle}
use Rattle.query.specs.declared.Scan.TheVariants.{Finished}
use Rattle.queries.specs.Query.{idle_query, is_idle as isIdleQuery, is_finished}
use Rattle.collect.specs.Collect.{idled}
use Rattle.grid.specs.Run.{Grid}
use Rattle.runs.specs.Rest.{AtRest}
use Rattle.runs.specs.Sweeps.{query}
use Rattle.runs.proofs.CallKinds.{idled_grid, idled_good}
use Rattle.runs.proofs.Every.{Good}
use Rattle.runs.proofs.View.{view}
use Rattle.cost.specs.Account.{Event, deed, deed_of, known, tally, sweeps, Counted}
use Rattle.cost.proofs.Aside.{no_step, no_tally, sweeps_same, aside}
use Rattle.cost.proofs.Lies.{may_same}
use Rattle.cost.proofs.Match.{Match, match_count}
use Rattle.cost.proofs.Rel.{busy, Rel, all_map, all_latest, fits_follow, under_quiet, known_quiet}
use Rattle.cost.proofs.Stepped.{idle_not}

-- the event is no start, no end and no step, and settles nothing
pub record Idles (e : Event) : Type 0 where
  pub begins : (deed e).begins ≡ None
  pub ends : (deed e).ends ≡ None
  pub asks : (deed e).asks ≡ None
  pub goes : (deed e).goes ≡ None
  pub settles : (deed e).settles ≡ None

module _ (e : Event) (past : List Event) (is : Idles e) where
  same_known : known (e ∷ past) ≡ known past
  same_known = known_quiet e past is.settles is.begins

  module _ (g : Grid) (R : Rel past g) where
    -- A CALL THAT LEAVES THE GRID AS IT IS
    pub rel_same : Rel (e ∷ past) g
    rel_same = aside e past g g 0 is.settles is.asks (no_step e past g g is.goes)
        (no_tally e past g g is.settles is.goes is.asks) R R.good
        (λ l l<. rw (under_quiet e past is.settles is.begins is.ends) (R.ties l l<))
        (λ k t. rw same_known (R.knows k t)) (λ k i. rw same_known i) (λ k x m. inl m) R.match
        (λ q q< i. refl) (λ q q< i f. refl)

    -- ---- one that idles a lane

    module _ (l : ℕ) (l< : l < 4) (f : (query g l).stage ≡ Finished) where
      lane_own : query (idled_grid g l) l ≡ idled (query g l)
      lane_own = get_or-set_same g.queries l (idled (query g l)) idle_query (omega (arith, R.good.shape.queries))

      lane_other : (q : ℕ) → q ≢ l → query (idled_grid g l) q ≡ query g q
      lane_other q z = get_or-set_other g.queries l q (idled (query g l)) idle_query z

      lane_last : (q : ℕ) → isIdleQuery (query (idled_grid g l) q).stage ≡ false → q ≢ l
      unfolding isIdleQuery
      lane_last q i z =
          let w : query (idled_grid g l) q ≡ idled (query g l) = rw z lane_own in
          let i' : isIdleQuery (idled (query g l)).stage ≡ false = rw w at i in
          clash (cc)

      not_finished : (q : ℕ) → is_finished (query g q).stage ≡ false → q ≢ l
      unfolding is_finished
      not_finished q n z = let w : is_finished Finished ≡ false = rw (z, f) at n in clash (cc)

      idled_match : (q : ℕ) → q < 4
          → Match (at g.tables.next) (query (idled_grid g l) q) (query (idled_grid g l) q).stage (tally past q)
      unfolding Match
      idled_match q q< = at_or q l
          (λ z. let w : query (idled_grid g l) q ≡ idled (query g l) = rw z lane_own in rw w tt)
          (λ z. rw (lane_other q z) (R.match q q<))

      -- A CALL THAT IDLES THE LANE OF A FINISHED QUERY
      pub rel_idled : Rel (e ∷ past) (idled_grid g l)
      unfolding view
      rel_idled = aside e past g (idled_grid g l) 0 is.settles is.asks
          (no_step e past g (idled_grid g l) is.goes)
          (no_tally e past g (idled_grid g l) is.settles is.goes is.asks) R (idled_good g R.good l l< f)
          (λ j j<. rw (under_quiet e past is.settles is.begins is.ends) (R.ties j j<))
          (λ k x. rw same_known (R.knows k x)) (λ k i. rw same_known i)
          (λ k x m. inl (may_same g (idled_grid g l) refl refl refl refl refl k x m))
          idled_match
          (λ q q< i. lane_other q (lane_last q i)) (λ q q< i n. lane_other q (not_finished q n))

    -- ---- one on a grid at rest

    -- A CALL THAT TAKES A GRID AT REST TO A GRID AT REST
    pub rel_rest : (g' : Grid) → Good g' → AtRest g → AtRest g'
        → ((k : ℕ) → T ((view g').known k) → T ((view g).known k)) → Rel (e ∷ past) g'
    unfolding busy is_idle isIdleQuery pick Match
    rel_rest g' G' Q Q' kept = record {
      good = G';
      ties = λ l l<. rw (
        under_quiet e past is.settles is.begins is.ends,
        R.ties l l<,
        Q.updates l l<,
        Q'.updates l l<,
      );
      knows = λ k t. rw same_known (R.knows k (kept k t));
      match = λ q q<. rw (Q'.queries q q<) tt;
      all = rw (sweeps_same e past g g' is.settles is.asks) (all_map _ (λ s F. fits_follow e past g g' s
          (λ z U. let w = rw (Q.queries s.lane U.lane) at U.busy in clash (cc)) F) R.all);
      lasts = λ q q< i. let w = rw (Q'.queries q q<) at i in clash (cc);
    }

-- a call that comes to nothing, on the same grid
pub rel_nothing : (e : Event) (past : List Event) (g : Grid) → deed e ≡ deed_of None None None None None
    → Rel past g → Rel (e ∷ past) g
rel_nothing e past g is R = rel_same e past
    (record { begins = rw is; ends = rw is; asks = rw is; goes = rw is; settles = rw is }) g R

-- ---- what a finished query hands back

-- THE STEPS OF A FINISHED QUERY are the tally's count, and all that is claimed of it
pub counted : (past : List Event) (g : Grid) → Rel past g → (l : ℕ) → l < 4
    → isIdleQuery (query g l).stage ≡ false → is_finished (query g l).stage ≡ true
    → Counted l (query g l).steps past
counted past g R l l< b d =
    let L = R.lasts l l< b in
    let s = L.sweep in
    let o : s.over ≡ true = sym L.finished ∙ d in
    let f : s.finished ≡ true = L.whole ∙ o in
    let D = (all_latest l (sweeps past) s R.all L.last).closed o in
    record {
      tally = sym (match_count (at g.tables.next) (query g l) (query g l).stage (tally past l)
          (idle_not (query g l).stage b) (R.match l l<));
      query = s;
      last = L.last;
      finished = f;
      steps = sym L.steps;
      found = sym L.steps ∙ D.found f;
      each = D.each f;
    }
