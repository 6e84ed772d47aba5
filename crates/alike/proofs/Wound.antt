-- A GRID THAT IS WOUND BACK AT REST is related to the grid that is not: every stamp keeps its sign, and there is no
-- query to
-- tell the sizes apart. As every call keeps the relation (Calls.antt), every list of calls is answered alike; by
-- induction
-- on the list.
use mathlib.Core.Path.{◌≡◌, refl, ap, ◌∙◌}
use mathlib.Core.List.{List, [], ◌∷◌}
use Prim.Native.Nat.{ℕ}
use native.Mathlib.Omega.{arith}
use Rattle.tables.specs.Tables.{Tables}
use Rattle.rewind.specs.Rewind.{wound_tables}
use Rattle.rewind.proofs.Winding.{above_wound, below_wound, map-length, map_at, clock_wound}
use Rattle.grid.specs.Run.{Grid, Call, rewind, Answer, call, run, answers}
use Rattle.query.specs.declared.Query.{Query}
use Rattle.runs.specs.Rest.{AtRest}
use Rattle.runs.specs.Sweeps.{query}
use Rattle.runs.proofs.Every.{Good}
use Rattle.runs.proofs.Rewound.{wound_grid, wound_good, Rewinding, moving, resting, rewinding}
use Rattle.runs.proofs.Runs.{call_good, every}
use Rattle.alike.specs.Alike.{stamp_at, Pair, pair, Both}
use Rattle.alike.specs.Promise.{NoEight, and_none, kept, rewound, WoundAlike, WoundLists}
use Rattle.alike.proofs.Calls.{lock_step}

-- ---- the relation holds of a grid at rest and the same wound back

module _ (g : Grid) (G : Good g) (R : AtRest g) where
  none_under_way : (s s' : ℕ) → Pair g (wound_grid g) s s' → ⊥
  none_under_way s s' (pair q q< n e e') = n (R.queries q q<)

  pub both_wound : Both g (wound_grid g)
  unfolding wound_tables
  both_wound =
      let ts = g.tables.tuples.time in
      record {
        tables = record {
          rest = refl;
          long = (G.shape.lengths.times, map-length ts ∙ G.shape.lengths.times);
          times = λ i. rw (map_at ts i) (record {
            stands = above_wound (stamp_at ts i);
            stood = below_wound (stamp_at ts i);
            tells = λ s s' o. absurd (none_under_way s s' o);
          });
          bound = λ s s' o. absurd (none_under_way s s' o);
          clock = (clock_wound g.tables.clock).0;
        };
        updaters = refl;
        queries = λ q. refl;
      }

-- ---- every list of calls

-- what two runs come to: the same answers, and grids that are related, as long as no answer of the first is 8
pub go_both : (ds : List Call) (g g' : Grid) → Good g → Good g' → Both g g' → NoEight (answers ds g)
    → (answers ds g' ≡ answers ds g) × Both (run ds g) (run ds g')
unfolding answers run
go_both [] g g' G G' B n = (refl, B)
go_both (c ∷ ds) g g' G G' B (and_none e n) =
    let w = lock_step g g' G G' B c e in
    let r = go_both ds (call c g).1 (call c g').1 (call_good c g G).1 (call_good c g' G').1 w.1 n in
    (ap (λ (a : Answer). a ∷ answers ds (call c g').1) w.0 ∙ ap (λ (l : List Answer). (call c g).0 ∷ l) r.0, r.1)

-- THE GENERAL FORM: two grids of runs that differ in the sizes of stamps and in the clock alone, so that no query
-- under way
-- can tell them apart, answer every list of calls alike until the one with the later clock gives 8.
pub go_alike : (ds : List Call) (g g' : Grid) → Good g → Good g' → Both g g' → NoEight (answers ds g)
    → answers ds g' ≡ answers ds g
go_alike ds g g' G G' B n = (go_both ds g g' G G' B n).0

-- an accepted rewind
module _ (cs : List Call) where
  wound_pair : (call rewind (kept cs)).0.number ≡ 0 → Good (rewound cs) × Both (kept cs) (rewound cs)
  wound_pair = go (call rewind (kept cs)) (rewinding (kept cs) (every cs))
    where
      go : (r : Answer × Grid) → Rewinding (kept cs) r → r.0.number ≡ 0 → Good r.1 × Both (kept cs) r.1
      go r (moving m) e = absurd (omega arith)
      go r (resting R) e = (wound_good (kept cs) (every cs) R, both_wound (kept cs) (every cs) R)

-- THE PROMISE: later calls are answered alike with the rewind and without it.
pub wound_alike : (cs ds : List Call) → WoundAlike cs ds
wound_alike cs ds e n = let w = wound_pair cs e in go_alike ds (kept cs) (rewound cs) (every cs) w.0 w.1 n

-- AND EVERY LANE HAS THE SAME LIST after them.
pub wound_lists : (cs ds : List Call) (q : ℕ) → WoundLists cs ds q
wound_lists cs ds q e n =
    let w = wound_pair cs e in
    let B = (go_both ds (kept cs) (rewound cs) (every cs) w.0 w.1 n).1 in
    let h : (run ds (rewound cs)).tables.hits ≡ (run ds (kept cs)).tables.hits = ap (λ (t : Tables). t.hits)
    B.tables.rest in
    let m : (query (run ds (rewound cs)) q).hits ≡ (query (run ds (kept cs)) q).hits = ap (λ (v : Query). v.hits)
    (B.queries q) in
    rw (h, m)
