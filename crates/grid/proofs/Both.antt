-- A COLLECTION IS A READING AND THEN THE CLEARING OF ITS LANE, as calls on any grid; a reading leaves the grid as it is. By the cases of a reading.
use mathlib.Core.Path.{◌≡◌, refl}
use mathlib.Core.List.{[]}
use Prim.Native.Nat.{ℕ}
use Rattle.base.specs.Outcome.{pick}
use Rattle.calls.specs.Call.{Result, After, after}
use Rattle.collect.specs.Collect.{Handed, handed_of, clear_query, cleared, then_clear, collect_query}
use Rattle.collect.proofs.Cases.{clear_passes, read_cases}
use Rattle.grid.specs.Run.{Grid, grid_of, Answer, answer_of, read, clear, collect, call, then_clears}

module _ (l n : ℕ) (g : Grid) where
  -- a call that hands a list back, from what it comes to
  abbrev handing : After Handed → Answer × Grid
  handing a = (answer_of a.number a.lanes.steps a.lanes.part, grid_of a.tables g.updaters a.lanes.queries)

  abbrev ended : Result Handed → After Handed
  ended r = after g.tables (handed_of g.queries 0 []) r

  -- C's answer and effect are those of L followed by X: refused as L is, and then X is not done.
  pub collect_is_both : call (collect l n) g ≡ then_clears l (call (read l n) g)
  unfolding call collect_query then_clear cleared after pick
  collect_is_both =
      read_cases g.tables g.queries l n (λ (r : Result Handed). handing (ended (then_clear l r)) ≡ then_clears l (handing (ended r)))
      refl refl refl refl refl (λ R. rw (clear_passes g.tables g.queries l R.query))

  -- A reading changes no table and no lane.
  pub read_stays : (call (read l n) g).1 ≡ g
  unfolding call after
  read_stays = read_cases g.tables g.queries l n (λ (r : Result Handed). (handing (ended r)).1 ≡ g) refl refl refl refl refl (λ R. refl)

  -- After an accepted reading the clearing is accepted.
  pub clear_after_read : (call (read l n) g).0.number ≡ 0 → (call (clear l) g).0.number ≡ 0
  unfolding call after
  clear_after_read =
      read_cases g.tables g.queries l n (λ (r : Result Handed). (ended r).number ≡ 0 → (after g.tables g.queries (clear_query g.tables g.queries l)).number ≡ 0)
      (λ e. cc) (λ e. cc) (λ e. cc) (λ e. cc) (λ e. cc) (λ R e. rw (clear_passes g.tables g.queries l R.query))
