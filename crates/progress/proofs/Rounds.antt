-- A round of steps: a step that does not move leaves the grid as it was, so the first task that moves in the grid
-- before the round still moves when its turn comes, unless another has moved before it.
use mathlib.Core.Path.{◌≡◌, subst}
use mathlib.Core.Logic.{◌≢◌, inl, inr}
use mathlib.Core.List.{List, [], ◌∷◌, Memᴰ}
use Rattle.base.specs.Lists.{in-none, in-or}
use Rattle.base.proofs.Table.{at_or}
use Rattle.updates.proofs.Refusals.{step_refused}
use Rattle.queries.proofs.Refusals.{step_refused as query-refused}
use Rattle.grid.specs.Run.{Grid, call}
use Rattle.runs.proofs.Every.{Good}
use Rattle.progress.specs.Progress.{Task, updating, querying, next_step, number_now, Moves, OneMoves, RoundMoves}
use Rattle.progress.proofs.Still.{never_still}

-- a step that does not move changes nothing
unmoved : (g : Grid) (t : Task) → number_now g t ≢ 0 → number_now g t ≢ 21 → number_now g t ≢ 22
    → (call (next_step t) g).1 ≡ g
unfolding call
unmoved g (updating l) a b c = let w = step_refused g.tables g.updaters l a b c in rw (w.tables, w.lanes)
unmoved g (querying q) a b c = let w = query-refused g.tables g.queries q a c in rw (w.tables, w.lanes)

-- so a step moves, or the grid stays
moves_or : {C : Type 0} (g : Grid) (t : Task) → (Moves g t → C) → ((call (next_step t) g).1 ≡ g → C) → C
moves_or g t f k =
    at_or (number_now g t) 0 (λ e. f (inl e))
    (λ a. at_or (number_now g t) 21 (λ e. f (inr (inl e)))
    (λ b. at_or (number_now g t) 22 (λ e. f (inr (inr e)))
    (λ c. k (unmoved g t a b c))))

-- steps among which is one of a task that would move
pub one_moves : (g : Grid) (t : Task) → Moves g t → (ts : List Task) → Memᴰ t ts → OneMoves ts g
unfolding OneMoves
one_moves g t m [] i = absurd (in-none i)
one_moves g t m (s ∷ ts) i =
    moves_or g s inl
    (λ same. elim (in-or i) [ inl e ↦ inl (subst (Moves g) e m) | inr r ↦ inr (rw same (one_moves g t m ts r)) ])

-- IN A ROUND in which everything under way is stepped something moves.
pub round_moves : (g : Grid) → Good g → RoundMoves g
round_moves g G ts all t w =
    let s = never_still g G t w in
    one_moves g s.0 s.2 ts (all s.0 s.1)
