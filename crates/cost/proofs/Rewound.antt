-- A rewind keeps what ties the past to the grid: it comes to nothing in the history, and leaves the grid as it is or takes a
-- grid at rest to a grid at rest (CallKinds.antt).
use mathlib.Core.Path.{◌≡◌, refl}
use mathlib.Core.Bool.{Bool, true, false}
use Rattle.std.specs.Prelude.{None}
use mathlib.Core.List.{List, ◌∷◌}
use Prim.Native.Nat.{ℕ}
use lib.Dec.{T}
use Rattle.base.specs.Outcome.{pick}
use Rattle.calls.specs.Call.{accepted_number}
use Rattle.rewind.specs.Rewind.{wound_tables}
use Rattle.grid.specs.Run.{Grid, rewind, Answer, call}
use Rattle.runs.proofs.Rewound.{wound_grid, wound_good, Rewinding, moving, resting, rewinding}
use Rattle.runs.proofs.View.{view}
use Rattle.cost.specs.Account.{Event, event_of, deed, deed_of, only_if}
use Rattle.cost.proofs.CallKinds.{Idles, rel_nothing, rel_rest}
use Rattle.cost.proofs.Rel.{Rel}

-- accepted or not
no_deed : (g : Grid) → deed (event_of rewind g) ≡ deed_of None None None None None
unfolding deed only_if pick
no_deed g = go (accepted_number (call rewind g).0.number)
  where
    go : (b : Bool) → pick b (deed_of None None None None None) (deed_of None None None None None) ≡ deed_of None None None None None
    go true = refl
    go false = refl

module _ (past : List Event) (g : Grid) (R : Rel past g) where
  abbrev e : Event
  e = event_of rewind g

  quiet : Idles e
  quiet = let is = no_deed g in record { begins = rw is; ends = rw is; asks = rw is; goes = rw is; settles = rw is }

  -- the objects known are those of the index, which stays
  same_known : (k : ℕ) → T ((view (wound_grid g)).known k) → T ((view g).known k)
  unfolding view wound_tables
  same_known k t = t

  by_rewound : (r : Answer × Grid) → Rewinding g r → Rel (e ∷ past) r.1
  by_rewound r (moving m) = rel_nothing e past g (no_deed g) R
  by_rewound r (resting Q) = rel_rest e past quiet g R (wound_grid g) (wound_good g R.good Q) Q
      (record { updates = Q.updates; queries = Q.queries }) same_known

  pub keep_rewind : Rel (event_of rewind g ∷ past) (call rewind g).1
  keep_rewind = by_rewound (call rewind g) (rewinding g R.good)
