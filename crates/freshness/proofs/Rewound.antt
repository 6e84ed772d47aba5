-- A rewind keeps the grid and its past: it tells the history nothing, and leaves the grid as it is or gives a grid at rest
-- other times of the same signs and another clock (CallKinds.antt).
use mathlib.Core.Path.{sym, subst}
use mathlib.Core.List.{List}
use Rattle.rewind.specs.Rewind.{wound_clock}
use Rattle.grid.specs.Run.{Grid, rewind, Answer, call}
use Rattle.runs.specs.Rest.{AtRest}
use Rattle.runs.proofs.Rewound.{wound_grid, wound_times, is_retimed, clock_fits, wound_retimed, wound_length}
use Rattle.runs.proofs.Rewound.{Rewinding, moving, resting, rewinding}
use Rattle.freshness.specs.History.{Event}
use Rattle.freshness.proofs.CallKinds.{fine_retimed}
use Rattle.freshness.proofs.Fine.{Fresh, Fine}

module _ (g : Grid) (es : List Event) (F : Fine es g) where
  wound_fresh : AtRest g → Fresh es (wound_grid g)
  wound_fresh R = subst (Fresh es) (sym (is_retimed g))
      (fine_retimed es g R (wound_times g) (wound_clock g.tables.clock) (clock_fits g F.good)
      (wound_retimed g F.good) (wound_length g F.good) F).fresh

  by_rewound : (r : Answer × Grid) → Rewinding g r → Fresh es r.1
  by_rewound r (moving m) = F.fresh
  by_rewound r (resting R) = wound_fresh R

  pub rewind_fresh : Fresh es (call rewind g).1
  rewind_fresh = by_rewound (call rewind g) (rewinding g F.good)
