-- What the functions of an update's stages promise: a stage tells its number and the next stage as its definition f says, and leaves what f leaves.
use Rattle.std.specs.Prelude.{◌≡◌, Result}
use Rattle.base.specs.Outcome.{Outcome}
use Rattle.base.specs.Step.{turned}
use Rattle.stage.specs.Turn.{turn_says, Move}
use Rattle.base.specs.declared.Stop.{Stop}
use Rattle.stage.specs.declared.Turn.{Turn}

abbrev pub Turns : {B : Type 0} → (B → Outcome (Move B)) → Result Turn Stop → B → B → Type 0
Turns f r t t' = turned t (f t) ≡ (turn_says r, t')
