-- A CALL OVER ALL LANES IS THE CALL IN ONE, put among them: a refused one leaves its lane as it is, an accepted one replaces it.
-- One law for a test that may refuse, one for the end of a step; and what a call in a lane that is none comes to.
use mathlib.Core.Path.{◌≡◌, refl, sym, ap}
use mathlib.Core.Bool.{Bool, true, false}
use mathlib.Core.List.{List}
use Prim.Native.Nat.{ℕ}
use lib.ListN.{get_or, set}
use lib.Seq.{set-get_or}
use Rattle.base.specs.Outcome.{Outcome, corrupt, blocked, done, pick}
use Rattle.base.specs.Step.{Step}
use Rattle.tables.specs.Tables.{Tables}
use Rattle.calls.specs.Call.{Result, after, after_of, unless, stepped, placed}

module _ {L : Type 0} (d : L) (t : Tables) (ls : List L) (l : ℕ) where
  -- a lane that stays as it is
  pub stays : (n : ℕ) → after_of n t ls ≡ placed ls l (after_of n t (get_or ls l d))
  stays n = ap (after_of n t) (sym (set-get_or ls l d))

  -- a test that may refuse
  pub past : (b : Bool) (n : ℕ) (k : Result (List L)) (k' : Result L)
      → after t ls k ≡ placed ls l (after t (get_or ls l d) k') → after t ls (unless b n k) ≡ placed ls l (after t (get_or ls l d) (unless b n k'))
  unfolding unless after
  past true n k k' h = h
  past false n k k' h = stays n

  -- the end of a step
  pub steps : {S : Type 0} (put : S → L) (o : Outcome (Step S Tables))
      → after t ls (stepped t ls (λ s. set ls l (put s)) o) ≡ placed ls l (after t (get_or ls l d) (stepped t (get_or ls l d) put o))
  unfolding stepped after
  steps put corrupt = stays 12
  steps put blocked = stays 20
  steps put (done m) = refl

-- a lane that is none
pub no_such : {L : Type 0} (t : Tables) (ls : L) (b : Bool) (k : Result L) → after t ls (unless b 12 (unless false 1 k)) ≡ after_of (pick b 1 12) t ls
unfolding unless after pick
no_such t ls true k = refl
no_such t ls false k = refl
