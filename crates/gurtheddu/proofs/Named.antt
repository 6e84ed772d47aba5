-- A lane among others, by what the test of it answered.
use mathlib.Core.Path.{◌≡◌, refl}
use mathlib.Core.Bool.{Bool, true, false}
use mathlib.Core.List.{List}
use Prim.Native.Nat.{ℕ, ◌<◌}
use denote.Param.Members.{Shared}
use denote.Ref.{Bor}
use lib.ListN.{length, get_or}
use Rattle.std.specs.Fn.{FnReturnsAt}
use Rattle.calls.specs.declared.refusal.Refusal.TheVariants.{Corrupt}
use Rattle.gurtheddu.specs.Promise.{FoundLane, LostLane, nameless}

module _ {F L : Type 0} {g : Shared F (Bor L × Unit {0}) Bool} {f : F} {ls : List L} {l : ℕ}
    (x : Bor L) (b : Bool) (lane : l < length ls) (is : get_or ls l x.now ≡ x.now) (says : g.post f (x, tt) b) where
  pub named : b ≡ true → FoundLane (FnReturnsAt g f) ls l x.now
  named e =
      let told : FnReturnsAt g f x.now true = record { shown = x; shows = refl; says = record { met = rw e at says } } in
      record { lane = lane; is = is; named = told }

  pub unnamed : b ≡ false → LostLane (FnReturnsAt g f) ls l Corrupt
  unnamed e = nameless x.now lane is (record { shown = x; shows = refl; says = record { met = rw e at says } })
