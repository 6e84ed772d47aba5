-- find_object's answers: each is one step of the search.
use mathlib.Core.Path.{◌≡◌, refl, sym, ◌∙◌}
use Prim.Native.Nat.{◌+◌, ◌-◌}
use native.Mathlib.Omega.{arith}
use Rattle.index.specs.Search.{search}
use Rattle.index.proofs.Probe.{start_below, after-mod, probe_gap, probe_hit, probe_on, probe_spent}
use Rattle.index.proofs.search.find_object.Goals as goal

pub loop-init : goal.loop-init
unfolding search
loop-init c = rw c.start_of-start.ensures (start_below _, refl)

pub returns-then-o-eq0 : goal.returns-then-o-eq0
returns-then-o-eq0 c =
    sym (c.loop.invariant.1 ∙ probe_gap _ _ _ _ _ (omega (arith, c.loop-test.true)) c.if-o-eq0.true)

pub returns-then-o-oid : goal.returns-then-o-oid
returns-then-o-oid c =
    sym (c.loop.invariant.1 ∙ probe_hit _ _ _ _ _ (omega (arith, c.loop-test.true)) c.if-o-eq0.false c.if-o-oid.true)

pub loop-preserved : goal.loop-preserved
loop-preserved c =
    let n : 512 - c.loop.counter - 1 ≡ 512 - (c.loop.counter + 1) = omega arith in (
      omega arith,
      c.loop.invariant.1
          ∙ probe_on _ _ _ _ _ (omega (arith, c.loop-test.true)) c.if-o-eq0.false c.if-o-oid.false
          ∙ rw (n, after-mod _ c.loop.invariant.0),
    )

pub returns : goal.returns
returns c = sym (c.loop.invariant.1 ∙ probe_spent _ _ _ _ _ (omega (arith, c.loop-test.false)))
