-- find_hit's answers, by whether entries are left and the next one matches.
use mathlib.Core.Path.{◌≡◌, sym, ap, ◌∙◌}
use Prim.Native.Nat.{◌+◌, ◌-◌}
use native.Mathlib.Omega.{arith}
use Rattle.hits.specs.Hits.{look_from}
use Rattle.hits.proofs.Look.{look_start, look_end, look_match, look_past, looked_all, looked_match}
use Rattle.hits.proofs.find_hit.Goals as goal

pub loop-left-init : goal.loop-left-init
loop-left-init c = (omega arith, look_start _ _ _ _)

pub returns-then-left-eq0 : goal.returns-then-left-eq0
returns-then-left-eq0 c =
    let e = c.loop-left.invariant.1 ∙ look_end _ _ _ _ c.if-left-eq0.true in
    let all : c.args.size - c.loop-left.left ≡ c.args.size = omega (arith, c.if-left-eq0.true) in
    (sym e, all ∙ looked_all _ _ _ e)

pub loop-left-preserved : goal.loop-left-preserved
loop-left-preserved c =
    let v = c.loop-left.invariant in
    let left = c.loop-left.left in
    let i : c.args.from + c.args.size - left + 1 ≡ c.args.from + c.args.size - (left - 1) = omega (arith, v.0, c.if-left-eq0.false) in (
      omega (arith, v.0),
      v.1 ∙ look_past _ _ _ _ (omega (arith, c.if-left-eq0.false)) c.if-hits-end.false
          ∙ ap (look_from c.args.hits.now c.args.oid (left - 1)) i,
    )

pub returns : goal.returns
returns c =
    let e = c.loop-left.invariant.1 ∙ look_match _ _ _ _ (omega (arith, c.if-left-eq0.false)) c.if-hits-end.true in
    let left = c.loop-left.left in
    let passed : c.args.size - left + 1 ≡ c.args.from + c.args.size - left - c.args.from + 1 = omega (arith, c.loop-left.invariant.0) in
    (sym e, passed ∙ looked_match _ _ _ _ e)
