-- `push_bounds`: after i turns the bounds of i variables are pushed.
use mathlib.Core.Path.{◌≡◌, refl, ◌∙◌}
use native.Mathlib.Omega.{arith}
use Rattle.step_rows.proofs.Pushing.{each_none, each_more}
use Rattle.step_rows.proofs.push_bounds.Goals as goal

pub loop-i-init : goal.loop-i-init
loop-i-init c = (omega arith, refl, omega arith, each_none _ _ _ _ _)

pub loop-i-preserved : goal.loop-i-preserved
loop-i-preserved c = let l = c.loop-i in
    let b = c.push_bound-c in
    (omega arith, b.auto.w ∙ l.invariant.1, omega (arith, b.ensures.0, l.invariant.2), each_more _ _ _ _ _ _ _ _ _ _ l.invariant.3 b.ensures.1)

pub returns : goal.returns
returns c = let l = c.loop-i in
    let e : l.i ≡ c.args.n = omega arith in
    (omega (arith, l.invariant.2), rw (← e) l.invariant.3)
