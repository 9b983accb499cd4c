-- `push_equalities`: after j turns the equalities of j constraints are pushed.
use mathlib.Core.Path.{◌≡◌, refl, ◌∙◌}
use native.Mathlib.Omega.{arith}
use Rattle.numbers.proofs.Lists.{row_fits}
use Rattle.step_rows.specs.Problem.{equality_rows}
use Rattle.step_rows.proofs.Pushing.{each_none, each_more}
use Rattle.step_rows.proofs.push_equalities.Goals as goal

pub loop-j-init : goal.loop-j-init
loop-j-init c = (omega arith, refl, omega arith, each_none _ _ _ _ _)

pub push_equation-k-requires : goal.push_equation-k-requires
push_equation-k-requires c = (omega arith, omega (arith, row_fits c.args.cs.now.m c.args.cs.now.n c.loop-j.j c.loop-j-test.true, c.args.cs.now.entries), omega arith)

pub loop-j-preserved : goal.loop-j-preserved
loop-j-preserved c = let l = c.loop-j in
    let b = c.push_equation-k in
    (omega arith, b.auto.w ∙ l.invariant.1, omega (arith, b.ensures.0, l.invariant.2), each_more _ _ _ _ _ _ _ _ _ _ l.invariant.3 (rw c.of-constraint.ensures at b.ensures.1))

pub returns : goal.returns
unfolding equality_rows
returns c = let l = c.loop-j in
    let e : l.j ≡ c.args.cs.now.m = omega arith in
    (omega (arith, l.invariant.2), rw (← e) l.invariant.3)
