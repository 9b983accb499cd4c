-- `check_equalities`: after j turns j constraints have passed.
use mathlib.Core.Path.{sym, ◌∙◌}
use native.Mathlib.Omega.{arith}
use Rattle.std.proofs.lemmas.Result.{err_from_is_err_and}
use Rattle.step_check.specs.Check.{equalities}
use Rattle.step_check.proofs.First.{first-none, first_more, first_out, first-all}
use Rattle.step_check.proofs.constraints.check_equalities.Goals as goal

pub loop-j-init : goal.loop-j-init
loop-j-init c = (omega arith, first-none _ _ _)

pub returns-in_err-check_equality : goal.returns-in_err-check_equality
unfolding equalities
returns-in_err-check_equality c = let p = err_from_is_err_and c.from_residual.result c.from_residual.ensures.1 in rw (p.1, p.2) (sym (first_out _ _ _ c.loop-j.j _ _ c.loop-j-test.true c.loop-j.invariant.1 (sym (rw c.constraint-constraint.ensures at c.check_equality.ensures) ∙ c.in_err-check_equality.was)))

pub loop-j-preserved : goal.loop-j-preserved
loop-j-preserved c = (omega arith, first_more _ _ _ _ c.loop-j.invariant.1 (sym (rw c.constraint-constraint.ensures at c.check_equality.ensures) ∙ c.in_ok-check_equality.was))

pub returns : goal.returns
unfolding equalities
returns c = first-all _ _ _ _ _ (omega arith) (omega arith) c.loop-j.invariant.1
