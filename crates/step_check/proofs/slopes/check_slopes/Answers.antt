-- `check_slopes`: after i turns i variables have passed.
use mathlib.Core.Path.{sym, ◌∙◌}
use native.Mathlib.Omega.{arith}
use Rattle.std.proofs.lemmas.Result.{err_from_is_err_and}
use Rattle.step_check.specs.Check.{slopes}
use Rattle.step_check.proofs.First.{first-none, first_more, first_out, first-all}
use Rattle.step_check.proofs.slopes.check_slopes.Goals as goal

pub loop-i-init : goal.loop-i-init
loop-i-init c = (omega arith, first-none _ _ _)

pub returns-in_err-judge_slope : goal.returns-in_err-judge_slope
unfolding slopes
returns-in_err-judge_slope c = let p = err_from_is_err_and c.from_residual.result c.from_residual.ensures.1 in rw (p.1, p.2) (sym (first_out _ _ _ c.loop-i.i _ _ c.loop-i-test.true c.loop-i.invariant.1 (sym (rw c.slope_at-v.ensures at c.judge_slope.ensures) ∙ c.in_err-judge_slope.was)))

pub loop-i-preserved : goal.loop-i-preserved
loop-i-preserved c = (omega arith, first_more _ _ _ _ c.loop-i.invariant.1 (sym (rw c.slope_at-v.ensures at c.judge_slope.ensures) ∙ c.in_ok-judge_slope.was))

pub returns : goal.returns
unfolding slopes
returns c = first-all _ _ _ _ _ (omega arith) (omega arith) c.loop-i.invariant.1
