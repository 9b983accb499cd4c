-- `check_bounds`: after i turns i variables have passed.
use mathlib.Core.Path.{sym, ◌∙◌}
use native.Mathlib.Omega.{arith}
use Rattle.std.proofs.lemmas.Result.{err_from_is_err_and}
use Rattle.step_check.proofs.First.{first-none, first_more, first_out, first-all}
use Rattle.step_check.proofs.bounds.check_bounds.Goals as goal

pub loop-i-init : goal.loop-i-init
loop-i-init c = (omega arith, first-none _ _ _)

pub returns-in_err-check_sides : goal.returns-in_err-check_sides
returns-in_err-check_sides c = let p = err_from_is_err_and c.from_residual.result c.from_residual.ensures.1 in rw (p.1, p.2) (sym (first_out _ _ _ c.loop-i.i _ _ c.loop-i-test.true c.loop-i.invariant.1 (sym (c.check_sides.ensures) ∙ c.in_err-check_sides.was)))

pub loop-i-preserved : goal.loop-i-preserved
loop-i-preserved c = (omega arith, first_more _ _ _ _ c.loop-i.invariant.1 (sym (c.check_sides.ensures) ∙ c.in_ok-check_sides.was))

pub returns : goal.returns
returns c = first-all _ _ _ _ _ (omega arith) (omega arith) c.loop-i.invariant.1
