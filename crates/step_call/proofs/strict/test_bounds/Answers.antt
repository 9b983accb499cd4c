-- `test_bounds`: what is still to test gives the answer.
use mathlib.Core.Path.{sym, ◌∙◌}
use native.Mathlib.Omega.{arith}
use Rattle.step_call.proofs.Bounds.{tested-none, tested-on, tested-out, tested-all}
use Rattle.step_call.proofs.strict.test_bounds.Goals as goal

pub loop-i-init : goal.loop-i-init
loop-i-init c = (omega arith, tested-none _ _ _)

pub returns-then-not-are_bounds : goal.returns-then-not-are_bounds
returns-then-not-are_bounds c = sym (c.loop-i.invariant.1 ∙ tested-out _ _ _ _ (omega arith) (sym c.are_bounds.ensures ∙ c.if-not-are_bounds.true))

pub loop-i-preserved : goal.loop-i-preserved
loop-i-preserved c = (omega arith, c.loop-i.invariant.1 ∙ tested-on _ _ _ _ (omega arith) (sym c.are_bounds.ensures ∙ c.if-not-are_bounds.false))

pub returns : goal.returns
returns c = sym (c.loop-i.invariant.1 ∙ tested-all _ _ _ _ (omega arith))
