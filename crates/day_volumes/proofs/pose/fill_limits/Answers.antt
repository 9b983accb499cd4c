use mathlib.Core.Path.{refl, ◌∙◌}
use Rattle.day_volumes.proofs.Posing.{limiting-none, limiting-done}
use native.Mathlib.Omega.{arith}
use Rattle.day_volumes.proofs.pose.fill_limits.Goals as goal

pub overflow_add-k-end : goal.overflow_add-k-end
overflow_add-k-end c = omega (arith, c.requires.0)

pub overflow_add-k-end-2 : goal.overflow_add-k-end-2
overflow_add-k-end-2 c = omega (arith, c.requires.0, c.requires.1)

pub loop-k-init : goal.loop-k-init
loop-k-init c = (omega arith, refl, refl, limiting-none _ _ _ _ _)

pub take_limit-p-requires : goal.take_limit-p-requires
take_limit-p-requires c = let p = c.requires in let l = c.loop-k in (p.0, omega (arith, p.1, c.loop-k-test.true), p.2, l.invariant.1 ∙ p.3, l.invariant.2 ∙ p.4, l.invariant.3)

pub overflow_step-k : goal.overflow_step-k
overflow_step-k c = omega arith

pub loop-k-smaller : goal.loop-k-smaller
loop-k-smaller c = omega arith

pub loop-k-preserved : goal.loop-k-preserved
loop-k-preserved c = let l = c.loop-k in let t = c.take_limit-p in (omega arith, t.auto.rows ∙ l.invariant.1, t.auto.least ∙ l.invariant.2, t.ensures)

pub shape_of-rows : goal.shape_of-rows
shape_of-rows c = c.loop-k.invariant.1

pub shape_of-least : goal.shape_of-least
shape_of-least c = c.loop-k.invariant.2

pub returns : goal.returns
returns c = limiting-done _ _ _ _ _ _ _ c.loop-k.invariant.3 _ (omega arith)
