-- `repeat`: after each turn one period more is counted.
use native.Mathlib.Omega.{arith}
use Rattle.nnls.proofs.Remembered.{repeated-none, repeated-more}
use Rattle.nnls.proofs.memory.repeat.Goals as goal

pub loop-p-init : goal.loop-p-init
loop-p-init c = repeated-none _ _ _ _ _ c.requires.2 c.requires.4

pub overflow_add-p : goal.overflow_add-p
overflow_add-p c = let w = c.loop-p.invariant.within in omega (arith, w)

pub overflow_add-p-in-loop-p : goal.overflow_add-p-in-loop-p
overflow_add-p-in-loop-p c = omega arith

pub overflow_add-g : goal.overflow_add-g
overflow_add-g c = let w = c.loop-p.invariant.few in let v = c.loop-p.invariant.within in omega (arith, w, v)

pub loop-p-smaller : goal.loop-p-smaller
loop-p-smaller c = omega arith

pub loop-p-preserved : goal.loop-p-preserved
loop-p-preserved c = repeated-more _ _ _ _ _ _ _ c.loop-p.invariant c.loop-p-test.true c.requires.5

pub returns : goal.returns
returns c = c.loop-p.invariant
