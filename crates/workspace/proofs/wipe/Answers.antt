-- `wipe`: after i turns the first i entries are zero.
use native.Mathlib.Omega.{arith}
use lib.Ieee.{of_bits}
use Rattle.workspace.proofs.Clears.{wiped-none, wiped-more, wiped-all}
use Rattle.workspace.proofs.wipe.Goals as goal

pub loop-i-init : goal.loop-i-init
loop-i-init c = (omega arith, wiped-none _ _)

pub offset_bounds-w-i : goal.offset_bounds-w-i
offset_bounds-w-i c = omega arith

pub bounds-w-i : goal.bounds-w-i
bounds-w-i c = omega arith

pub overflow_step-i : goal.overflow_step-i
overflow_step-i c = omega arith

pub loop-i-smaller : goal.loop-i-smaller
loop-i-smaller c = omega arith

pub loop-i-preserved : goal.loop-i-preserved
unfolding of_bits
loop-i-preserved c = (omega arith, wiped-more c.loop-i.invariant.1 (omega arith))

pub shape_of-w : goal.shape_of-w
shape_of-w c = c.loop-i.invariant.1.size

pub returns : goal.returns
returns c = wiped-all c.loop-i.invariant.1 (omega arith)
