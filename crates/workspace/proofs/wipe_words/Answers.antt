-- `wipe_words`: after i turns the first i entries are zero.
use native.Mathlib.Omega.{arith}
use Rattle.workspace.proofs.Clears.{wiped-none, wiped-more, wiped-all}
use Rattle.workspace.proofs.wipe_words.Goals as goal

pub loop-i-init : goal.loop-i-init
loop-i-init c = (omega arith, wiped-none _ _)

pub offset_bounds-iw-i : goal.offset_bounds-iw-i
offset_bounds-iw-i c = omega arith

pub bounds-iw-i : goal.bounds-iw-i
bounds-iw-i c = omega arith

pub overflow_step-i : goal.overflow_step-i
overflow_step-i c = omega arith

pub loop-i-smaller : goal.loop-i-smaller
loop-i-smaller c = omega arith

pub loop-i-preserved : goal.loop-i-preserved
loop-i-preserved c = (omega arith, wiped-more c.loop-i.invariant.1 (omega arith))

pub shape_of-iw : goal.shape_of-iw
shape_of-iw c = c.loop-i.invariant.1.size

pub returns : goal.returns
returns c = wiped-all c.loop-i.invariant.1 (omega arith)
