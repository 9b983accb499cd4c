-- `times_into`: after i turns the first i entries are written.
use native.Mathlib.Omega.{arith}
use Rattle.numbers.proofs.Fills.{fill_none, fill_more, fill-all}
use Rattle.hessian_packed.specs.Packed.{times}
use Rattle.hessian_packed.proofs.times_into.Goals as goal

pub loop-i-init : goal.loop-i-init
loop-i-init c = (omega arith, fill_none _ _)

pub row_times-requires : goal.row_times-requires
row_times-requires c = (omega arith, omega arith, omega arith, omega arith)

pub offset_bounds-out-i : goal.offset_bounds-out-i
offset_bounds-out-i c = omega arith

pub bounds-out-i : goal.bounds-out-i
bounds-out-i c = omega arith

pub overflow_step-i : goal.overflow_step-i
overflow_step-i c = omega arith

pub loop-i-smaller : goal.loop-i-smaller
loop-i-smaller c = omega arith

pub loop-i-preserved : goal.loop-i-preserved
loop-i-preserved c = (omega arith, fill_more c.loop-i.invariant.1 (omega arith) c.row_times.ensures)

pub shape_of-out : goal.shape_of-out
shape_of-out c = omega arith

pub returns : goal.returns
unfolding times
returns c = fill-all c.loop-i.invariant.1 (omega arith) (omega arith)
