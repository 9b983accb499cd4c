-- `unit_row`: after j turns the first j entries are written.
use Rattle.numbers.proofs.Fills.{fill_none, fill_more, fill-all}
use native.Mathlib.Omega.{arith}
use Rattle.hessian.proofs.unit_row.Goals as goal

pub loop-j-init : goal.loop-j-init
loop-j-init c = (omega arith, fill_none _ _)

pub unit_entry-requires : goal.unit_entry-requires
unit_entry-requires c = omega arith

pub offset_bounds-x-j : goal.offset_bounds-x-j
offset_bounds-x-j c = omega arith

pub bounds-x-j : goal.bounds-x-j
bounds-x-j c = omega arith

pub overflow_step-j : goal.overflow_step-j
overflow_step-j c = omega arith

pub loop-j-smaller : goal.loop-j-smaller
loop-j-smaller c = omega arith

pub loop-j-preserved : goal.loop-j-preserved
loop-j-preserved c = (omega arith, fill_more c.loop-j.invariant.1 (omega arith) c.unit_entry.ensures)

pub shape_of-x : goal.shape_of-x
shape_of-x c = omega arith

pub returns : goal.returns
returns c = fill-all c.loop-j.invariant.1 (omega arith) (omega arith)
