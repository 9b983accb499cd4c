-- `revise_row`: after j turns the first j entries are new.
use Rattle.numbers.proofs.Fills.{fill_none, fill_more, fill-all, fill-next}
use native.Mathlib.Omega.{arith}
use Rattle.hessian.proofs.revise_row.Goals as goal

pub loop-j-init : goal.loop-j-init
loop-j-init c = (omega arith, fill_none _ _)

pub offset_bounds-x-j : goal.offset_bounds-x-j
offset_bounds-x-j c = omega arith

pub bounds-x-j : goal.bounds-x-j
bounds-x-j c = omega arith

pub offset_bounds-r-j : goal.offset_bounds-r-j
offset_bounds-r-j c = omega arith

pub bounds-r-j : goal.bounds-r-j
bounds-r-j c = omega arith

pub offset_bounds-bs-j : goal.offset_bounds-bs-j
offset_bounds-bs-j c = omega arith

pub bounds-bs-j : goal.bounds-bs-j
bounds-bs-j c = omega arith

pub offset_bounds-x-j-in-loop-j : goal.offset_bounds-x-j-in-loop-j
offset_bounds-x-j-in-loop-j c = omega arith

pub bounds-x-j-in-loop-j : goal.bounds-x-j-in-loop-j
bounds-x-j-in-loop-j c = omega arith

pub overflow_step-j : goal.overflow_step-j
overflow_step-j c = omega arith

pub loop-j-smaller : goal.loop-j-smaller
loop-j-smaller c = omega arith

pub loop-j-preserved : goal.loop-j-preserved
loop-j-preserved c = let k = c.loop-j in
    (omega arith, fill_more k.invariant.1 (omega arith) (cc (fill-next k.invariant.1 (omega arith))))

pub shape_of-x : goal.shape_of-x
shape_of-x c = omega arith

pub returns : goal.returns
returns c = fill-all c.loop-j.invariant.1 (omega arith) (omega arith)
