-- `move_into`: after i turns the first i entries are written.
use native.Mathlib.Omega.{arith}
use Rattle.numbers.proofs.Fills.{fill_none, fill_more, fill-all}
use mathlib.Core.Path.{refl}
use Rattle.search_move.specs.inner.Work.{move_in}
use Rattle.search_move.proofs.move_into.Goals as goal

pub loop-i-init : goal.loop-i-init
loop-i-init c = (omega arith, fill_none _ _)

pub overflow_add-s : goal.overflow_add-s
overflow_add-s c = omega arith

pub offset_bounds-f-i : goal.offset_bounds-f-i
offset_bounds-f-i c = omega arith

pub bounds-f-i : goal.bounds-f-i
bounds-f-i c = omega arith

pub overflow_add-s-in-loop-i : goal.overflow_add-s-in-loop-i
overflow_add-s-in-loop-i c = omega arith

pub offset_bounds-f-i-in-loop-i : goal.offset_bounds-f-i-in-loop-i
offset_bounds-f-i-in-loop-i c = omega arith

pub bounds-f-i-in-loop-i : goal.bounds-f-i-in-loop-i
bounds-f-i-in-loop-i c = omega arith

pub offset_bounds-s-i : goal.offset_bounds-s-i
offset_bounds-s-i c = omega arith

pub bounds-s-i : goal.bounds-s-i
bounds-s-i c = omega arith

pub overflow_step-i : goal.overflow_step-i
overflow_step-i c = omega arith

pub loop-i-smaller : goal.loop-i-smaller
loop-i-smaller c = omega arith

pub loop-i-preserved : goal.loop-i-preserved
loop-i-preserved c = let l = c.loop-i in (omega arith, fill_more l.invariant.1 (omega arith) refl)

pub shape_of-s : goal.shape_of-s
shape_of-s c = omega arith

pub returns : goal.returns
unfolding move_in
returns c = fill-all c.loop-i.invariant.1 (omega arith) (omega arith)
