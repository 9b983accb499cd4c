use mathlib.Core.Path.{refl}
use lib.ListN.{length-set}
use Rattle.numbers.proofs.Fills.{fill_none, fill_more, fill-all}
use Rattle.day_volumes.proofs.Posing.{values-are}
use native.Mathlib.Omega.{arith}
use Rattle.day_volumes.proofs.pose.fill_values.Goals as goal

pub loop-i-init : goal.loop-i-init
loop-i-init c = (omega arith, refl, fill_none _ _)

pub overflow_add-i : goal.overflow_add-i
overflow_add-i c = omega arith

pub offset_bounds-z-i : goal.offset_bounds-z-i
offset_bounds-z-i c = omega arith

pub bounds-z-i : goal.bounds-z-i
bounds-z-i c = omega arith

pub offset_bounds-z-i-in-loop-i : goal.offset_bounds-z-i-in-loop-i
offset_bounds-z-i-in-loop-i c = omega arith

pub bounds-z-i-in-loop-i : goal.bounds-z-i-in-loop-i
bounds-z-i-in-loop-i c = omega arith

pub overflow_add-i-in-loop-i : goal.overflow_add-i-in-loop-i
overflow_add-i-in-loop-i c = omega arith

pub offset_bounds-z-i-in-loop-i-2 : goal.offset_bounds-z-i-in-loop-i-2
offset_bounds-z-i-in-loop-i-2 c = omega arith

pub bounds-z-i-in-loop-i-2 : goal.bounds-z-i-in-loop-i-2
bounds-z-i-in-loop-i-2 c = omega arith

pub offset_bounds-f-i : goal.offset_bounds-f-i
offset_bounds-f-i c = omega arith

pub bounds-f-i : goal.bounds-f-i
bounds-f-i c = omega arith

pub overflow_add-i-in-loop-i-2 : goal.overflow_add-i-in-loop-i-2
overflow_add-i-in-loop-i-2 c = omega arith

pub offset_bounds-f-i-in-loop-i : goal.offset_bounds-f-i-in-loop-i
offset_bounds-f-i-in-loop-i c = omega arith

pub bounds-f-i-in-loop-i : goal.bounds-f-i-in-loop-i
bounds-f-i-in-loop-i c = omega arith

pub overflow_add-i-in-loop-i-3 : goal.overflow_add-i-in-loop-i-3
overflow_add-i-in-loop-i-3 c = omega arith

pub offset_bounds-f-i-in-loop-i-2 : goal.offset_bounds-f-i-in-loop-i-2
offset_bounds-f-i-in-loop-i-2 c = omega arith

pub bounds-f-i-in-loop-i-2 : goal.bounds-f-i-in-loop-i-2
bounds-f-i-in-loop-i-2 c = omega arith

pub value_of-requires : goal.value_of-requires
value_of-requires c = tt

pub offset_bounds-v-i : goal.offset_bounds-v-i
offset_bounds-v-i c = omega arith

pub bounds-v-i : goal.bounds-v-i
bounds-v-i c = omega arith

pub overflow_step-i : goal.overflow_step-i
overflow_step-i c = omega arith

pub loop-i-smaller : goal.loop-i-smaller
loop-i-smaller c = omega arith

pub loop-i-preserved : goal.loop-i-preserved
loop-i-preserved c = let l = c.loop-i in (omega arith, simp length-set l.invariant.1, fill_more l.invariant.2 (omega arith) c.value_of.ensures)

pub shape_of-v : goal.shape_of-v
shape_of-v c = c.loop-i.invariant.1

pub returns : goal.returns
returns c = values-are _ _ _ _ (fill-all c.loop-i.invariant.2 c.requires.2 (omega arith))
