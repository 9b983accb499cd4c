use Rattle.day_volumes.proofs.Posing.{least_zero, least-capacity, least-given}
use native.Mathlib.Omega.{arith}
use Rattle.day_volumes.proofs.pose.least_of.Goals as goal

pub returns-then-k-n : goal.returns-then-k-n
returns-then-k-n c = least_zero _ _ _ _ c.if-k-n.true

pub overflow_add-n : goal.overflow_add-n
overflow_add-n c = omega arith

pub offset_bounds-f-k : goal.offset_bounds-f-k
offset_bounds-f-k c = omega arith

pub bounds-f-k : goal.bounds-f-k
bounds-f-k c = omega arith

pub returns-then-k-n-2 : goal.returns-then-k-n-2
returns-then-k-n-2 c = least-capacity _ _ _ _ (omega arith) c.if-k-n-2.true

pub overflow_add-j : goal.overflow_add-j
overflow_add-j c = omega arith

pub overflow_sub-j : goal.overflow_sub-j
overflow_sub-j c = omega arith

pub overflow_add-j-2 : goal.overflow_add-j-2
overflow_add-j-2 c = omega arith

pub offset_bounds-z-j : goal.offset_bounds-z-j
offset_bounds-z-j c = omega arith

pub bounds-z-j : goal.bounds-z-j
bounds-z-j c = omega arith

pub overflow_add-j-3 : goal.overflow_add-j-3
overflow_add-j-3 c = omega arith

pub offset_bounds-f-j : goal.offset_bounds-f-j
offset_bounds-f-j c = omega arith

pub bounds-f-j : goal.bounds-f-j
bounds-f-j c = omega arith

pub turn-requires : goal.turn-requires
turn-requires c = tt

pub returns : goal.returns
returns c = least-given _ _ _ _ _ (omega arith) (omega arith) c.turn.ensures
