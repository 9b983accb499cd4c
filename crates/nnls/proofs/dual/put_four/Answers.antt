-- `put_four`, write by write.
use mathlib.Core.Path.{refl}
use native.Mathlib.Omega.{arith}
use lib.ListN.{length-set}
use Rattle.nnls.proofs.dual.put_four.Goals as goal

pub offset_bounds-w-o : goal.offset_bounds-w-o
offset_bounds-w-o c = omega arith

pub bounds-w-o : goal.bounds-w-o
bounds-w-o c = omega arith

pub overflow_add-w : goal.overflow_add-w
overflow_add-w c = omega arith

pub offset_bounds-w-o-2 : goal.offset_bounds-w-o-2
offset_bounds-w-o-2 c = omega arith

pub bounds-w-o-2 : goal.bounds-w-o-2
bounds-w-o-2 c = simp length-set (omega arith)

pub overflow_add-w-2 : goal.overflow_add-w-2
overflow_add-w-2 c = omega arith

pub offset_bounds-w-o-3 : goal.offset_bounds-w-o-3
offset_bounds-w-o-3 c = omega arith

pub bounds-w-o-3 : goal.bounds-w-o-3
bounds-w-o-3 c = simp length-set (omega arith)

pub overflow_add-w-3 : goal.overflow_add-w-3
overflow_add-w-3 c = omega arith

pub offset_bounds-w-o-4 : goal.offset_bounds-w-o-4
offset_bounds-w-o-4 c = omega arith

pub bounds-w-o-4 : goal.bounds-w-o-4
bounds-w-o-4 c = simp length-set (omega arith)

pub shape_of-w : goal.shape_of-w
shape_of-w c = simp length-set refl

pub returns : goal.returns
returns c = refl
