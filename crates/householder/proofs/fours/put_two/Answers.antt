-- `put_two`: two writes side by side.
use mathlib.Core.Path.{refl}
use native.Mathlib.Omega.{arith}
use lib.ListN.{length-set}
use Rattle.householder.proofs.SideBySide.{two-put}
use Rattle.householder.proofs.fours.put_two.Goals as goal

pub offset_bounds-w-o : goal.offset_bounds-w-o
offset_bounds-w-o c = omega arith

pub bounds-w-o : goal.bounds-w-o
bounds-w-o c = omega arith

pub overflow_add-w : goal.overflow_add-w
overflow_add-w c = omega arith

pub offset_bounds-w-o-2 : goal.offset_bounds-w-o-2
offset_bounds-w-o-2 c = omega arith

pub bounds-w-o-2 : goal.bounds-w-o-2
bounds-w-o-2 c = simp length-set (omega arith)

pub shape_of-w : goal.shape_of-w
shape_of-w c = simp length-set refl

pub returns : goal.returns
returns c = two-put c.args.o c.args.x c.args.y c.args.w.now c.requires
