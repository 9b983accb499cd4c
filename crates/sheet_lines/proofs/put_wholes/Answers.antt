-- `put_wholes`: three entries.
use mathlib.Core.Path.{refl}
use native.Mathlib.Omega.{arith}
use lib.ListN.{length-set}
use Rattle.sheet_lines.proofs.put_wholes.Goals as goal

pub offset_bounds-wholes-i : goal.offset_bounds-wholes-i
offset_bounds-wholes-i c = omega arith

pub bounds-wholes-i : goal.bounds-wholes-i
bounds-wholes-i c = omega arith

pub overflow_add-wholes : goal.overflow_add-wholes
overflow_add-wholes c = omega arith

pub offset_bounds-wholes-i-2 : goal.offset_bounds-wholes-i-2
offset_bounds-wholes-i-2 c = omega arith

pub bounds-wholes-i-2 : goal.bounds-wholes-i-2
bounds-wholes-i-2 c = simp length-set (omega arith)

pub overflow_add-wholes-2 : goal.overflow_add-wholes-2
overflow_add-wholes-2 c = omega arith

pub offset_bounds-wholes-i-3 : goal.offset_bounds-wholes-i-3
offset_bounds-wholes-i-3 c = omega arith

pub bounds-wholes-i-3 : goal.bounds-wholes-i-3
bounds-wholes-i-3 c = simp length-set (omega arith)

pub shape_of-wholes : goal.shape_of-wholes
shape_of-wholes c = simp length-set

pub returns : goal.returns
returns c = refl
