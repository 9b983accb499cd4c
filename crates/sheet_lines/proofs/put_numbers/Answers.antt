-- `put_numbers`: three entries.
use mathlib.Core.Path.{refl}
use native.Mathlib.Omega.{arith}
use lib.ListN.{length-set}
use Rattle.sheet_lines.proofs.put_numbers.Goals as goal

pub offset_bounds-numbers-i : goal.offset_bounds-numbers-i
offset_bounds-numbers-i c = omega arith

pub bounds-numbers-i : goal.bounds-numbers-i
bounds-numbers-i c = omega arith

pub overflow_add-numbers : goal.overflow_add-numbers
overflow_add-numbers c = omega arith

pub offset_bounds-numbers-i-2 : goal.offset_bounds-numbers-i-2
offset_bounds-numbers-i-2 c = omega arith

pub bounds-numbers-i-2 : goal.bounds-numbers-i-2
bounds-numbers-i-2 c = simp length-set (omega arith)

pub overflow_add-numbers-2 : goal.overflow_add-numbers-2
overflow_add-numbers-2 c = omega arith

pub offset_bounds-numbers-i-3 : goal.offset_bounds-numbers-i-3
offset_bounds-numbers-i-3 c = omega arith

pub bounds-numbers-i-3 : goal.bounds-numbers-i-3
bounds-numbers-i-3 c = simp length-set (omega arith)

pub shape_of-numbers : goal.shape_of-numbers
shape_of-numbers c = simp length-set

pub returns : goal.returns
returns c = refl
