-- `note`: four entries.
use native.Mathlib.Omega.{arith}
use lib.ListN.{length-set}
use Rattle.plant_lines.proofs.Rows.{row-set}
use Rattle.plant_lines.proofs.note.Goals as goal

pub overflow_cast-m : goal.overflow_cast-m
overflow_cast-m c = omega arith

pub overflow_cast-table : goal.overflow_cast-table
overflow_cast-table c = omega arith

pub overflow_add-table : goal.overflow_add-table
overflow_add-table c = omega arith

pub offset_bounds-table-m : goal.offset_bounds-table-m
offset_bounds-table-m c = omega arith

pub bounds-table-m : goal.bounds-table-m
bounds-table-m c = omega arith

pub limit_of-requires : goal.limit_of-requires
limit_of-requires c = c.requires.4

pub overflow_add-table-2 : goal.overflow_add-table-2
overflow_add-table-2 c = omega arith

pub offset_bounds-table-m-2 : goal.offset_bounds-table-m-2
offset_bounds-table-m-2 c = omega arith

pub bounds-table-m-2 : goal.bounds-table-m-2
bounds-table-m-2 c = simp length-set (omega arith)

pub overflow_cast-table-2 : goal.overflow_cast-table-2
overflow_cast-table-2 c = omega arith

pub overflow_add-table-3 : goal.overflow_add-table-3
overflow_add-table-3 c = omega arith

pub offset_bounds-table-m-3 : goal.offset_bounds-table-m-3
offset_bounds-table-m-3 c = omega arith

pub bounds-table-m-3 : goal.bounds-table-m-3
bounds-table-m-3 c = simp length-set (omega arith)

pub offset_bounds-table-m-4 : goal.offset_bounds-table-m-4
offset_bounds-table-m-4 c = omega arith

pub bounds-table-m-4 : goal.bounds-table-m-4
bounds-table-m-4 c = simp length-set (omega arith)

pub shape_of-table : goal.shape_of-table
shape_of-table c = simp length-set

pub returns : goal.returns
returns c = row-set c.args.g c.args.table.now c.limit_of.result c.limit_of.ensures
