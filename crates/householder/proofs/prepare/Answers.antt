-- `prepare`: from what it moves and writes to what reflector and column then are.
use native.Mathlib.Omega.{arith}
use lib.ListN.{length-set}
use Rattle.householder.proofs.Columns.{prepared-is}
use Rattle.householder.proofs.prepare.Goals as goal

pub overflow_mul-o : goal.overflow_mul-o
overflow_mul-o c = omega arith

pub overflow_add-q : goal.overflow_add-q
overflow_add-q c = omega arith

pub overflow_add-q-2 : goal.overflow_add-q-2
overflow_add-q-2 c = omega arith

pub offset_bounds-w-q : goal.offset_bounds-w-q
offset_bounds-w-q c = omega arith

pub bounds-w-q : goal.bounds-w-q
bounds-w-q c = omega arith

pub signed_of-s-requires : goal.signed_of-s-requires
signed_of-s-requires c = omega arith

pub overflow_add-q-3 : goal.overflow_add-q-3
overflow_add-q-3 c = omega arith

pub overflow_add-o : goal.overflow_add-o
overflow_add-o c = omega arith

pub overflow_add-o-2 : goal.overflow_add-o-2
overflow_add-o-2 c = omega arith

pub overflow_add-k : goal.overflow_add-k
overflow_add-k c = omega arith

pub overflow_sub-m : goal.overflow_sub-m
overflow_sub-m c = omega arith

pub move_down-requires : goal.move_down-requires
move_down-requires c = omega arith

pub overflow_add-w : goal.overflow_add-w
overflow_add-w c = omega arith

pub offset_bounds-w-o : goal.offset_bounds-w-o
offset_bounds-w-o c = omega arith

pub bounds-w-o : goal.bounds-w-o
bounds-w-o c = omega arith

pub overflow_add-w-2 : goal.overflow_add-w-2
overflow_add-w-2 c = omega arith

pub offset_bounds-w-k : goal.offset_bounds-w-k
offset_bounds-w-k c = omega arith

pub bounds-w-k : goal.bounds-w-k
bounds-w-k c = simp length-set (omega arith)

pub offset_bounds-w-q-2 : goal.offset_bounds-w-q-2
offset_bounds-w-q-2 c = omega arith

pub bounds-w-q-2 : goal.bounds-w-q-2
bounds-w-q-2 c = simp length-set (omega arith)

pub shape_of-w : goal.shape_of-w
shape_of-w c = simp length-set (omega arith)

pub returns : goal.returns
returns c = let a = c.args in
    prepared-is a.m a.k a.largest a.w.now c.move_down.new.w c.signed_of-s.result c.requires.0 c.requires.1 (omega arith) c.requires.3 c.move_down.ensures c.signed_of-s.ensures
