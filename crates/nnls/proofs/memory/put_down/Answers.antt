-- `put_down`: five numbers, one after the other.
use Prim.Native.Nat.{◌+◌, ◌*◌}
use native.Mathlib.Omega.{arith}
use lib.ListN.{set, length-set}
use Rattle.nnls.proofs.Notes.{length-five, five-noted}
use Rattle.nnls.proofs.memory.put_down.Goals as goal

pub overflow_mul-memory : goal.overflow_mul-memory
overflow_mul-memory c = omega arith

pub offset_bounds-memory-i : goal.offset_bounds-memory-i
offset_bounds-memory-i c = omega arith

pub bounds-memory-i : goal.bounds-memory-i
bounds-memory-i c = omega arith

pub overflow_mul-memory-2 : goal.overflow_mul-memory-2
overflow_mul-memory-2 c = omega arith

pub overflow_add-memory : goal.overflow_add-memory
overflow_add-memory c = omega arith

pub offset_bounds-memory-i-2 : goal.offset_bounds-memory-i-2
offset_bounds-memory-i-2 c = omega arith

pub bounds-memory-i-2 : goal.bounds-memory-i-2
bounds-memory-i-2 c = let a = c.args in omega (arith, length-set a.memory.now (5 * a.i) a.low)

pub overflow_mul-memory-3 : goal.overflow_mul-memory-3
overflow_mul-memory-3 c = omega arith

pub overflow_add-memory-2 : goal.overflow_add-memory-2
overflow_add-memory-2 c = omega arith

pub offset_bounds-memory-i-3 : goal.offset_bounds-memory-i-3
offset_bounds-memory-i-3 c = omega arith

pub bounds-memory-i-3 : goal.bounds-memory-i-3
bounds-memory-i-3 c = let a = c.args in omega (arith, length-set a.memory.now (5 * a.i) a.low, length-set (set a.memory.now (5 * a.i) a.low) (5 * a.i + 1) a.high)

pub overflow_mul-memory-4 : goal.overflow_mul-memory-4
overflow_mul-memory-4 c = omega arith

pub overflow_add-memory-3 : goal.overflow_add-memory-3
overflow_add-memory-3 c = omega arith

pub offset_bounds-memory-i-4 : goal.offset_bounds-memory-i-4
offset_bounds-memory-i-4 c = omega arith

pub bounds-memory-i-4 : goal.bounds-memory-i-4
bounds-memory-i-4 c = let a = c.args in omega (arith, length-set a.memory.now (5 * a.i) a.low, length-set (set a.memory.now (5 * a.i) a.low) (5 * a.i + 1) a.high, length-set (set (set a.memory.now (5 * a.i) a.low) (5 * a.i + 1) a.high) (5 * a.i + 2) a.past)

pub overflow_mul-memory-5 : goal.overflow_mul-memory-5
overflow_mul-memory-5 c = omega arith

pub overflow_add-memory-4 : goal.overflow_add-memory-4
overflow_add-memory-4 c = omega arith

pub offset_bounds-memory-i-5 : goal.offset_bounds-memory-i-5
offset_bounds-memory-i-5 c = omega arith

pub bounds-memory-i-5 : goal.bounds-memory-i-5
bounds-memory-i-5 c = let a = c.args in omega (arith, length-set a.memory.now (5 * a.i) a.low, length-set (set a.memory.now (5 * a.i) a.low) (5 * a.i + 1) a.high, length-set (set (set a.memory.now (5 * a.i) a.low) (5 * a.i + 1) a.high) (5 * a.i + 2) a.past, length-set (set (set (set a.memory.now (5 * a.i) a.low) (5 * a.i + 1) a.high) (5 * a.i + 2) a.past) (5 * a.i + 3) a.f)

pub shape_of-memory : goal.shape_of-memory
shape_of-memory c = let a = c.args in length-five a.memory.now (5 * a.i) a.low a.high a.past a.f a.g

pub returns : goal.returns
returns c = let a = c.args in five-noted a.memory.now a.i a.low a.high a.past a.f a.g c.requires.0 c.requires.1
