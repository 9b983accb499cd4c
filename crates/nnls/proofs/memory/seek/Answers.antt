-- `seek`: the first place where both numbers stand.
use Prim.Native.Nat.{◌<◌}
use native.Mathlib.Nat.{not-suc-le-zero}
use native.Mathlib.Omega.{arith}
use Rattle.nnls.proofs.memory.seek.Goals as goal

pub loop-i-init : goal.loop-i-init
loop-i-init c = omega arith

pub overflow_mul-i : goal.overflow_mul-i
overflow_mul-i c = omega arith

pub offset_bounds-memory-i : goal.offset_bounds-memory-i
offset_bounds-memory-i c = omega arith

pub bounds-memory-i : goal.bounds-memory-i
bounds-memory-i c = omega arith

pub overflow_mul-i-then-memory-i : goal.overflow_mul-i-then-memory-i
overflow_mul-i-then-memory-i c = omega arith

pub overflow_add-i : goal.overflow_add-i
overflow_add-i c = omega arith

pub offset_bounds-memory-i-then-memory-i : goal.offset_bounds-memory-i-then-memory-i
offset_bounds-memory-i-then-memory-i c = omega arith

pub bounds-memory-i-then-memory-i : goal.bounds-memory-i-then-memory-i
bounds-memory-i-then-memory-i c = omega arith

pub returns-then-memory-i-2 : goal.returns-then-memory-i-2
returns-then-memory-i-2 c = record { within = omega arith; first = λ l. c.if-memory-i.true; second = λ l. c.if-memory-i-2.true }

pub overflow_step-i : goal.overflow_step-i
overflow_step-i c = omega arith

pub loop-i-smaller : goal.loop-i-smaller
loop-i-smaller c = omega arith

pub loop-i-preserved : goal.loop-i-preserved
loop-i-preserved c = omega arith

pub returns : goal.returns
returns c = record { within = omega arith; first = λ l. absurd (let e : 0 < 0 = omega (arith, l) in not-suc-le-zero e); second = λ l. absurd (let e : 0 < 0 = omega (arith, l) in not-suc-le-zero e) }
