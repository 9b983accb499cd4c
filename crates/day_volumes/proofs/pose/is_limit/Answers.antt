use mathlib.Core.Path.{◌≡◌, refl}
use Prim.Native.Nat.{◌+◌, ◌-◌}
use Rattle.day_volumes.proofs.Posing.{limit-zero, limit-capacity, limit-given}
use native.Mathlib.Omega.{arith}
use Rattle.day_volumes.proofs.pose.is_limit.Goals as goal

pub overflow_add-result : goal.overflow_add-result
overflow_add-result c = omega arith

pub offset_bounds-z-k : goal.offset_bounds-z-k
offset_bounds-z-k c = omega arith

pub bounds-z-k : goal.bounds-z-k
bounds-z-k c = omega arith

pub returns-then-k-n : goal.returns-then-k-n
returns-then-k-n c = limit-zero _ _ _ _ c.if-k-n.true refl

pub overflow_add-n : goal.overflow_add-n
overflow_add-n c = omega arith

pub overflow_add-result-then-k-n-2 : goal.overflow_add-result-then-k-n-2
overflow_add-result-then-k-n-2 c = omega arith

pub overflow_sub-result : goal.overflow_sub-result
overflow_sub-result c = omega arith

pub offset_bounds-z-k-then-k-n-2 : goal.offset_bounds-z-k-then-k-n-2
offset_bounds-z-k-then-k-n-2 c = omega arith

pub bounds-z-k-then-k-n-2 : goal.bounds-z-k-then-k-n-2
bounds-z-k-then-k-n-2 c = omega arith

pub returns-then-k-n-2 : goal.returns-then-k-n-2
returns-then-k-n-2 c = let s = c.args in limit-capacity s.n s.z.now s.k _ (omega arith) (omega arith) (let e : 32 + s.k - s.n ≡ 32 + (s.k - s.n) = omega arith in e)

pub returns : goal.returns
returns c = limit-given _ _ _ (omega arith) (omega arith)
