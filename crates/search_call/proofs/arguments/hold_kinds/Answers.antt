-- `hold_kinds`: after j turns the kinds that are left decide.
use mathlib.Core.Path.{◌≡◌, refl}
use Prim.Native.Nat.{◌+◌}
use native.Mathlib.Omega.{arith}
use Rattle.numbers.specs.Numbers.{nth}
use Rattle.workspace.specs.Readings.{nums}
use Rattle.workspace.proofs.Readings.{length-nums, nth-nums}
use Rattle.search_call.proofs.Orders.{kinds-more, kinds-bad, kinds-all}
use Rattle.search_call.proofs.arguments.hold_kinds.Goals as goal

pub loop-j-init : goal.loop-j-init
loop-j-init c = (omega arith, refl)

pub overflow_add-j : goal.overflow_add-j
overflow_add-j c = omega arith

pub offset_bounds-u-j : goal.offset_bounds-u-j
offset_bounds-u-j c = omega arith

pub bounds-u-j : goal.bounds-u-j
bounds-u-j c = omega arith

pub returns-then-u-j-gt1 : goal.returns-then-u-j-gt1
returns-then-u-j-gt1 c = let a = c.args in let l = c.loop-j in let z = length-nums 16 a.m a.u.now in let e : nth (nums 16 a.m a.u.now) l.j ≡ nth a.u.now (16 + l.j) = nth-nums 16 a.m a.u.now l.j (omega arith) in kinds-bad (nums 16 a.m a.u.now) l.j (omega arith) (omega (arith, e)) l.invariant.1

pub overflow_step-j : goal.overflow_step-j
overflow_step-j c = omega arith

pub loop-j-smaller : goal.loop-j-smaller
loop-j-smaller c = omega arith

pub loop-j-preserved : goal.loop-j-preserved
loop-j-preserved c = let a = c.args in let l = c.loop-j in let z = length-nums 16 a.m a.u.now in let e : nth (nums 16 a.m a.u.now) l.j ≡ nth a.u.now (16 + l.j) = nth-nums 16 a.m a.u.now l.j (omega arith) in (omega arith, kinds-more (nums 16 a.m a.u.now) l.j (omega arith) (omega (arith, e)) l.invariant.1)

pub returns : goal.returns
returns c = let a = c.args in let l = c.loop-j in let z = length-nums 16 a.m a.u.now in kinds-all (nums 16 a.m a.u.now) l.j (omega arith) l.invariant.1
