use Prim.Native.Nat.{◌≤◌}
use native.Mathlib.Omega.{arith}
use native.Mathlib.Nat.{mul-le-mul}
use borrow.Author.Tests.{eq-eqb, ne_eqb}
use Rattle.householder_call.proofs.are_lengths.Goals as goal

pub overflow_mul-m : goal.overflow_mul-m
overflow_mul-m c = omega (arith, mul-le-mul c.requires.0 c.requires.1)

pub returns-then-a-m : goal.returns-then-a-m
returns-then-a-m c = rw (ne_eqb _ _ c.if-a-m.true)

pub overflow_mul-m-2 : goal.overflow_mul-m-2
overflow_mul-m-2 c = omega (arith, mul-le-mul c.requires.0 c.requires.1)

pub returns-then-r-m : goal.returns-then-r-m
returns-then-r-m c = rw (eq-eqb _ _ c.if-a-m.false, ne_eqb _ _ c.if-r-m.true)

pub returns-then-perm-n : goal.returns-then-perm-n
returns-then-perm-n c = rw (eq-eqb _ _ c.if-a-m.false, eq-eqb _ _ c.if-r-m.false, ne_eqb _ _ c.if-perm-n.true)

pub overflow_mul-c : goal.overflow_mul-c
overflow_mul-c c = let h : c.min-c.result ≤ 18 = omega arith in
    omega (arith, mul-le-mul h c.requires.0)

pub returns-then-u-c : goal.returns-then-u-c
returns-then-u-c c = rw (eq-eqb _ _ c.if-a-m.false, eq-eqb _ _ c.if-r-m.false, eq-eqb _ _ c.if-perm-n.false, ← c.min-c.ensures, ne_eqb _ _ c.if-u-c.true)

pub returns : goal.returns
returns c = rw (eq-eqb _ _ c.if-a-m.false, eq-eqb _ _ c.if-r-m.false, eq-eqb _ _ c.if-perm-n.false, ← c.min-c.ensures, eq-eqb _ _ c.if-u-c.false)
