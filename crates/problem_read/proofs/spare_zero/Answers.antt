-- `spare_zero`: the three bytes one after the other.
use native.Mathlib.Omega.{arith}
use borrow.Author.Tests.{ne_eqb, eq-eqb}
use Rattle.problem_read.specs.Input.{spare_zero}
use Rattle.problem_read.proofs.spare_zero.Goals as goal

pub bounds-r-1 : goal.bounds-r-1
bounds-r-1 c = omega arith

pub bounds-r-6 : goal.bounds-r-6
bounds-r-6 c = omega arith

pub bounds-r-7 : goal.bounds-r-7
bounds-r-7 c = omega arith

pub returns-then-r-eq0-2 : goal.returns-then-r-eq0-2
unfolding spare_zero
returns-then-r-eq0-2 c = simp (eq-eqb _ _ c.if-r-eq0.true, eq-eqb _ _ c.if-r-eq0-2.true)

pub returns-else-r-eq0-2 : goal.returns-else-r-eq0-2
unfolding spare_zero
returns-else-r-eq0-2 c = simp (eq-eqb _ _ c.if-r-eq0.true, ne_eqb _ _ c.if-r-eq0-2.false)

pub returns-else-r-eq0 : goal.returns-else-r-eq0
unfolding spare_zero
returns-else-r-eq0 c = simp (ne_eqb _ _ c.if-r-eq0.false)
