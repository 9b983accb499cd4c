-- `kind`: an inequality where the value's mark is 2, and a band where the width has one.
use native.Mathlib.Omega.{arith}
use borrow.Author.Tests.{eq-eqb, ne_eqb}
use Rattle.problem_read.specs.Tables.{kind_at}
use Rattle.problem_read.proofs.tables.kind.Goals as goal

pub overflow_add-i : goal.overflow_add-i
overflow_add-i c = omega arith

pub bounds-marks-i : goal.bounds-marks-i
bounds-marks-i c = omega arith

pub returns-then-marks-i-ne2 : goal.returns-then-marks-i-ne2
unfolding kind_at
returns-then-marks-i-ne2 c = simp (ne_eqb _ _ c.if-marks-i-ne2.true)

pub overflow_add-i-2 : goal.overflow_add-i-2
overflow_add-i-2 c = omega arith

pub bounds-marks-i-2 : goal.bounds-marks-i-2
bounds-marks-i-2 c = omega arith

pub returns-then-marks-i-eq0 : goal.returns-then-marks-i-eq0
unfolding kind_at
returns-then-marks-i-eq0 c = simp (eq-eqb _ _ c.if-marks-i-ne2.false, eq-eqb _ _ c.if-marks-i-eq0.true)

pub returns-else-marks-i-eq0 : goal.returns-else-marks-i-eq0
unfolding kind_at
returns-else-marks-i-eq0 c = simp (eq-eqb _ _ c.if-marks-i-ne2.false, ne_eqb _ _ c.if-marks-i-eq0.false)
