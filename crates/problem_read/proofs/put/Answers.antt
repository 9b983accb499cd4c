-- `put`: a marked place is left, and a free one is written.
use native.Mathlib.Omega.{arith}
use borrow.Author.Tests.{eq-eqb, ne_eqb}
use lib.ListN.{length-set}
use Rattle.problem_read.specs.inner.Filling.{put_at}
use Rattle.problem_read.proofs.put.Goals as goal

pub bounds-marks-p : goal.bounds-marks-p
bounds-marks-p c = omega arith

pub returns-then-marks-p-ne0 : goal.returns-then-marks-p-ne0
unfolding put_at
returns-then-marks-p-ne0 c = simp (ne_eqb _ _ c.if-marks-p-ne0.true)

pub bounds-marks-p-2 : goal.bounds-marks-p-2
bounds-marks-p-2 c = omega arith

pub offset_bounds-vals-p : goal.offset_bounds-vals-p
offset_bounds-vals-p c = omega arith

pub bounds-vals-p : goal.bounds-vals-p
bounds-vals-p c = omega arith

pub shape_of-marks : goal.shape_of-marks
shape_of-marks c = simp length-set

pub shape_of-vals : goal.shape_of-vals
shape_of-vals c = simp length-set

pub returns : goal.returns
unfolding put_at
returns c = simp (eq-eqb _ _ c.if-marks-p-ne0.false)
