use mathlib.Core.Path.{◌≡◌, refl}
use lib.ListN.{length-set}
use Rattle.workspace.proofs.Writes.{written_none, written-front}
use native.Mathlib.Omega.{arith}
use Rattle.day_volumes.proofs.tables.put_marks.Goals as goal

pub loop-i-init : goal.loop-i-init
loop-i-init c = (omega arith, refl, written_none _ _ _ _)

pub offset_bounds-marks-i : goal.offset_bounds-marks-i
offset_bounds-marks-i c = omega arith

pub bounds-marks-i : goal.bounds-marks-i
bounds-marks-i c = omega (arith, c.requires.1)

pub offset_bounds-out-i : goal.offset_bounds-out-i
offset_bounds-out-i c = omega arith

pub bounds-out-i : goal.bounds-out-i
bounds-out-i c = omega (arith, c.loop-i.invariant.1, c.requires.0, c.requires.2)

pub overflow_step-i : goal.overflow_step-i
overflow_step-i c = omega arith

pub loop-i-smaller : goal.loop-i-smaller
loop-i-smaller c = omega arith

pub loop-i-preserved : goal.loop-i-preserved
loop-i-preserved c = let l = c.loop-i in (omega arith, simp length-set l.invariant.1, written-front _ _ _ _ _ _ (omega (arith, l.invariant.1, c.requires.0, c.requires.2)) refl l.invariant.2)

pub shape_of-out : goal.shape_of-out
shape_of-out c = c.loop-i.invariant.1

pub returns : goal.returns
returns c = let l = c.loop-i in let e : l.i ≡ c.args.n = omega arith in rw e at l.invariant.2
