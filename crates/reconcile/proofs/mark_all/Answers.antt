-- `mark_all`: after i turns i marks are written.
use mathlib.Core.Path.{◌≡◌, refl}
use native.Mathlib.Omega.{arith}
use lib.ListN.{length-set}
use Rattle.numbers.specs.Numbers.{at}
use Rattle.workspace.proofs.Writes.{written_none, written-front, written_all}
use Rattle.reconcile.specs.Day.{named}
use Rattle.reconcile.proofs.mark_all.Goals as goal

pub loop-i-init : goal.loop-i-init
loop-i-init c = (omega arith, refl, written_none 0 _ _ _)

pub offset_bounds-volumes-i : goal.offset_bounds-volumes-i
offset_bounds-volumes-i c = omega arith

pub bounds-volumes-i : goal.bounds-volumes-i
bounds-volumes-i c = omega arith

pub mark_of-requires : goal.mark_of-requires
mark_of-requires c = tt

pub bounds-marks-i : goal.bounds-marks-i
bounds-marks-i c = omega arith

pub overflow_step-i : goal.overflow_step-i
overflow_step-i c = omega arith

pub loop-i-smaller : goal.loop-i-smaller
loop-i-smaller c = omega arith

pub loop-i-preserved : goal.loop-i-preserved
loop-i-preserved c = let l = c.loop-i in
    (omega arith, simp length-set l.invariant.1, written-front 0 _ _ _ _ _ (omega arith) c.mark_of.ensures l.invariant.2)

pub shape_of-marks : goal.shape_of-marks
shape_of-marks c = c.loop-i.invariant.1

pub returns : goal.returns
unfolding named
returns c = let l = c.loop-i in
    let e : l.i ≡ c.args.n = omega arith in
    written_all 0 _ _ _ _ (omega arith) (rw e at l.invariant.2)
