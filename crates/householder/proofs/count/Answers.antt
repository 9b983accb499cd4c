-- `count`: after i turns the first i numbers stand.
use mathlib.Core.Path.{◌≡◌, refl}
use native.Mathlib.Omega.{arith}
use lib.ListN.{length-set}
use Rattle.workspace.proofs.Writes.{written_none, written-front, span-nums}
use Rattle.householder.proofs.count.Goals as goal

pub loop-i-init : goal.loop-i-init
loop-i-init c = (omega arith, refl, written_none 0 _ _ _)

pub overflow_cast-iw : goal.overflow_cast-iw
overflow_cast-iw c = omega arith

pub offset_bounds-iw-i : goal.offset_bounds-iw-i
offset_bounds-iw-i c = omega arith

pub bounds-iw-i : goal.bounds-iw-i
bounds-iw-i c = omega arith

pub overflow_step-i : goal.overflow_step-i
overflow_step-i c = omega arith

pub loop-i-smaller : goal.loop-i-smaller
loop-i-smaller c = omega arith

pub loop-i-preserved : goal.loop-i-preserved
loop-i-preserved c = (omega arith, simp length-set c.loop-i.invariant.1, written-front 0 _ _ _ _ _ (omega arith) refl c.loop-i.invariant.2)

pub shape_of-iw : goal.shape_of-iw
shape_of-iw c = c.loop-i.invariant.1

pub returns : goal.returns
returns c = let e : c.loop-i.i ≡ c.args.n = omega arith in span-nums 0 _ _ _ _ (rw e at c.loop-i.invariant.2)
