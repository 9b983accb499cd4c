use mathlib.Core.Path.{◌≡◌, refl}
use lib.ListN.{length-set}
use Rattle.workspace.proofs.Writes.{written_none, written-more}
use native.Mathlib.Omega.{arith}
use Rattle.day_volumes.proofs.pose.put_limit.Goals as goal

pub loop-i-init : goal.loop-i-init
loop-i-init c = (omega arith, refl, written_none _ _ _ _)

pub limit_entry-requires : goal.limit_entry-requires
limit_entry-requires c = let p = c.requires in (p.0, p.1, c.loop-i-test.true, p.2)

pub overflow_add-out : goal.overflow_add-out
overflow_add-out c = omega arith

pub offset_bounds-out-o : goal.offset_bounds-out-o
offset_bounds-out-o c = omega arith

pub bounds-out-o : goal.bounds-out-o
bounds-out-o c = omega arith

pub overflow_step-i : goal.overflow_step-i
overflow_step-i c = omega arith

pub loop-i-smaller : goal.loop-i-smaller
loop-i-smaller c = omega arith

pub loop-i-preserved : goal.loop-i-preserved
loop-i-preserved c = let l = c.loop-i in (omega arith, simp length-set l.invariant.1, written-more _ _ _ _ _ _ _ (omega (arith, l.invariant.1, c.requires.3)) c.limit_entry.ensures l.invariant.2)

pub shape_of-out : goal.shape_of-out
shape_of-out c = c.loop-i.invariant.1

pub returns : goal.returns
returns c = let l = c.loop-i in let e : l.i ≡ c.args.n = omega arith in rw e at l.invariant.2
