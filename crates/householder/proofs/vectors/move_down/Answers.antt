-- `move_down`: after t turns t numbers are moved, and what is still to be read is as it was.
use mathlib.Core.Path.{◌≡◌, refl}
use native.Mathlib.Omega.{arith}
use lib.ListN.{length-set}
use Rattle.workspace.proofs.Readings.{lit-+0}
use Rattle.householder.proofs.Columns.{moved_none, moved_more}
use Rattle.householder.proofs.vectors.move_down.Goals as goal

pub loop-t-init : goal.loop-t-init
loop-t-init c = (omega arith, refl, moved_none _ _ _)

pub overflow_add-w : goal.overflow_add-w
overflow_add-w c = omega arith

pub offset_bounds-w-p : goal.offset_bounds-w-p
offset_bounds-w-p c = omega arith

pub bounds-w-p : goal.bounds-w-p
bounds-w-p c = omega arith

pub overflow_add-w-in-loop-t : goal.overflow_add-w-in-loop-t
overflow_add-w-in-loop-t c = omega arith

pub offset_bounds-w-q : goal.offset_bounds-w-q
offset_bounds-w-q c = omega arith

pub bounds-w-q : goal.bounds-w-q
bounds-w-q c = omega arith

pub overflow_add-w-in-loop-t-2 : goal.overflow_add-w-in-loop-t-2
overflow_add-w-in-loop-t-2 c = omega arith

pub offset_bounds-w-p-in-loop-t : goal.offset_bounds-w-p-in-loop-t
offset_bounds-w-p-in-loop-t c = omega arith

pub bounds-w-p-in-loop-t : goal.bounds-w-p-in-loop-t
bounds-w-p-in-loop-t c = simp length-set (omega arith)

pub overflow_step-t : goal.overflow_step-t
overflow_step-t c = omega arith

pub loop-t-smaller : goal.loop-t-smaller
loop-t-smaller c = omega arith

pub loop-t-preserved : goal.loop-t-preserved
loop-t-preserved c = let a = c.args in
    let l = c.loop-t in
    (omega arith, simp length-set l.invariant.1, moved_more a.p a.q l.t a.w.now l.w _ (omega arith) (omega arith) lit-+0 l.invariant.2)

pub shape_of-w : goal.shape_of-w
shape_of-w c = c.loop-t.invariant.1

pub returns : goal.returns
returns c = let e : c.loop-t.t ≡ c.args.c = omega arith in rw (← e) c.loop-t.invariant.2
