-- `move_all`: after j turns the first j columns have moved.
use mathlib.Core.Path.{refl}
use native.Mathlib.Omega.{arith}
use lib.ListN.{length-set}
use Rattle.nnls.proofs.Moves.{moving-none, moving-more, moving-done}
use Rattle.nnls.proofs.move_all.Goals as goal

pub loop-j-init : goal.loop-j-init
loop-j-init c = (omega arith, refl, refl, moving-none _ _ _ _ _)

pub overflow_add-j : goal.overflow_add-j
overflow_add-j c = omega arith

pub offset_bounds-w-j : goal.offset_bounds-w-j
offset_bounds-w-j c = omega arith

pub bounds-w-j : goal.bounds-w-j
bounds-w-j c = omega arith

pub overflow_add-j-in-loop-j : goal.overflow_add-j-in-loop-j
overflow_add-j-in-loop-j c = omega arith

pub offset_bounds-w-j-in-loop-j : goal.offset_bounds-w-j-in-loop-j
offset_bounds-w-j-in-loop-j c = omega arith

pub bounds-w-j-in-loop-j : goal.bounds-w-j-in-loop-j
bounds-w-j-in-loop-j c = omega arith

pub offset_bounds-iw-j : goal.offset_bounds-iw-j
offset_bounds-iw-j c = omega arith

pub bounds-iw-j : goal.bounds-iw-j
bounds-iw-j c = omega arith

pub overflow_add-w : goal.overflow_add-w
overflow_add-w c = omega arith

pub offset_bounds-w-j-in-loop-j-2 : goal.offset_bounds-w-j-in-loop-j-2
offset_bounds-w-j-in-loop-j-2 c = omega arith

pub bounds-w-j-in-loop-j-2 : goal.bounds-w-j-in-loop-j-2
bounds-w-j-in-loop-j-2 c = omega arith

pub offset_bounds-iw-j-in-loop-j : goal.offset_bounds-iw-j-in-loop-j
offset_bounds-iw-j-in-loop-j c = omega arith

pub bounds-iw-j-in-loop-j : goal.bounds-iw-j-in-loop-j
bounds-iw-j-in-loop-j c = omega arith

pub overflow_step-j : goal.overflow_step-j
overflow_step-j c = omega arith

pub loop-j-smaller : goal.loop-j-smaller
loop-j-smaller c = omega arith

pub loop-j-preserved : goal.loop-j-preserved
loop-j-preserved c = let a = c.args in
    let l = c.loop-j in (
      omega arith,
      simp length-set l.invariant.1,
      simp length-set l.invariant.2,
      moving-more a.n a.q a.ratio a.w.now l.w a.iw.now l.iw l.j _ _ (omega arith)
          (omega arith) (omega arith) (omega arith) c.move_one-next.ensures.0 c.move_one-next.ensures.1 l.invariant.3,
    )

pub shape_of-w : goal.shape_of-w
shape_of-w c = c.loop-j.invariant.1

pub shape_of-iw : goal.shape_of-iw
shape_of-iw c = c.loop-j.invariant.2

pub returns : goal.returns
returns c = let a = c.args in
    let l = c.loop-j in
    moving-done a.n a.q a.ratio a.w.now l.w a.iw.now l.iw l.j (omega arith) (omega arith) l.invariant.3
