-- `choose`: after j turns the candidate stands for the best of the first j columns.
use native.Mathlib.Omega.{arith}
use Rattle.nnls.proofs.Choosing.{stands-none, chosen_more}
use Rattle.nnls.proofs.choose.Goals as goal

pub loop-j-init : goal.loop-j-init
loop-j-init c = stands-none _ _ _

pub overflow_add-j : goal.overflow_add-j
overflow_add-j c = omega arith

pub offset_bounds-w-j : goal.offset_bounds-w-j
offset_bounds-w-j c = omega arith

pub bounds-w-j : goal.bounds-w-j
bounds-w-j c = omega arith

pub offset_bounds-iw-j : goal.offset_bounds-iw-j
offset_bounds-iw-j c = omega arith

pub bounds-iw-j : goal.bounds-iw-j
bounds-iw-j c = omega arith

pub overflow_add-j-in-loop-j : goal.overflow_add-j-in-loop-j
overflow_add-j-in-loop-j c = omega arith

pub offset_bounds-iw-j-in-loop-j : goal.offset_bounds-iw-j-in-loop-j
offset_bounds-iw-j-in-loop-j c = omega arith

pub bounds-iw-j-in-loop-j : goal.bounds-iw-j-in-loop-j
bounds-iw-j-in-loop-j c = omega arith

pub loop-j-preserved : goal.loop-j-preserved
loop-j-preserved c = let a = c.args in
    let l = c.loop-j in
    chosen_more a.n a.w.now a.iw.now l.j l.best _ (omega arith) l.invariant c.better-best.ensures
