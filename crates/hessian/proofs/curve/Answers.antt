-- `curve`: what its callees left, put together.
use mathlib.Core.Path.{sym}
use native.Mathlib.Omega.{arith}
use lib.ListN.{length-take, length-drop}
use lib.Seq.{length-take-le}
use Rattle.hessian.proofs.Updates.{together}
use Rattle.hessian.proofs.curve.Goals as goal

pub dot-sy-requires : goal.dot-sy-requires
dot-sy-requires c = omega arith

pub theta_of-theta-requires : goal.theta_of-theta-requires
theta_of-theta-requires c = omega arith

pub damp-requires : goal.damp-requires
damp-requires c = omega arith

pub slice_bounds-bs-end : goal.slice_bounds-bs-end
slice_bounds-bs-end c = let a = c.args in
    sym (length-take-le a.n c.damp.new.w (omega (arith, c.damp.auto)))

pub offset_bounds-all-n : goal.offset_bounds-all-n
offset_bounds-all-n c = omega arith

pub slice_bounds-r-count : goal.slice_bounds-r-count
slice_bounds-r-count c = omega arith

pub slice_bounds-r-start : goal.slice_bounds-r-start
slice_bounds-r-start c = omega arith

pub slice_bounds-r-end : goal.slice_bounds-r-end
slice_bounds-r-end c = omega arith

pub dot-sr-requires : goal.dot-sr-requires
dot-sr-requires c = omega arith

pub revise-requires : goal.revise-requires
revise-requires c = let n = c.args.n in
    let w = c.damp.new.w in
    let k = c.damp.auto in
    (omega arith, simp (length-take, length-drop) (omega (arith, k)), length-take-le n w (omega (arith, k)))

pub shape_of-b : goal.shape_of-b
shape_of-b c = omega arith

pub shape_of-w : goal.shape_of-w
shape_of-w c = omega arith

pub returns : goal.returns
returns c = let a = c.args in
    together a.n a.b.now a.s.now a.y.now a.w.now c.damp.new.w _ a.sbs _ _ _
    c.dot-sy.ensures c.theta_of-theta.ensures c.damp.ensures c.dot-sr.ensures c.revise.ensures
