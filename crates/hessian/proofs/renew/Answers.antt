-- `renew`: B is left where s'_bs <= 0, else it is curved.
use mathlib.Core.Path.{sym}
use native.Mathlib.Omega.{arith}
use lib.Seq.{length-take-le}
use lib.Ieee.{of_bits}
use Rattle.hessian.proofs.Updates.{front_length, front-le, stays, moves}
use Rattle.hessian.proofs.renew.Goals as goal

pub slice_bounds-times_into-end : goal.slice_bounds-times_into-end
slice_bounds-times_into-end c = omega arith

pub slice_bounds-times_into-end-2 : goal.slice_bounds-times_into-end-2
slice_bounds-times_into-end-2 c = let a = c.args in sym (length-take-le a.n a.w.now (omega arith))

pub times_into-requires : goal.times_into-requires
times_into-requires c = let a = c.args in (omega arith, omega arith, length-take-le a.n a.w.now (omega arith))

pub slice_bounds-dot-end : goal.slice_bounds-dot-end
slice_bounds-dot-end c = omega arith

pub slice_bounds-dot-end-2 : goal.slice_bounds-dot-end-2
slice_bounds-dot-end-2 c = let a = c.args in sym (front_length _ a.b.now a.s.now _ _ c.times_into.ensures)

pub dot-sbs-requires : goal.dot-sbs-requires
dot-sbs-requires c = let a = c.args in (omega arith, (front-le _ a.b.now a.s.now _ _ c.times_into.ensures))

pub shape_of-b-then-sbs : goal.shape_of-b-then-sbs
shape_of-b-then-sbs c = omega arith

pub shape_of-w-then-sbs : goal.shape_of-w-then-sbs
shape_of-w-then-sbs c = omega arith

pub returns-then-sbs : goal.returns-then-sbs
unfolding of_bits
returns-then-sbs c = let a = c.args in
    stays a.n a.b.now a.s.now a.y.now _ _ _ c.times_into.ensures c.dot-sbs.ensures c.if-sbs.true

pub curve-requires : goal.curve-requires
curve-requires c = omega arith

pub shape_of-b : goal.shape_of-b
shape_of-b c = omega arith

pub shape_of-w : goal.shape_of-w
shape_of-w c = omega arith

pub returns : goal.returns
unfolding of_bits
returns c = let a = c.args in
    moves a.n a.b.now a.s.now a.y.now _ _ _ _ c.times_into.ensures c.dot-sbs.ensures c.if-sbs.false c.curve.ensures
