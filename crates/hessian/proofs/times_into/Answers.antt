-- `times_into`: after i turns the first i entries are written.
use Prim.Native.Nat.{◌+◌, ◌*◌, ◌≤◌}
use lib.ListN.{length}
use Rattle.hessian.specs.Hessian.{times}
use Rattle.numbers.proofs.Fills.{fill_none, fill_more, fill-all}
use Rattle.numbers.proofs.Lists.{row_fits}
use Rattle.hessian.proofs.Parts.{times-entry}
use native.Mathlib.Omega.{arith}
use Rattle.hessian.proofs.times_into.Goals as goal

pub loop-i-init : goal.loop-i-init
loop-i-init c = (omega arith, fill_none _ _)

pub overflow_mul-a : goal.overflow_mul-a
overflow_mul-a c = omega (arith, row_fits c.args.n c.args.n c.loop-i.i (omega arith))

pub overflow_add-e : goal.overflow_add-e
overflow_add-e c = omega (arith, row_fits c.args.n c.args.n c.loop-i.i (omega arith))

pub offset_bounds-b-a : goal.offset_bounds-b-a
offset_bounds-b-a c = omega (arith, row_fits c.args.n c.args.n c.loop-i.i (omega arith))

pub slice_bounds-dot-count : goal.slice_bounds-dot-count
slice_bounds-dot-count c = omega (arith, row_fits c.args.n c.args.n c.loop-i.i (omega arith))

pub slice_bounds-dot-start : goal.slice_bounds-dot-start
slice_bounds-dot-start c = omega (arith, row_fits c.args.n c.args.n c.loop-i.i (omega arith))

pub slice_bounds-dot-end : goal.slice_bounds-dot-end
slice_bounds-dot-end c = omega (arith, row_fits c.args.n c.args.n c.loop-i.i (omega arith))

pub dot-requires : goal.dot-requires
dot-requires c = omega arith

pub offset_bounds-out-i : goal.offset_bounds-out-i
offset_bounds-out-i c = omega arith

pub bounds-out-i : goal.bounds-out-i
bounds-out-i c = omega arith

pub overflow_step-i : goal.overflow_step-i
overflow_step-i c = omega arith

pub loop-i-smaller : goal.loop-i-smaller
loop-i-smaller c = omega arith

pub loop-i-preserved : goal.loop-i-preserved
loop-i-preserved c = let a = c.args in
    let l = c.loop-i in
    let h : l.i * a.n + a.n ≤ length a.b.now = omega (arith, row_fits a.n a.n l.i (omega arith)) in
    (omega arith, fill_more l.invariant.1 (omega arith) (times-entry a.n l.i a.b.now a.v.now _ h c.dot.ensures))

pub shape_of-out : goal.shape_of-out
shape_of-out c = omega arith

pub returns : goal.returns
unfolding times
returns c = fill-all c.loop-i.invariant.1 (omega arith) (omega arith)
