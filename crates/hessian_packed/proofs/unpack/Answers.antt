-- `unpack`: after i turns the first i rows are written.
use mathlib.Core.Path.{◌≡◌}
use Prim.Native.Nat.{◌+◌, ◌*◌, ◌-◌}
use native.Mathlib.Nat.{add-sub_cancel_left}
use native.Mathlib.Omega.{arith}
use Rattle.numbers.proofs.Lists.{row_fits}
use Rattle.numbers.proofs.Fills.{rows_none, rows_more, rows_all}
use Rattle.hessian_packed.specs.Packed.{unpacked}
use Rattle.hessian_packed.proofs.unpack.Goals as goal

pub loop-i-init : goal.loop-i-init
loop-i-init c = (omega arith, rows_none _ _ _)

pub overflow_mul-a : goal.overflow_mul-a
overflow_mul-a c = omega (arith, row_fits c.args.n c.args.n c.loop-i.i (omega arith))

pub overflow_add-e : goal.overflow_add-e
overflow_add-e c = omega (arith, row_fits c.args.n c.args.n c.loop-i.i (omega arith))

pub offset_bounds-square-a : goal.offset_bounds-square-a
offset_bounds-square-a c = omega (arith, row_fits c.args.n c.args.n c.loop-i.i (omega arith))

pub slice_bounds-unpack_row-count : goal.slice_bounds-unpack_row-count
slice_bounds-unpack_row-count c = omega (arith, row_fits c.args.n c.args.n c.loop-i.i (omega arith))

pub slice_bounds-unpack_row-start : goal.slice_bounds-unpack_row-start
slice_bounds-unpack_row-start c = omega (arith, row_fits c.args.n c.args.n c.loop-i.i (omega arith))

pub slice_bounds-unpack_row-end : goal.slice_bounds-unpack_row-end
slice_bounds-unpack_row-end c = omega (arith, row_fits c.args.n c.args.n c.loop-i.i (omega arith))

pub unpack_row-requires : goal.unpack_row-requires
unpack_row-requires c = (omega arith, omega arith, omega arith, omega arith)

pub overflow_step-i : goal.overflow_step-i
overflow_step-i c = omega arith

pub loop-i-smaller : goal.loop-i-smaller
loop-i-smaller c = omega arith

pub loop-i-preserved : goal.loop-i-preserved
loop-i-preserved c = let l = c.loop-i in
    let n = c.args.n in
    let q : l.i * n + n - l.i * n ≡ n = add-sub_cancel_left (l.i * n) n in
    (omega arith, rows_more _ q l.invariant.1 (omega (arith, row_fits n n l.i (omega arith))) c.unpack_row.ensures)

pub shape_of-square : goal.shape_of-square
shape_of-square c = omega arith

pub returns : goal.returns
unfolding unpacked
returns c = rows_all c.loop-i.invariant.1 (omega arith) (omega arith)
