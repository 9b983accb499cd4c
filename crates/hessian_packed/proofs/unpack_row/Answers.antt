-- `unpack_row`: a row of the triangle, and then a column.
use mathlib.Core.Path.{◌≡◌}
use Prim.Native.Nat.{◌+◌, ◌-◌}
use native.Mathlib.Nat.{add-sub_cancel_left}
use native.Mathlib.Omega.{arith}
use Rattle.hessian_packed.proofs.Triangles.{count-up, count_small, row-unpacked}
use Rattle.hessian_packed.proofs.unpack_row.Goals as goal

pub count_of-a-requires : goal.count_of-a-requires
count_of-a-requires c = omega arith

pub overflow_add-e : goal.overflow_add-e
overflow_add-e c = omega arith

pub overflow_add-e-2 : goal.overflow_add-e-2
overflow_add-e-2 c = let a = c.args in omega (arith, c.count_of-a.ensures, count-up a.i a.n (omega arith), count_small a.n (omega arith))

pub offset_bounds-p-a : goal.offset_bounds-p-a
offset_bounds-p-a c = let a = c.args in omega (arith, c.count_of-a.ensures, count-up a.i a.n (omega arith), count_small a.n (omega arith))

pub slice_bounds-load-count : goal.slice_bounds-load-count
slice_bounds-load-count c = omega arith

pub slice_bounds-load-start : goal.slice_bounds-load-start
slice_bounds-load-start c = omega arith

pub slice_bounds-load-end : goal.slice_bounds-load-end
slice_bounds-load-end c = let a = c.args in omega (arith, c.count_of-a.ensures, count-up a.i a.n (omega arith), count_small a.n (omega arith))

pub overflow_add-i : goal.overflow_add-i
overflow_add-i c = omega arith

pub load-requires : goal.load-requires
load-requires c = (omega arith, omega arith)

pub cross-requires : goal.cross-requires
cross-requires c = (omega arith, omega arith, omega arith, omega arith)

pub shape_of-x : goal.shape_of-x
shape_of-x c = omega arith

pub returns : goal.returns
returns c = let a = c.args in
    let r = c.count_of-a in
    let k : r.result + (a.i + 1) - r.result ≡ a.i + 1 = add-sub_cancel_left r.result (a.i + 1) in
    row-unpacked a.n a.i r.result _ a.p.now a.x.now _ _ (omega arith) r.ensures k (omega arith) c.load.ensures c.cross.ensures
