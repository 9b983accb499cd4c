-- `row_times`: the dot product with a row of the triangle, and then with a column.
use mathlib.Core.Path.{◌≡◌}
use Prim.Native.Nat.{◌+◌, ◌-◌}
use native.Mathlib.Nat.{add-sub_cancel_left}
use native.Mathlib.Omega.{arith}
use Rattle.hessian_packed.proofs.Triangles.{count-up, count_small, row-started}
use Rattle.hessian_packed.proofs.row_times.Goals as goal

pub count_of-a-requires : goal.count_of-a-requires
count_of-a-requires c = omega arith

pub overflow_add-e : goal.overflow_add-e
overflow_add-e c = omega arith

pub overflow_add-e-2 : goal.overflow_add-e-2
overflow_add-e-2 c = let a = c.args in omega (arith, c.count_of-a.ensures, count-up a.i a.n (omega arith), count_small a.n (omega arith))

pub overflow_add-i : goal.overflow_add-i
overflow_add-i c = omega arith

pub offset_bounds-p-a : goal.offset_bounds-p-a
offset_bounds-p-a c = let a = c.args in omega (arith, c.count_of-a.ensures, count-up a.i a.n (omega arith), count_small a.n (omega arith))

pub slice_bounds-dot-count : goal.slice_bounds-dot-count
slice_bounds-dot-count c = omega arith

pub slice_bounds-dot-start : goal.slice_bounds-dot-start
slice_bounds-dot-start c = omega arith

pub slice_bounds-dot-end : goal.slice_bounds-dot-end
slice_bounds-dot-end c = let a = c.args in omega (arith, c.count_of-a.ensures, count-up a.i a.n (omega arith), count_small a.n (omega arith))

pub dot-start-requires : goal.dot-start-requires
dot-start-requires c = (omega arith, omega arith)

pub go_on-requires : goal.go_on-requires
go_on-requires c = let a = c.args in
    let r = c.count_of-a in
    let k : r.result + (a.i + 1) - r.result ≡ a.i + 1 = add-sub_cancel_left r.result (a.i + 1) in
    (omega arith, omega arith, omega arith, omega arith, row-started a.i r.result _ a.p.now a.v.now c.dot-start.result r.ensures k c.dot-start.ensures)

pub returns : goal.returns
returns c = c.go_on.ensures
