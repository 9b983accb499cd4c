-- `revise`: after i turns the first i rows are new.
use mathlib.Core.Path.{◌≡◌, ◌∙◌}
use Prim.Native.Nat.{◌+◌, ◌*◌, ◌-◌}
use native.Mathlib.Nat.{add-sub_cancel_left}
use Rattle.hessian.specs.Hessian.{revised}
use Rattle.numbers.proofs.Lists.{tab-same, row_fits}
use Rattle.numbers.proofs.Fills.{rows_none, rows-part, rows_more, rows_all}
use native.Mathlib.Omega.{arith}
use Rattle.hessian.proofs.revise.Goals as goal

pub loop-i-init : goal.loop-i-init
loop-i-init c = (omega arith, rows_none _ _ _)

pub overflow_mul-a : goal.overflow_mul-a
overflow_mul-a c = omega (arith, row_fits c.args.n c.args.n c.loop-i.i (omega arith))

pub overflow_add-e : goal.overflow_add-e
overflow_add-e c = omega (arith, row_fits c.args.n c.args.n c.loop-i.i (omega arith))

pub offset_bounds-b-a : goal.offset_bounds-b-a
offset_bounds-b-a c = omega (arith, row_fits c.args.n c.args.n c.loop-i.i (omega arith))

pub slice_bounds-revise_row-count : goal.slice_bounds-revise_row-count
slice_bounds-revise_row-count c = omega (arith, row_fits c.args.n c.args.n c.loop-i.i (omega arith))

pub slice_bounds-revise_row-start : goal.slice_bounds-revise_row-start
slice_bounds-revise_row-start c = omega (arith, row_fits c.args.n c.args.n c.loop-i.i (omega arith))

pub slice_bounds-revise_row-end : goal.slice_bounds-revise_row-end
slice_bounds-revise_row-end c = omega (arith, row_fits c.args.n c.args.n c.loop-i.i (omega arith))

pub offset_bounds-r-i : goal.offset_bounds-r-i
offset_bounds-r-i c = omega arith

pub bounds-r-i : goal.bounds-r-i
bounds-r-i c = omega arith

pub offset_bounds-bs-i : goal.offset_bounds-bs-i
offset_bounds-bs-i c = omega arith

pub bounds-bs-i : goal.bounds-bs-i
bounds-bs-i c = omega arith

pub revise_row-requires : goal.revise_row-requires
revise_row-requires c = omega arith

pub overflow_step-i : goal.overflow_step-i
overflow_step-i c = omega arith

pub loop-i-smaller : goal.loop-i-smaller
loop-i-smaller c = omega arith

pub loop-i-preserved : goal.loop-i-preserved
loop-i-preserved c = let l = c.loop-i in
    let n = c.args.n in
    let q : l.i * n + n - l.i * n ≡ n = add-sub_cancel_left (l.i * n) n in (
      omega arith,
      rows_more _ q l.invariant.1 (omega (arith, row_fits n n l.i (omega arith)))
          (c.revise_row.ensures ∙ tab-same n _ _ (λ j h. rw (rows-part _ q l.invariant.1 j h))),
    )

pub shape_of-b : goal.shape_of-b
shape_of-b c = omega arith

pub returns : goal.returns
unfolding revised
returns c = rows_all c.loop-i.invariant.1 (omega arith) (omega arith)
