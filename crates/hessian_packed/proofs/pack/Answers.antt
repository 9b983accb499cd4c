-- `pack`: after i turns the first i rows are written.
use mathlib.Core.Path.{◌≡◌}
use Prim.Native.Nat.{◌+◌, ◌-◌}
use native.Mathlib.Nat.{add-sub_cancel_left}
use native.Mathlib.Omega.{arith}
use Rattle.numbers.proofs.Lists.{row_fits}
use Rattle.hessian_packed.specs.Packed.{packed}
use Rattle.hessian_packed.proofs.Triangles.{rising_none, rising-more, rising-all, row_copied, count-up, count_small}
use Rattle.hessian_packed.proofs.pack.Goals as goal

pub loop-i-init : goal.loop-i-init
loop-i-init c = (omega arith, rising_none _ _)

pub count_of-a-requires : goal.count_of-a-requires
count_of-a-requires c = omega arith

pub overflow_add-e : goal.overflow_add-e
overflow_add-e c = omega arith

pub overflow_add-e-in-loop-i : goal.overflow_add-e-in-loop-i
overflow_add-e-in-loop-i c = let i = c.loop-i.i in let n = c.args.n in omega (arith, count-up i n (omega arith), count_small n (omega arith))

pub offset_bounds-p-a : goal.offset_bounds-p-a
offset_bounds-p-a c = let i = c.loop-i.i in let n = c.args.n in omega (arith, count-up i n (omega arith), count_small n (omega arith))

pub slice_bounds-unload-count : goal.slice_bounds-unload-count
slice_bounds-unload-count c = omega arith

pub slice_bounds-unload-start : goal.slice_bounds-unload-start
slice_bounds-unload-start c = let i = c.loop-i.i in let n = c.args.n in omega (arith, count-up i n (omega arith), count_small n (omega arith))

pub slice_bounds-unload-end : goal.slice_bounds-unload-end
slice_bounds-unload-end c = let i = c.loop-i.i in let n = c.args.n in omega (arith, count-up i n (omega arith), count_small n (omega arith))

pub overflow_mul-i : goal.overflow_mul-i
overflow_mul-i c = let i = c.loop-i.i in let n = c.args.n in omega (arith, row_fits n n i (omega arith))

pub overflow_add-i : goal.overflow_add-i
overflow_add-i c = omega arith

pub unload-requires : goal.unload-requires
unload-requires c = let i = c.loop-i.i in let n = c.args.n in (omega (arith, row_fits n n i (omega arith)), omega (arith, count-up i n (omega arith)))

pub overflow_step-i : goal.overflow_step-i
overflow_step-i c = omega arith

pub loop-i-smaller : goal.loop-i-smaller
loop-i-smaller c = omega arith

pub loop-i-preserved : goal.loop-i-preserved
loop-i-preserved c = let l = c.loop-i in
    let a = c.args in
    let r = c.count_of-a in
    let k : r.result + (l.i + 1) - r.result ≡ l.i + 1 = add-sub_cancel_left r.result (l.i + 1) in
    (omega arith, rising-more _ _ r.ensures k l.invariant.1 (omega (arith, count-up l.i a.n (omega arith))) (row_copied a.n l.i a.square.now _ c.unload.ensures))

pub shape_of-p : goal.shape_of-p
shape_of-p c = omega arith

pub returns : goal.returns
unfolding packed
returns c = rising-all c.loop-i.invariant.1 (omega arith) (omega arith)
