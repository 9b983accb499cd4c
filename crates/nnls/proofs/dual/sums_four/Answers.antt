-- `sums_four`: after j turns each sum has j terms.
use mathlib.Core.Path.{◌≡◌}
use native.Mathlib.Omega.{arith}
use Rattle.numbers.proofs.Sums.{Σ-none, Σ-more}
use Rattle.nnls.specs.inner.Dual.{sum_at}
use Rattle.nnls.proofs.dual.sums_four.Goals as goal

pub loop-j-init : goal.loop-j-init
loop-j-init c = (omega arith, Σ-none _, Σ-none _, Σ-none _, Σ-none _)

pub overflow_add-x : goal.overflow_add-x
overflow_add-x c = omega arith

pub offset_bounds-w-q : goal.offset_bounds-w-q
offset_bounds-w-q c = omega arith

pub bounds-w-q : goal.bounds-w-q
bounds-w-q c = omega arith

pub overflow_mul-a : goal.overflow_mul-a
overflow_mul-a c = omega arith

pub overflow_add-a : goal.overflow_add-a
overflow_add-a c = omega arith

pub offset_bounds-w-p : goal.offset_bounds-w-p
offset_bounds-w-p c = omega arith

pub bounds-w-p : goal.bounds-w-p
bounds-w-p c = omega arith

pub overflow_add-b : goal.overflow_add-b
overflow_add-b c = omega arith

pub overflow_mul-b : goal.overflow_mul-b
overflow_mul-b c = omega arith

pub overflow_add-b-in-loop-j : goal.overflow_add-b-in-loop-j
overflow_add-b-in-loop-j c = omega arith

pub offset_bounds-w-p-in-loop-j : goal.offset_bounds-w-p-in-loop-j
offset_bounds-w-p-in-loop-j c = omega arith

pub bounds-w-p-in-loop-j : goal.bounds-w-p-in-loop-j
bounds-w-p-in-loop-j c = omega arith

pub overflow_add-c : goal.overflow_add-c
overflow_add-c c = omega arith

pub overflow_mul-c : goal.overflow_mul-c
overflow_mul-c c = omega arith

pub overflow_add-c-in-loop-j : goal.overflow_add-c-in-loop-j
overflow_add-c-in-loop-j c = omega arith

pub offset_bounds-w-p-in-loop-j-2 : goal.offset_bounds-w-p-in-loop-j-2
offset_bounds-w-p-in-loop-j-2 c = omega arith

pub bounds-w-p-in-loop-j-2 : goal.bounds-w-p-in-loop-j-2
bounds-w-p-in-loop-j-2 c = omega arith

pub overflow_add-d : goal.overflow_add-d
overflow_add-d c = omega arith

pub overflow_mul-d : goal.overflow_mul-d
overflow_mul-d c = omega arith

pub overflow_add-d-in-loop-j : goal.overflow_add-d-in-loop-j
overflow_add-d-in-loop-j c = omega arith

pub offset_bounds-w-p-in-loop-j-3 : goal.offset_bounds-w-p-in-loop-j-3
offset_bounds-w-p-in-loop-j-3 c = omega arith

pub bounds-w-p-in-loop-j-3 : goal.bounds-w-p-in-loop-j-3
bounds-w-p-in-loop-j-3 c = omega arith

pub overflow_step-j : goal.overflow_step-j
overflow_step-j c = omega arith

pub loop-j-smaller : goal.loop-j-smaller
loop-j-smaller c = omega arith

pub loop-j-preserved : goal.loop-j-preserved
loop-j-preserved c = let i = c.loop-j.invariant in
    (omega arith, Σ-more _ _ _ i.1, Σ-more _ _ _ i.2, Σ-more _ _ _ i.3, Σ-more _ _ _ i.4)

pub returns : goal.returns
unfolding sum_at
returns c = let i = c.loop-j.invariant in
    let e : c.loop-j.j ≡ c.args.n = omega arith in
    rw (← e, i.1, i.2, i.3, i.4)
