-- `products_four`: after t turns each sum has t terms.
use mathlib.Core.Path.{◌≡◌}
use native.Mathlib.Omega.{arith}
use Rattle.numbers.proofs.Sums.{Σ-none, Σ-more}
use Rattle.householder.specs.inner.Search.{product}
use Rattle.householder.proofs.products_four.Goals as goal

pub loop-t-init : goal.loop-t-init
loop-t-init c = (omega arith, Σ-none _, Σ-none _, Σ-none _, Σ-none _)

pub overflow_add-a : goal.overflow_add-a
overflow_add-a c = omega arith

pub offset_bounds-w-p : goal.offset_bounds-w-p
offset_bounds-w-p c = omega arith

pub bounds-w-p : goal.bounds-w-p
bounds-w-p c = omega arith

pub overflow_add-a-in-loop-t : goal.overflow_add-a-in-loop-t
overflow_add-a-in-loop-t c = omega arith

pub offset_bounds-w-q : goal.offset_bounds-w-q
offset_bounds-w-q c = omega arith

pub bounds-w-q : goal.bounds-w-q
bounds-w-q c = omega arith

pub overflow_add-b : goal.overflow_add-b
overflow_add-b c = omega arith

pub overflow_add-b-in-loop-t : goal.overflow_add-b-in-loop-t
overflow_add-b-in-loop-t c = omega arith

pub offset_bounds-w-p-in-loop-t : goal.offset_bounds-w-p-in-loop-t
offset_bounds-w-p-in-loop-t c = omega arith

pub bounds-w-p-in-loop-t : goal.bounds-w-p-in-loop-t
bounds-w-p-in-loop-t c = omega arith

pub overflow_add-b-in-loop-t-2 : goal.overflow_add-b-in-loop-t-2
overflow_add-b-in-loop-t-2 c = omega arith

pub overflow_add-b-in-loop-t-3 : goal.overflow_add-b-in-loop-t-3
overflow_add-b-in-loop-t-3 c = omega arith

pub offset_bounds-w-q-in-loop-t : goal.offset_bounds-w-q-in-loop-t
offset_bounds-w-q-in-loop-t c = omega arith

pub bounds-w-q-in-loop-t : goal.bounds-w-q-in-loop-t
bounds-w-q-in-loop-t c = omega arith

pub overflow_mul-c : goal.overflow_mul-c
overflow_mul-c c = omega arith

pub overflow_add-c : goal.overflow_add-c
overflow_add-c c = omega arith

pub overflow_add-c-in-loop-t : goal.overflow_add-c-in-loop-t
overflow_add-c-in-loop-t c = omega arith

pub offset_bounds-w-p-in-loop-t-2 : goal.offset_bounds-w-p-in-loop-t-2
offset_bounds-w-p-in-loop-t-2 c = omega arith

pub bounds-w-p-in-loop-t-2 : goal.bounds-w-p-in-loop-t-2
bounds-w-p-in-loop-t-2 c = omega arith

pub overflow_add-c-in-loop-t-2 : goal.overflow_add-c-in-loop-t-2
overflow_add-c-in-loop-t-2 c = omega arith

pub overflow_add-c-in-loop-t-3 : goal.overflow_add-c-in-loop-t-3
overflow_add-c-in-loop-t-3 c = omega arith

pub offset_bounds-w-q-in-loop-t-2 : goal.offset_bounds-w-q-in-loop-t-2
offset_bounds-w-q-in-loop-t-2 c = omega arith

pub bounds-w-q-in-loop-t-2 : goal.bounds-w-q-in-loop-t-2
bounds-w-q-in-loop-t-2 c = omega arith

pub overflow_mul-d : goal.overflow_mul-d
overflow_mul-d c = omega arith

pub overflow_add-d : goal.overflow_add-d
overflow_add-d c = omega arith

pub overflow_add-d-in-loop-t : goal.overflow_add-d-in-loop-t
overflow_add-d-in-loop-t c = omega arith

pub offset_bounds-w-p-in-loop-t-3 : goal.offset_bounds-w-p-in-loop-t-3
offset_bounds-w-p-in-loop-t-3 c = omega arith

pub bounds-w-p-in-loop-t-3 : goal.bounds-w-p-in-loop-t-3
bounds-w-p-in-loop-t-3 c = omega arith

pub overflow_add-d-in-loop-t-2 : goal.overflow_add-d-in-loop-t-2
overflow_add-d-in-loop-t-2 c = omega arith

pub overflow_add-d-in-loop-t-3 : goal.overflow_add-d-in-loop-t-3
overflow_add-d-in-loop-t-3 c = omega arith

pub offset_bounds-w-q-in-loop-t-3 : goal.offset_bounds-w-q-in-loop-t-3
offset_bounds-w-q-in-loop-t-3 c = omega arith

pub bounds-w-q-in-loop-t-3 : goal.bounds-w-q-in-loop-t-3
bounds-w-q-in-loop-t-3 c = omega arith

pub overflow_step-t : goal.overflow_step-t
overflow_step-t c = omega arith

pub loop-t-smaller : goal.loop-t-smaller
loop-t-smaller c = omega arith

pub loop-t-preserved : goal.loop-t-preserved
loop-t-preserved c = let i = c.loop-t.invariant in
    (omega arith, Σ-more _ _ _ i.1, Σ-more _ _ _ i.2, Σ-more _ _ _ i.3, Σ-more _ _ _ i.4)

pub returns : goal.returns
unfolding product
returns c = let i = c.loop-t.invariant in
    let e : c.loop-t.t ≡ c.args.n = omega arith in
    rw (← e, i.1, i.2, i.3, i.4)
