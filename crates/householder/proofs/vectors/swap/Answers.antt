-- `swap`: after i turns i rows are exchanged.
use mathlib.Core.Path.{◌≡◌, refl}
use native.Mathlib.Omega.{arith}
use lib.ListN.{length-set}
use Rattle.householder.proofs.Columns.{exchanged_same, exchanged-none, exchanged-more}
use Rattle.householder.proofs.vectors.swap.Goals as goal

pub returns-then-k-p : goal.returns-then-k-p
returns-then-k-p c = let a = c.args in exchanged_same a.m a.k a.p a.w.now (omega arith)

pub loop-i-init : goal.loop-i-init
loop-i-init c = (omega arith, refl, exchanged-none _ _ _)

pub overflow_mul-x : goal.overflow_mul-x
overflow_mul-x c = omega arith

pub overflow_add-x : goal.overflow_add-x
overflow_add-x c = omega arith

pub overflow_add-x-in-loop-i : goal.overflow_add-x-in-loop-i
overflow_add-x-in-loop-i c = omega arith

pub offset_bounds-w-k : goal.offset_bounds-w-k
offset_bounds-w-k c = omega arith

pub bounds-w-k : goal.bounds-w-k
bounds-w-k c = omega arith

pub overflow_mul-w : goal.overflow_mul-w
overflow_mul-w c = omega arith

pub overflow_add-w : goal.overflow_add-w
overflow_add-w c = omega arith

pub overflow_add-w-in-loop-i : goal.overflow_add-w-in-loop-i
overflow_add-w-in-loop-i c = omega arith

pub offset_bounds-w-p : goal.offset_bounds-w-p
offset_bounds-w-p c = omega arith

pub bounds-w-p : goal.bounds-w-p
bounds-w-p c = omega arith

pub overflow_mul-w-in-loop-i : goal.overflow_mul-w-in-loop-i
overflow_mul-w-in-loop-i c = omega arith

pub overflow_add-w-in-loop-i-2 : goal.overflow_add-w-in-loop-i-2
overflow_add-w-in-loop-i-2 c = omega arith

pub overflow_add-w-in-loop-i-3 : goal.overflow_add-w-in-loop-i-3
overflow_add-w-in-loop-i-3 c = omega arith

pub offset_bounds-w-k-in-loop-i : goal.offset_bounds-w-k-in-loop-i
offset_bounds-w-k-in-loop-i c = omega arith

pub bounds-w-k-in-loop-i : goal.bounds-w-k-in-loop-i
bounds-w-k-in-loop-i c = omega arith

pub overflow_mul-w-in-loop-i-2 : goal.overflow_mul-w-in-loop-i-2
overflow_mul-w-in-loop-i-2 c = omega arith

pub overflow_add-w-in-loop-i-4 : goal.overflow_add-w-in-loop-i-4
overflow_add-w-in-loop-i-4 c = omega arith

pub overflow_add-w-in-loop-i-5 : goal.overflow_add-w-in-loop-i-5
overflow_add-w-in-loop-i-5 c = omega arith

pub offset_bounds-w-p-in-loop-i : goal.offset_bounds-w-p-in-loop-i
offset_bounds-w-p-in-loop-i c = omega arith

pub bounds-w-p-in-loop-i : goal.bounds-w-p-in-loop-i
bounds-w-p-in-loop-i c = simp length-set (omega arith)

pub overflow_step-i : goal.overflow_step-i
overflow_step-i c = omega arith

pub loop-i-smaller : goal.loop-i-smaller
loop-i-smaller c = omega arith

pub loop-i-preserved : goal.loop-i-preserved
loop-i-preserved c = let a = c.args in
    let l = c.loop-i in
    (omega arith, simp length-set l.invariant.1, exchanged-more l.i a.k a.p a.w.now l.w (omega arith) (omega arith) (omega arith) l.invariant.2)

pub shape_of-w : goal.shape_of-w
shape_of-w c = c.loop-i.invariant.1

pub returns : goal.returns
returns c = let e : c.loop-i.i ≡ c.args.m = omega arith in rw (← e) c.loop-i.invariant.2
