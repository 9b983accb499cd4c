-- `cross`: after t turns t entries from i on are written, and q is the place of the next.
use mathlib.Core.Path.{ap}
use Prim.Native.Nat.{ℕ, ◌+◌}
use native.Mathlib.Nat.{add-zero}
use native.Mathlib.Omega.{arith}
use Rattle.numbers.specs.Numbers.{at}
use Rattle.numbers.proofs.Fills.{put-none, put-more, put_all}
use Rattle.hessian_packed.proofs.Triangles.{count-up, count-along, count_small}
use Rattle.hessian_packed.proofs.cross.Goals as goal

pub count_of-requires : goal.count_of-requires
count_of-requires c = omega arith

pub overflow_add-q : goal.overflow_add-q
overflow_add-q c = omega (arith, c.count_of.ensures, count_small c.args.i (omega arith))

pub overflow_sub-c : goal.overflow_sub-c
overflow_sub-c c = omega arith

pub loop-t-init : goal.loop-t-init
loop-t-init c = (omega arith, rw (c.count_of.ensures, add-zero), put-none _ _ _)

pub offset_bounds-p-q : goal.offset_bounds-p-q
offset_bounds-p-q c = let a = c.args in let l = c.loop-t in omega (arith, l.invariant.1, count-up (a.i + l.t) a.n (omega arith), count_small a.n (omega arith))

pub bounds-p-q : goal.bounds-p-q
bounds-p-q c = let a = c.args in let l = c.loop-t in omega (arith, l.invariant.1, count-up (a.i + l.t) a.n (omega arith))

pub overflow_add-x : goal.overflow_add-x
overflow_add-x c = omega arith

pub offset_bounds-x-i : goal.offset_bounds-x-i
offset_bounds-x-i c = omega arith

pub bounds-x-i : goal.bounds-x-i
bounds-x-i c = omega arith

pub overflow_add-q-in-loop-t : goal.overflow_add-q-in-loop-t
overflow_add-q-in-loop-t c = omega arith

pub overflow_add-q-in-loop-t-2 : goal.overflow_add-q-in-loop-t-2
overflow_add-q-in-loop-t-2 c = omega arith

pub overflow_add-q-in-loop-t-3 : goal.overflow_add-q-in-loop-t-3
overflow_add-q-in-loop-t-3 c = let a = c.args in let l = c.loop-t in omega (arith, l.invariant.1, count-up (a.i + l.t) a.n (omega arith), count_small a.n (omega arith))

pub overflow_step-t : goal.overflow_step-t
overflow_step-t c = omega arith

pub loop-t-smaller : goal.loop-t-smaller
loop-t-smaller c = omega arith

pub loop-t-preserved : goal.loop-t-preserved
loop-t-preserved c = let a = c.args in
    let l = c.loop-t in
    (omega arith, count-along a.i l.t l.q l.invariant.1, put-more l.invariant.2 (omega arith) (ap (λ (z : ℕ). at a.p.now z) l.invariant.1))

pub shape_of-x : goal.shape_of-x
shape_of-x c = omega arith

pub returns : goal.returns
returns c = put_all c.loop-t.invariant.2 (omega arith) (omega arith)
