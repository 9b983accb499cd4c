-- `solve_r`: the first i rows are still to be solved.
use mathlib.Core.Path.{◌≡◌, refl}
use Prim.Native.Nat.{◌+◌, ◌-◌}
use native.Mathlib.Omega.{arith}
use lib.ListN.{length-set}
use Rattle.householder.proofs.Solving.{solving-none, solving-more, solving-done}
use Rattle.householder.proofs.solve_r.Goals as goal

pub loop-i-init : goal.loop-i-init
loop-i-init c = (refl, solving-none _ _)

pub overflow_mul-o : goal.overflow_mul-o
overflow_mul-o c = omega arith

pub overflow_add-o : goal.overflow_add-o
overflow_add-o c = omega arith

pub overflow_add-o-in-loop-i : goal.overflow_add-o-in-loop-i
overflow_add-o-in-loop-i c = omega arith

pub overflow_add-o-in-loop-i-2 : goal.overflow_add-o-in-loop-i-2
overflow_add-o-in-loop-i-2 c = omega arith

pub overflow_add-t : goal.overflow_add-t
overflow_add-t c = omega arith

pub overflow_sub-k : goal.overflow_sub-k
overflow_sub-k c = omega arith

pub dot_strided-tail-requires : goal.dot_strided-tail-requires
dot_strided-tail-requires c = record { by_index = λ t h. omega arith; by_index_2 = λ t h. omega arith }

pub overflow_add-w : goal.overflow_add-w
overflow_add-w c = omega arith

pub offset_bounds-w-i : goal.offset_bounds-w-i
offset_bounds-w-i c = omega arith

pub bounds-w-i : goal.bounds-w-i
bounds-w-i c = omega arith

pub offset_bounds-w-o : goal.offset_bounds-w-o
offset_bounds-w-o c = omega arith

pub bounds-w-o : goal.bounds-w-o
bounds-w-o c = omega arith

pub overflow_add-w-in-loop-i : goal.overflow_add-w-in-loop-i
overflow_add-w-in-loop-i c = omega arith

pub offset_bounds-w-i-in-loop-i : goal.offset_bounds-w-i-in-loop-i
offset_bounds-w-i-in-loop-i c = omega arith

pub bounds-w-i-in-loop-i : goal.bounds-w-i-in-loop-i
bounds-w-i-in-loop-i c = omega arith

pub loop-i-preserved : goal.loop-i-preserved
loop-i-preserved c = let a = c.args in
    let l = c.loop-i in
    let d = c.dot_strided-tail in
    let e : l.i - 1 + 1 ≡ l.i = omega arith in
    (simp length-set l.invariant.0, solving-more a.k l.i a.w.now l.w d.result (omega arith) (omega arith) (omega arith) (omega arith) l.invariant.1 (rw e at d.ensures))

pub shape_of-w : goal.shape_of-w
shape_of-w c = c.loop-i.invariant.0

pub returns : goal.returns
returns c = let l = c.loop-i in
    solving-done _ l.i _ _ (omega arith) l.invariant.1
