-- `solve_rt_four`: after i turns i rows of each vector are solved.
use mathlib.Core.Path.{refl}
use native.Mathlib.Omega.{arith}
use lib.ListN.{length-set}
use Rattle.householder.proofs.Solving.{four-none, four-more, four-done}
use Rattle.householder.proofs.solve_rt_four.Goals as goal

pub loop-i-init : goal.loop-i-init
loop-i-init c = (omega arith, refl, four-none _ _ _ _)

pub overflow_mul-p : goal.overflow_mul-p
overflow_mul-p c = omega arith

pub overflow_add-p : goal.overflow_add-p
overflow_add-p c = omega arith

pub products_four-head-requires : goal.products_four-head-requires
products_four-head-requires c = omega arith

pub overflow_add-d : goal.overflow_add-d
overflow_add-d c = omega arith

pub offset_bounds-w-p : goal.offset_bounds-w-p
offset_bounds-w-p c = omega arith

pub bounds-w-p : goal.bounds-w-p
bounds-w-p c = omega arith

pub overflow_add-w : goal.overflow_add-w
overflow_add-w c = omega arith

pub offset_bounds-w-o : goal.offset_bounds-w-o
offset_bounds-w-o c = omega arith

pub bounds-w-o : goal.bounds-w-o
bounds-w-o c = omega arith

pub overflow_add-w-in-loop-i : goal.overflow_add-w-in-loop-i
overflow_add-w-in-loop-i c = omega arith

pub offset_bounds-w-o-in-loop-i : goal.offset_bounds-w-o-in-loop-i
offset_bounds-w-o-in-loop-i c = omega arith

pub bounds-w-o-in-loop-i : goal.bounds-w-o-in-loop-i
bounds-w-o-in-loop-i c = omega arith

pub overflow_add-w-in-loop-i-2 : goal.overflow_add-w-in-loop-i-2
overflow_add-w-in-loop-i-2 c = omega arith

pub overflow_add-w-in-loop-i-3 : goal.overflow_add-w-in-loop-i-3
overflow_add-w-in-loop-i-3 c = omega arith

pub offset_bounds-w-o-in-loop-i-2 : goal.offset_bounds-w-o-in-loop-i-2
offset_bounds-w-o-in-loop-i-2 c = omega arith

pub bounds-w-o-in-loop-i-2 : goal.bounds-w-o-in-loop-i-2
bounds-w-o-in-loop-i-2 c = simp length-set (omega arith)

pub overflow_add-w-in-loop-i-4 : goal.overflow_add-w-in-loop-i-4
overflow_add-w-in-loop-i-4 c = omega arith

pub overflow_add-w-in-loop-i-5 : goal.overflow_add-w-in-loop-i-5
overflow_add-w-in-loop-i-5 c = omega arith

pub offset_bounds-w-o-in-loop-i-3 : goal.offset_bounds-w-o-in-loop-i-3
offset_bounds-w-o-in-loop-i-3 c = omega arith

pub bounds-w-o-in-loop-i-3 : goal.bounds-w-o-in-loop-i-3
bounds-w-o-in-loop-i-3 c = simp length-set (omega arith)

pub overflow_add-w-in-loop-i-6 : goal.overflow_add-w-in-loop-i-6
overflow_add-w-in-loop-i-6 c = omega arith

pub overflow_add-w-in-loop-i-7 : goal.overflow_add-w-in-loop-i-7
overflow_add-w-in-loop-i-7 c = omega arith

pub offset_bounds-w-o-in-loop-i-4 : goal.offset_bounds-w-o-in-loop-i-4
offset_bounds-w-o-in-loop-i-4 c = omega arith

pub bounds-w-o-in-loop-i-4 : goal.bounds-w-o-in-loop-i-4
bounds-w-o-in-loop-i-4 c = simp length-set (omega arith)

pub overflow_add-w-in-loop-i-8 : goal.overflow_add-w-in-loop-i-8
overflow_add-w-in-loop-i-8 c = omega arith

pub overflow_add-w-in-loop-i-9 : goal.overflow_add-w-in-loop-i-9
overflow_add-w-in-loop-i-9 c = omega arith

pub offset_bounds-w-o-in-loop-i-5 : goal.offset_bounds-w-o-in-loop-i-5
offset_bounds-w-o-in-loop-i-5 c = omega arith

pub bounds-w-o-in-loop-i-5 : goal.bounds-w-o-in-loop-i-5
bounds-w-o-in-loop-i-5 c = simp length-set (omega arith)

pub overflow_add-w-in-loop-i-10 : goal.overflow_add-w-in-loop-i-10
overflow_add-w-in-loop-i-10 c = omega arith

pub overflow_add-w-in-loop-i-11 : goal.overflow_add-w-in-loop-i-11
overflow_add-w-in-loop-i-11 c = omega arith

pub offset_bounds-w-o-in-loop-i-6 : goal.offset_bounds-w-o-in-loop-i-6
offset_bounds-w-o-in-loop-i-6 c = omega arith

pub bounds-w-o-in-loop-i-6 : goal.bounds-w-o-in-loop-i-6
bounds-w-o-in-loop-i-6 c = simp length-set (omega arith)

pub overflow_add-w-in-loop-i-12 : goal.overflow_add-w-in-loop-i-12
overflow_add-w-in-loop-i-12 c = omega arith

pub overflow_add-w-in-loop-i-13 : goal.overflow_add-w-in-loop-i-13
overflow_add-w-in-loop-i-13 c = omega arith

pub offset_bounds-w-o-in-loop-i-7 : goal.offset_bounds-w-o-in-loop-i-7
offset_bounds-w-o-in-loop-i-7 c = omega arith

pub bounds-w-o-in-loop-i-7 : goal.bounds-w-o-in-loop-i-7
bounds-w-o-in-loop-i-7 c = simp length-set (omega arith)

pub overflow_step-i : goal.overflow_step-i
overflow_step-i c = omega arith

pub loop-i-smaller : goal.loop-i-smaller
loop-i-smaller c = omega arith

pub loop-i-preserved : goal.loop-i-preserved
loop-i-preserved c = let a = c.args in
    let l = c.loop-i in (
      omega arith,
      simp length-set l.invariant.1,
      four-more a.n a.k a.o l.i a.w.now l.w c.products_four-head.result _ c.requires.0 c.requires.1 (omega arith) c.requires.2 (omega arith) l.invariant.2 c.products_four-head.ensures refl,
    )

pub shape_of-w : goal.shape_of-w
shape_of-w c = c.loop-i.invariant.1

pub returns : goal.returns
returns c = let l = c.loop-i in four-done _ _ _ l.i _ _ (omega arith) l.invariant.2
