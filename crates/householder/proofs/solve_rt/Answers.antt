-- `solve_rt`: after i turns i rows are solved.
use mathlib.Core.Path.{refl}
use native.Mathlib.Omega.{arith}
use lib.ListN.{length-set}
use Rattle.householder.proofs.Solving.{descending-none, descending-more, descending-done}
use Rattle.householder.proofs.solve_rt.Goals as goal

pub loop-i-init : goal.loop-i-init
loop-i-init c = (omega arith, refl, descending-none _ _ _ _)

pub overflow_mul-p : goal.overflow_mul-p
overflow_mul-p c = omega arith

pub overflow_add-p : goal.overflow_add-p
overflow_add-p c = omega arith

pub dot_within-head-requires : goal.dot_within-head-requires
dot_within-head-requires c = omega arith

pub overflow_add-w : goal.overflow_add-w
overflow_add-w c = omega arith

pub offset_bounds-w-o : goal.offset_bounds-w-o
offset_bounds-w-o c = omega arith

pub bounds-w-o : goal.bounds-w-o
bounds-w-o c = omega arith

pub overflow_add-w-in-loop-i : goal.overflow_add-w-in-loop-i
overflow_add-w-in-loop-i c = omega arith

pub offset_bounds-w-p : goal.offset_bounds-w-p
offset_bounds-w-p c = omega arith

pub bounds-w-p : goal.bounds-w-p
bounds-w-p c = omega arith

pub overflow_add-w-in-loop-i-2 : goal.overflow_add-w-in-loop-i-2
overflow_add-w-in-loop-i-2 c = omega arith

pub offset_bounds-w-o-in-loop-i : goal.offset_bounds-w-o-in-loop-i
offset_bounds-w-o-in-loop-i c = omega arith

pub bounds-w-o-in-loop-i : goal.bounds-w-o-in-loop-i
bounds-w-o-in-loop-i c = omega arith

pub overflow_step-i : goal.overflow_step-i
overflow_step-i c = omega arith

pub loop-i-smaller : goal.loop-i-smaller
loop-i-smaller c = omega arith

pub loop-i-preserved : goal.loop-i-preserved
loop-i-preserved c = let a = c.args in
    let l = c.loop-i in
    let d = c.dot_within-head in
    (omega arith, simp length-set l.invariant.1, descending-more a.n a.k a.o l.i a.w.now l.w d.result c.requires.0 c.requires.1 (omega arith) c.requires.2 (omega arith) l.invariant.2 d.ensures)

pub shape_of-w : goal.shape_of-w
shape_of-w c = c.loop-i.invariant.1

pub returns : goal.returns
returns c = let l = c.loop-i in
    descending-done _ _ _ l.i _ _ (omega arith) l.invariant.2
