-- `lagrangian_at`: after j turns the first j terms are taken off.
use Prim.Native.Nat.{suc}
use native.Mathlib.Omega.{arith}
use Rattle.numbers.proofs.Lists.{index-lt}
use Rattle.search_move.proofs.Iterates.{lagrangian-none, lagrangian-more, lagrangian-done}
use Rattle.search_move.proofs.lagrangian_at.Goals as goal

pub overflow_add-total : goal.overflow_add-total
overflow_add-total c = let a = c.args in omega (arith, index-lt (suc a.m) a.n 0 a.i (omega arith) (omega arith))

pub offset_bounds-g-o : goal.offset_bounds-g-o
offset_bounds-g-o c = let a = c.args in omega (arith, index-lt (suc a.m) a.n 0 a.i (omega arith) (omega arith))

pub bounds-g-o : goal.bounds-g-o
bounds-g-o c = let a = c.args in omega (arith, index-lt (suc a.m) a.n 0 a.i (omega arith) (omega arith))

pub loop-j-init : goal.loop-j-init
loop-j-init c = let a = c.args in (omega arith, lagrangian-none a.n a.m a.o a.g.now a.f.now a.i (omega arith))

pub overflow_add-total-in-loop-j : goal.overflow_add-total-in-loop-j
overflow_add-total-in-loop-j c = omega arith

pub offset_bounds-f-j : goal.offset_bounds-f-j
offset_bounds-f-j c = omega arith

pub bounds-f-j : goal.bounds-f-j
bounds-f-j c = omega arith

pub overflow_add-total-in-loop-j-2 : goal.overflow_add-total-in-loop-j-2
overflow_add-total-in-loop-j-2 c = let a = c.args in let l = c.loop-j in omega (arith, index-lt (suc a.m) a.n (suc l.j) a.i (omega arith) (omega arith))

pub overflow_mul-total : goal.overflow_mul-total
overflow_mul-total c = let a = c.args in let l = c.loop-j in omega (arith, index-lt (suc a.m) a.n (suc l.j) a.i (omega arith) (omega arith))

pub overflow_add-total-in-loop-j-3 : goal.overflow_add-total-in-loop-j-3
overflow_add-total-in-loop-j-3 c = let a = c.args in let l = c.loop-j in omega (arith, index-lt (suc a.m) a.n (suc l.j) a.i (omega arith) (omega arith))

pub overflow_add-total-in-loop-j-4 : goal.overflow_add-total-in-loop-j-4
overflow_add-total-in-loop-j-4 c = let a = c.args in let l = c.loop-j in omega (arith, index-lt (suc a.m) a.n (suc l.j) a.i (omega arith) (omega arith))

pub offset_bounds-g-o-in-loop-j : goal.offset_bounds-g-o-in-loop-j
offset_bounds-g-o-in-loop-j c = let a = c.args in let l = c.loop-j in omega (arith, index-lt (suc a.m) a.n (suc l.j) a.i (omega arith) (omega arith))

pub bounds-g-o-in-loop-j : goal.bounds-g-o-in-loop-j
bounds-g-o-in-loop-j c = let a = c.args in let l = c.loop-j in omega (arith, index-lt (suc a.m) a.n (suc l.j) a.i (omega arith) (omega arith))

pub overflow_step-j : goal.overflow_step-j
overflow_step-j c = omega arith

pub loop-j-smaller : goal.loop-j-smaller
loop-j-smaller c = omega arith

pub loop-j-preserved : goal.loop-j-preserved
loop-j-preserved c = let a = c.args in let l = c.loop-j in (omega arith, lagrangian-more a.n a.m a.o a.g.now a.f.now a.i (omega arith) l.j l.total (omega arith) l.invariant.1)

pub returns : goal.returns
returns c = let a = c.args in let l = c.loop-j in lagrangian-done a.n a.m a.o a.g.now a.f.now a.i (omega arith) l.j l.total (omega arith) (omega arith) l.invariant.1
