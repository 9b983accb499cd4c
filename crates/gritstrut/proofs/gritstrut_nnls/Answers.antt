-- `gritstrut_nnls`: the counts fit, and go out where the call is done.
use native.Mathlib.Omega.{arith}
use Rattle.gritstrut.proofs.Leaves.{counts-fit, nnls-leaves, nnls-keeps}
use Rattle.gritstrut.proofs.gritstrut_nnls.Goals as goal

pub overflow_cast-rounds : goal.overflow_cast-rounds
overflow_cast-rounds c = let a = c.args in
    let h = (counts-fit a.m a.n a.k a.a.now a.b.now a.x.now _ a.w.now _ a.iw.now _ _ (rw c.in-Ok.is at c.solve-answer.ensures)).0 in
    omega (arith, h)

pub overflow_cast-factorings : goal.overflow_cast-factorings
overflow_cast-factorings c = let a = c.args in
    let h = (counts-fit a.m a.n a.k a.a.now a.b.now a.x.now _ a.w.now _ a.iw.now _ _ (rw c.in-Ok.is at c.solve-answer.ensures)).1 in
    omega (arith, h)

pub returns-in-Ok : goal.returns-in-Ok
returns-in-Ok c = nnls-leaves _ _ _ _ _ _ _ _ _ _ (rw c.in-Ok.is at c.solve-answer.ensures)

pub returns-in-Err : goal.returns-in-Err
returns-in-Err c = nnls-keeps _ _ _ _ _ _ _ _ _ _ _ (rw c.in-Err.is at c.solve-answer.ensures) c.number.ensures
