-- `gritstrut_qr`: the rank fits, and goes out where the call is done.
use native.Mathlib.Omega.{arith}
use Rattle.gritstrut.proofs.Leaves.{rank-fits, qr-leaves, qr-keeps}
use Rattle.gritstrut.proofs.gritstrut_qr.Goals as goal

pub overflow_cast-rank : goal.overflow_cast-rank
overflow_cast-rank c = let a = c.args in
    let h = rank-fits a.m a.n a.a.now a.r.now _ a.perm.now _ a.u.now _ a.b.now _ a.w.now _ a.iw.now _ _ (rw c.in-Ok.is at c.factor-answer.ensures) in
    omega (arith, h)

pub returns-in-Ok : goal.returns-in-Ok
returns-in-Ok c = qr-leaves _ _ _ _ _ _ _ _ _ _ _ _ _ _ _ (rw c.in-Ok.is at c.factor-answer.ensures)

pub returns-in-Err : goal.returns-in-Err
returns-in-Err c = qr-keeps _ _ _ _ _ _ _ _ _ _ _ _ _ _ _ _ (rw c.in-Err.is at c.factor-answer.ensures) c.number.ensures
