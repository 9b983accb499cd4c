-- `gritstrut_mend`: count and meters go out where the call is done.
use native.Mathlib.Omega.{arith}
use Rattle.gritstrut.proofs.Mends.{mend-leaves, mend-keeps}
use Rattle.gritstrut.proofs.readings.gritstrut_mend.Goals as goal

pub returns-in-Ok : goal.returns-in-Ok
returns-in-Ok c = mend-leaves _ _ _ _ _ _ _ _ _ _ _ _ (rw c.in-Ok.is at c.mend-answer.ensures)

pub returns-in-Err : goal.returns-in-Err
returns-in-Err c = mend-keeps _ _ _ _ _ _ _ _ _ _ _ _ _ (rw c.in-Err.is at c.mend-answer.ensures) c.number.ensures
