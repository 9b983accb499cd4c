-- `gritstrut_write_problem`: the length goes out where the call is done, a place with its refusal.
use native.Mathlib.Omega.{arith}
use Rattle.gritstrut.proofs.Files.{file-leaves, file-keeps}
use Rattle.gritstrut.proofs.problems.gritstrut_write_problem.Goals as goal

pub returns-in-Ok : goal.returns-in-Ok
returns-in-Ok c = file-leaves _ _ _ _ _ _ _ _ _ _ (rw c.in-Ok.is at c.write-answer.ensures)

pub returns-in-Err : goal.returns-in-Err
returns-in-Err c = file-keeps _ _ _ _ _ _ _ _ _ _ _ _ (rw c.in-Err.is at c.write-answer.ensures) c.number_with_place.ensures
