-- `gritstrut_settle`: the operation's promise, and what is told of it.
use native.Mathlib.Omega.{arith}
use Rattle.gritstrut.proofs.Settling.{settle-leaves}
use Rattle.gritstrut.proofs.volumes.gritstrut_settle.Goals as goal

pub returns : goal.returns
returns c = settle-leaves _ _ _ _ _ _ _ _ _ _ _ _ _ _ _ c.settle-answer.ensures c.tell_bound.ensures
