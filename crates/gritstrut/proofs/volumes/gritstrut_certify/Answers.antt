-- `gritstrut_certify`: the operation's promise, and what is told of it.
use native.Mathlib.Omega.{arith}
use Rattle.gritstrut.proofs.Settling.{certify-leaves}
use Rattle.gritstrut.proofs.volumes.gritstrut_certify.Goals as goal

pub returns : goal.returns
returns c = certify-leaves _ _ _ _ _ _ _ _ _ _ _ c.certify-answer.ensures c.tell_bound.ensures
