-- `gritstrut_suspect`: the operation's promise, and what is told of it.
use native.Mathlib.Omega.{arith}
use Rattle.gritstrut.proofs.Suspecting.{suspect-leaves}
use Rattle.gritstrut.proofs.meters.gritstrut_suspect.Goals as goal

pub returns : goal.returns
returns c = suspect-leaves _ _ _ _ _ _ _ _ _ _ _ _ _ _ _ _ _ _ _ c.suspect-answer.ensures c.tell_finding.ensures
