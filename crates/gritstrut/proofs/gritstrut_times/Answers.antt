-- `gritstrut_times`: the number of what the operation tells.
use native.Mathlib.Omega.{arith}
use Rattle.gritstrut.proofs.Leaves.{write-leaves}
use Rattle.gritstrut.proofs.gritstrut_times.Goals as goal

pub returns : goal.returns
returns c = write-leaves _ _ _ _ _ _ _ _ _ c.times-answer.ensures c.outcome_number.ensures
