-- `gritstrut_ldp`: the number of what the operation tells.
use native.Mathlib.Omega.{arith}
use Rattle.gritstrut.proofs.Leaves.{solve-leaves}
use Rattle.gritstrut.proofs.gritstrut_ldp.Goals as goal

pub returns : goal.returns
returns c = solve-leaves _ _ _ _ _ _ _ _ _ _ _ c.solve-answer.ensures c.outcome_number.ensures
