-- `gritstrut_lsei`: the operation's promise, its number and its place.
use native.Mathlib.Omega.{arith}
use Rattle.gritstrut.proofs.Leaves.{place-leaves}
use Rattle.gritstrut.proofs.gritstrut_lsei.Goals as goal

pub returns : goal.returns
returns c = place-leaves _ _ _ _ _ _ _ _ _ _ _ _ _ c.solve-answer.ensures c.number_with_place.ensures
