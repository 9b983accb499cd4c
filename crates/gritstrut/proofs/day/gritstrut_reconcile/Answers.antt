-- `gritstrut_reconcile`: the operation's promise, its number and its place.
use native.Mathlib.Omega.{arith}
use Rattle.gritstrut.proofs.Days.{day-leaves}
use Rattle.gritstrut.proofs.day.gritstrut_reconcile.Goals as goal

pub returns : goal.returns
returns c = day-leaves _ _ _ _ _ _ _ _ _ _ _ _ _ _ c.reconcile-answer.ensures c.number_with_place.ensures
