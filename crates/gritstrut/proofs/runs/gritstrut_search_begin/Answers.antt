-- `gritstrut_search_begin`: the operation's promise, its number and its variable.
use native.Mathlib.Omega.{arith}
use Rattle.gritstrut.proofs.Searches.{begin-leaves}
use Rattle.gritstrut.proofs.runs.gritstrut_search_begin.Goals as goal

pub returns : goal.returns
returns c = begin-leaves _ _ _ _ _ _ _ _ _ _ _ _ _ _ c.begin-answer.ensures c.number_with_place.ensures
