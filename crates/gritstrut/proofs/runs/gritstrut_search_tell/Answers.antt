-- `gritstrut_search_tell`: the operation's promise and its number.
use native.Mathlib.Omega.{arith}
use Rattle.gritstrut.proofs.Searches.{run-leaves}
use Rattle.gritstrut.proofs.runs.gritstrut_search_tell.Goals as goal

pub returns : goal.returns
returns c = run-leaves _ _ _ _ _ _ _ _ _ _ _ _ _ c.tell-answer.ensures c.outcome_number.ensures
