use native.Mathlib.Omega.{arith}
use Rattle.search_turn.proofs.Parts.{merit-in}
use Rattle.search_turn.proofs.merit_of.Goals as goal

pub bounds-v-0 : goal.bounds-v-0
bounds-v-0 c = omega arith

pub returns : goal.returns
returns c = let a = c.args in merit-in a.m a.f.now a.u.now a.v.now _ c.requires.4 c.penalized.ensures
