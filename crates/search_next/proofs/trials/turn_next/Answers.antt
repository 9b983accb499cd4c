use lib.Ieee.{round, of_bits}
use Rattle.search_open.proofs.After.{reads-after}
use Rattle.search_next.proofs.Judged.{goes, converges, fails}
use native.Mathlib.Omega.{arith}
use Rattle.search_next.proofs.trials.turn_next.Goals as goal

pub try_next-requires : goal.try_next-requires
try_next-requires c = let a = c.args in (reads-after a.n a.m a.f.now a.u.now c.requires.0 c.open_turn-opening.result c.open_turn-opening.new.f c.open_turn-opening.new.u c.open_turn-opening.ensures).ready

pub end_with-requires : goal.end_with-requires
end_with-requires c = let a = c.args in let r = (reads-after a.n a.m a.f.now a.u.now c.requires.0 c.open_turn-opening.result c.open_turn-opening.new.f c.open_turn-opening.new.u c.open_turn-opening.ensures).ready in (r.floats, r.words, omega (arith, r.variables, r.few), omega (arith, r.functions, r.constraints))

pub end_with-requires-in-Infeasible : goal.end_with-requires-in-Infeasible
end_with-requires-in-Infeasible c = let a = c.args in let r = (reads-after a.n a.m a.f.now a.u.now c.requires.0 c.open_turn-opening.result c.open_turn-opening.new.f c.open_turn-opening.new.u c.open_turn-opening.ensures).ready in (r.floats, r.words, omega (arith, r.variables, r.few), omega (arith, r.functions, r.constraints))

pub returns-in-Go : goal.returns-in-Go
unfolding round of_bits
returns-in-Go c = let a = c.args in goes a.n a.m c.open_turn-opening.result a.f.now c.open_turn-opening.new.f _ a.u.now c.open_turn-opening.new.u _ c.requires.0 c.in-Go.is c.open_turn-opening.ensures c.try_next.ensures

pub returns-in-Converged : goal.returns-in-Converged
returns-in-Converged c = let a = c.args in converges a.n a.m c.open_turn-opening.result a.f.now c.open_turn-opening.new.f _ a.u.now c.open_turn-opening.new.u _ c.requires.0 c.in-Converged.is c.open_turn-opening.ensures c.end_with.ensures

pub returns-in-Infeasible : goal.returns-in-Infeasible
returns-in-Infeasible c = let a = c.args in fails a.n a.m c.open_turn-opening.result a.f.now c.open_turn-opening.new.f _ a.u.now c.open_turn-opening.new.u _ c.requires.0 c.in-Infeasible.is c.open_turn-opening.ensures c.end_with-in-Infeasible.ensures
