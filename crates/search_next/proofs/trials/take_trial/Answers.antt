use Rattle.search_next.proofs.Taken.{takes}
use Rattle.search_next.proofs.Judged.{goal-ready}
use Rattle.search.proofs.Lent.{set-laid}
use lib.ListN.{set, length-set}
use native.Mathlib.Omega.{arith}
use Rattle.search_next.proofs.trials.take_trial.Goals as goal

pub slopes_next-requires : goal.slopes_next-requires
slopes_next-requires c = let a = c.args in goal-ready a.n a.m 1 a.f.now c.load.new.w a.u.now (set a.u.now 4 1) c.requires.0 (omega arith) (set-laid 4 1 a.u.now)

pub shape_of-u : goal.shape_of-u
shape_of-u c = let z = length-set c.args.u.now 4 1 in omega arith

pub returns : goal.returns
returns c = let a = c.args in takes a.n a.m a.told.now a.f.now c.along_into.new.f c.load.new.w _ a.u.now (set a.u.now 4 1) _ c.requires.0 c.requires.1 c.along_into.ensures (omega arith) c.load.ensures (set-laid 4 1 a.u.now) c.slopes_next.ensures
