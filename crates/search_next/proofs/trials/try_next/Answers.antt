use Rattle.search_next.proofs.Tried.{try-ended, try-made}
use lib.ListN.{length-set}
use native.Mathlib.Omega.{arith}
use Rattle.search_next.proofs.trials.try_next.Goals as goal

pub returns-then-budget-eq0 : goal.returns-then-budget-eq0
returns-then-budget-eq0 c = let a = c.args in try-ended a.n a.m a.f.now _ a.u.now _ a.alpha a.again c.requires c.if-budget-eq0.true c.end_with.ensures

pub shape_of-f : goal.shape_of-f
shape_of-f c = let z = length-set c.args.f.now 1 c.args.alpha in omega arith

pub returns : goal.returns
returns c = let a = c.args in try-made a.n a.m a.f.now _ a.u.now _ a.alpha a.again c.requires c.if-budget-eq0.false c.along_into.ensures c.set_words.ensures
