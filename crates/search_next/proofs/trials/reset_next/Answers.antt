use Rattle.search_next.proofs.Judged.{fresh-ready, resets}
use Rattle.search.proofs.Lent.{set-laid}
use mathlib.Core.Bool.{true}
use lib.ListN.{set, length-set}
use native.Mathlib.Omega.{arith}
use Rattle.search_next.proofs.trials.reset_next.Goals as goal

pub turn_next-requires : goal.turn_next-requires
turn_next-requires c = let a = c.args in (fresh-ready a.n a.m true a.f.now c.identity_in.new.f a.u.now (set a.u.now 3 1) c.requires.0 (omega arith) (set-laid 3 1 a.u.now), omega arith, omega arith)

pub shape_of-u : goal.shape_of-u
shape_of-u c = let z = length-set c.args.u.now 3 1 in omega arith

pub returns : goal.returns
returns c = let a = c.args in resets a.n a.m a.f.now c.identity_in.new.f _ a.u.now (set a.u.now 3 1) _ c.requires.0 c.identity_in.ensures (set-laid 3 1 a.u.now) c.turn_next.ensures
