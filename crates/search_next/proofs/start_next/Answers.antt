use Rattle.search_next.proofs.Taken.{start-goes, start-ends}
use Rattle.search_next.proofs.Judged.{goal-ready}
use Rattle.search.proofs.Lent.{set-laid}
use lib.ListN.{set, length-set}
use mathlib.Core.Path.{sym, ◌∙◌}
use native.Mathlib.Omega.{arith}
use Rattle.search_next.proofs.start_next.Goals as goal

pub returns-then-not-are_finite : goal.returns-then-not-are_finite
returns-then-not-are_finite c = let a = c.args in start-ends a.n a.m a.values.now a.f.now c.load.new.w _ a.u.now _ c.requires.0 c.requires.1 (omega arith) c.load.ensures (sym c.are_finite.ensures ∙ c.if-not-are_finite.true) c.end_begun.ensures

pub slopes_next-requires : goal.slopes_next-requires
slopes_next-requires c = let a = c.args in goal-ready a.n a.m 0 a.f.now c.load.new.w a.u.now (set a.u.now 4 0) c.requires.0 (omega arith) (set-laid 4 0 a.u.now)

pub shape_of-u : goal.shape_of-u
shape_of-u c = let z = length-set c.args.u.now 4 0 in omega arith

pub returns : goal.returns
returns c = let a = c.args in start-goes a.n a.m a.values.now a.f.now c.load.new.w _ a.u.now (set a.u.now 4 0) _ c.requires.0 c.requires.1 (omega arith) c.load.ensures (sym c.are_finite.ensures ∙ c.if-not-are_finite.false) (set-laid 4 0 a.u.now) c.slopes_next.ensures
