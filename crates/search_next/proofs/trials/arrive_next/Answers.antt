use Rattle.search_next.proofs.Judged.{fresh-ready, arrive-first, arrives}
use borrow.Author.Tests.{eq-eqb, ne_eqb}
use mathlib.Core.Bool.{true, false}
use mathlib.Core.Path.{sym, ◌∙◌}
use native.Mathlib.Omega.{arith}
use Rattle.search_next.proofs.trials.arrive_next.Goals as goal

pub turn_next-requires : goal.turn_next-requires
turn_next-requires c = let a = c.args in (fresh-ready a.n a.m true a.f.now c.start_turn.new.f a.u.now c.start_turn.new.u c.requires.0 (omega arith) c.start_turn.ensures.1, omega arith, omega arith)

pub returns-then-u-eq0 : goal.returns-then-u-eq0
returns-then-u-eq0 c = let a = c.args in arrive-first a.n a.m a.f.now c.start_turn.new.f _ a.w.now a.u.now c.start_turn.new.u _ c.requires.0 (eq-eqb _ _ c.if-u-eq0.true) c.start_turn.ensures.0 c.start_turn.ensures.1 c.turn_next.ensures

pub end_with-requires : goal.end_with-requires
end_with-requires c = let a = c.args in let r = fresh-ready a.n a.m false a.f.now c.move_turn.new.f a.u.now c.move_turn.new.u c.requires.0 (omega arith) c.move_turn.ensures.1 in (r.floats, r.words, omega (arith, r.variables, r.few), omega (arith, r.functions, r.constraints))

pub returns-then-settled : goal.returns-then-settled
returns-then-settled c = let a = c.args in arrives true a.n a.m a.f.now c.move_turn.new.f _ a.w.now a.u.now c.move_turn.new.u _ c.requires.0 (ne_eqb _ _ c.if-u-eq0.false) (sym (c.is_settled-settled.ensures a.n) ∙ c.if-settled.true) c.move_turn.ensures.0 c.move_turn.ensures.1 c.end_with.ensures

pub turn_next-requires-2 : goal.turn_next-requires-2
turn_next-requires-2 c = let a = c.args in (fresh-ready a.n a.m false a.f.now c.move_turn.new.f a.u.now c.move_turn.new.u c.requires.0 (omega arith) c.move_turn.ensures.1, omega arith, omega arith)

pub returns : goal.returns
returns c = let a = c.args in arrives false a.n a.m a.f.now c.move_turn.new.f _ a.w.now a.u.now c.move_turn.new.u _ c.requires.0 (ne_eqb _ _ c.if-u-eq0.false) (sym (c.is_settled-settled.ensures a.n) ∙ c.if-settled.false) c.move_turn.ensures.0 c.move_turn.ensures.1 c.turn_next-2.ensures
