-- `begin_posed`: the problem, and by the start and the budget an end or a question.
use mathlib.Core.Path.{sym, ◌∙◌}
use native.Mathlib.Omega.{arith}
use Rattle.search.specs.Turn.{clipped}
use Rattle.search.specs.Promise.{setup_of}
use Rattle.search_call.proofs.Starts.{started-nonfinite, started-exhausted, started-first}
use Rattle.search_call.proofs.begin.begin_posed.Goals as goal

pub pose_floats-requires : goal.pose_floats-requires
pose_floats-requires c = let b = c.requires.0 in let q = b.posed in (omega (arith, b.start, b.floats, b.words, q.few, q.constraints, q.kinds, q.lower, q.upper), omega (arith, b.start, b.floats, b.words, q.few, q.constraints, q.kinds, q.lower, q.upper), omega (arith, b.start, b.floats, b.words, q.few, q.constraints, q.kinds, q.lower, q.upper), omega (arith, b.start, b.floats, b.words, q.few, q.constraints, q.kinds, q.lower, q.upper))

pub pose_words-requires : goal.pose_words-requires
pose_words-requires c = let b = c.requires.0 in let q = b.posed in (omega (arith, b.words), q.kinds, q.few, q.constraints, c.requires.1)

pub are_finite-requires : goal.are_finite-requires
are_finite-requires c = tt

pub end_unknown-requires : goal.end_unknown-requires
end_unknown-requires c = let b = c.requires.0 in let q = b.posed in (omega (arith, b.start, b.floats, b.words, q.few, q.constraints, q.kinds, q.lower, q.upper), omega (arith, b.start, b.floats, b.words, q.few, q.constraints, q.kinds, q.lower, q.upper), omega (arith, b.start, b.floats, b.words, q.few, q.constraints, q.kinds, q.lower, q.upper), omega (arith, b.start, b.floats, b.words, q.few, q.constraints, q.kinds, q.lower, q.upper), omega (arith, b.start, b.floats, b.words, q.few, q.constraints, q.kinds, q.lower, q.upper), omega (arith, b.start, b.floats, b.words, q.few, q.constraints, q.kinds, q.lower, q.upper), omega (arith, b.start, b.floats, b.words, q.few, q.constraints, q.kinds, q.lower, q.upper))

pub returns-then-not-are_finite : goal.returns-then-not-are_finite
unfolding clipped
returns-then-not-are_finite c = let a = c.args in
    let p = setup_of a.n a.m a.kinds.now a.lower.now a.upper.now a.ftol a.scheme in
    started-nonfinite p c.requires.0.posed a.x.now a.budget c.pose_floats.new.f c.end_unknown.new.f c.pose_words.new.u c.end_unknown.new.u
    (c.pose_floats.ensures a.m a.scheme a.kinds.now) (c.pose_words.ensures a.lower.now a.upper.now a.ftol) (sym c.are_finite.ensures ∙ c.if-not-are_finite.true) c.end_unknown.ensures

pub end_unknown-requires-then-budget-eq0 : goal.end_unknown-requires-then-budget-eq0
end_unknown-requires-then-budget-eq0 c = let b = c.requires.0 in let q = b.posed in (omega (arith, b.start, b.floats, b.words, q.few, q.constraints, q.kinds, q.lower, q.upper), omega (arith, b.start, b.floats, b.words, q.few, q.constraints, q.kinds, q.lower, q.upper), omega (arith, b.start, b.floats, b.words, q.few, q.constraints, q.kinds, q.lower, q.upper), omega (arith, b.start, b.floats, b.words, q.few, q.constraints, q.kinds, q.lower, q.upper), omega (arith, b.start, b.floats, b.words, q.few, q.constraints, q.kinds, q.lower, q.upper), omega (arith, b.start, b.floats, b.words, q.few, q.constraints, q.kinds, q.lower, q.upper), omega (arith, b.start, b.floats, b.words, q.few, q.constraints, q.kinds, q.lower, q.upper))

pub returns-then-budget-eq0 : goal.returns-then-budget-eq0
unfolding clipped
returns-then-budget-eq0 c = let a = c.args in
    let p = setup_of a.n a.m a.kinds.now a.lower.now a.upper.now a.ftol a.scheme in
    started-exhausted p c.requires.0.posed a.x.now a.budget c.pose_floats.new.f c.end_unknown-then-budget-eq0.new.f c.pose_words.new.u c.end_unknown-then-budget-eq0.new.u
    (c.pose_floats.ensures a.m a.scheme a.kinds.now) (c.pose_words.ensures a.lower.now a.upper.now a.ftol) (sym c.are_finite.ensures ∙ c.if-not-are_finite.false) c.if-budget-eq0.true c.end_unknown-then-budget-eq0.ensures

pub overflow_sub-budget : goal.overflow_sub-budget
overflow_sub-budget c = omega arith

pub ask_first-requires : goal.ask_first-requires
ask_first-requires c = let b = c.requires.0 in let q = b.posed in (omega (arith, b.start, b.floats, b.words, q.few, q.constraints, q.kinds, q.lower, q.upper), omega (arith, b.start, b.floats, b.words, q.few, q.constraints, q.kinds, q.lower, q.upper), omega (arith, b.start, b.floats, b.words, q.few, q.constraints, q.kinds, q.lower, q.upper), omega (arith, b.start, b.floats, b.words, q.few, q.constraints, q.kinds, q.lower, q.upper), omega (arith, b.start, b.floats, b.words, q.few, q.constraints, q.kinds, q.lower, q.upper), omega (arith, b.start, b.floats, b.words, q.few, q.constraints, q.kinds, q.lower, q.upper), omega (arith, b.start, b.floats, b.words, q.few, q.constraints, q.kinds, q.lower, q.upper))

pub returns : goal.returns
unfolding clipped
returns c = let a = c.args in
    let p = setup_of a.n a.m a.kinds.now a.lower.now a.upper.now a.ftol a.scheme in
    started-first p c.requires.0.posed a.x.now a.budget c.pose_floats.new.f c.ask_first.new.f c.pose_words.new.u c.ask_first.new.u
    (c.pose_floats.ensures a.m a.scheme a.kinds.now) (c.pose_words.ensures a.lower.now a.upper.now a.ftol) (sym c.are_finite.ensures ∙ c.if-not-are_finite.false) c.if-budget-eq0.false c.ask_first.ensures
