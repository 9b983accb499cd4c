use Rattle.search_next.proofs.Asked.{ask-broken, ask-unpaid, ask-made}
use mathlib.Core.Path.{sym, ◌∙◌}
use Prim.Native.Nat.{◌-◌}
use native.Mathlib.Omega.{arith}
use Rattle.search_next.proofs.differences.ask_moved.Goals as goal

pub returns-then-not-is_finite : goal.returns-then-not-is_finite
returns-then-not-is_finite c = let a = c.args in let r = c.requires in ask-broken a.n a.m a.f.now _ a.u.now _ a.down a.rows a.cols (a.n - 1 - a.cols) c.moved_to-y.result r.0 (omega arith) c.moved_to-y.ensures (sym c.is_finite.ensures ∙ c.if-not-is_finite.true) c.end_goal.ensures

pub returns-then-budget-price : goal.returns-then-budget-price
returns-then-budget-price c = let a = c.args in let r = c.requires in ask-unpaid a.n a.m a.f.now _ a.u.now _ a.down a.rows a.cols (a.n - 1 - a.cols) c.price_of-price.result c.moved_to-y.result r.0 (omega arith) r.1 c.moved_to-y.ensures (sym c.is_finite.ensures ∙ c.if-not-is_finite.false) c.price_of-price.ensures (omega arith) c.end_goal-then-budget-price.ensures

pub returns : goal.returns
returns c = let a = c.args in
    let r = c.requires in
    ask-made a.n a.m a.f.now c.report_goal.new.f _ a.u.now _ a.down a.rows a.cols (a.n - 1 - a.cols) c.price_of-price.result c.phase_of-phase.result c.moved_to-y.result r.0 (omega arith) r.1 c.moved_to-y.ensures (sym c.is_finite.ensures ∙ c.if-not-is_finite.false) c.price_of-price.ensures (omega arith) c.phase_of-phase.ensures c.report_goal.ensures c.point_moved.ensures (c.set_goal_words.ensures a.n a.m a.f.now)
