-- `Check::step`: the tests in their order, then the verdict.
use mathlib.Core.Path.{sym, ◌∙◌}
use Rattle.workspace.proofs.Tests.{room-ge}
use Rattle.step_rows.specs.Problem.{problem_of}
use Rattle.step_call.proofs.Calls.{sizes-le, lengths-are, others-are}
use Rattle.step_check.specs.Check.{pasted_of}
use Rattle.step_check_call.proofs.Calls.{sides-are, size-refused, first-refused, second-refused, third-refused, room-refused, kind-refused, width-refused, tolerance-refused, all-passed}
use Rattle.step_check_call.proofs.Check.step.Goals as goal

pub returns-then-not-are_sizes : goal.returns-then-not-are_sizes
returns-then-not-are_sizes c = let a = c.args in
    let p = problem_of a.n a.m a.factor.now a.gradient.now a.kinds.now a.values.now a.widths.now a.jacobian.now a.lower.now a.upper.now in
    let s = pasted_of a.d.now a.multipliers.now a.lowers.now a.uppers.now in
    size-refused p s a.tolerance a.w.now a.iw.now (sym c.are_sizes.ensures ∙ c.if-not-are_sizes.true)

pub are_lengths-requires : goal.are_lengths-requires
are_lengths-requires c = let a = c.args in sizes-le a.n a.m (sym c.are_sizes.ensures ∙ c.if-not-are_sizes.false)

pub returns-then-not-are_lengths : goal.returns-then-not-are_lengths
returns-then-not-are_lengths c = let a = c.args in
    let p = problem_of a.n a.m a.factor.now a.gradient.now a.kinds.now a.values.now a.widths.now a.jacobian.now a.lower.now a.upper.now in
    let s = pasted_of a.d.now a.multipliers.now a.lowers.now a.uppers.now in
    first-refused p s a.tolerance a.w.now a.iw.now (sym c.are_sizes.ensures ∙ c.if-not-are_sizes.false) (sym c.are_lengths.ensures ∙ c.if-not-are_lengths.true)

pub returns-then-not-are_other_lengths : goal.returns-then-not-are_other_lengths
returns-then-not-are_other_lengths c = let a = c.args in
    let p = problem_of a.n a.m a.factor.now a.gradient.now a.kinds.now a.values.now a.widths.now a.jacobian.now a.lower.now a.upper.now in
    let s = pasted_of a.d.now a.multipliers.now a.lowers.now a.uppers.now in
    second-refused p s a.tolerance a.w.now a.iw.now (sym c.are_sizes.ensures ∙ c.if-not-are_sizes.false) (sym c.are_lengths.ensures ∙ c.if-not-are_lengths.false) (sym c.are_other_lengths.ensures ∙ c.if-not-are_other_lengths.true)

pub returns-then-not-are_sides : goal.returns-then-not-are_sides
returns-then-not-are_sides c = let a = c.args in
    let p = problem_of a.n a.m a.factor.now a.gradient.now a.kinds.now a.values.now a.widths.now a.jacobian.now a.lower.now a.upper.now in
    let s = pasted_of a.d.now a.multipliers.now a.lowers.now a.uppers.now in
    third-refused p s a.tolerance a.w.now a.iw.now (sym c.are_sizes.ensures ∙ c.if-not-are_sizes.false) (sym c.are_lengths.ensures ∙ c.if-not-are_lengths.false) (sym c.are_other_lengths.ensures ∙ c.if-not-are_other_lengths.false) (sym c.are_sides.ensures ∙ c.if-not-are_sides.true)

pub returns-then-not-is_room : goal.returns-then-not-is_room
returns-then-not-is_room c = let a = c.args in
    let p = problem_of a.n a.m a.factor.now a.gradient.now a.kinds.now a.values.now a.widths.now a.jacobian.now a.lower.now a.upper.now in
    let s = pasted_of a.d.now a.multipliers.now a.lowers.now a.uppers.now in
    room-refused p s a.tolerance a.w.now a.iw.now (sym c.are_sizes.ensures ∙ c.if-not-are_sizes.false) (sym c.are_lengths.ensures ∙ c.if-not-are_lengths.false) (sym c.are_other_lengths.ensures ∙ c.if-not-are_other_lengths.false) (sym c.are_sides.ensures ∙ c.if-not-are_sides.false) (sym c.is_room.ensures ∙ c.if-not-is_room.true)

pub returns-then-not-are_kinds : goal.returns-then-not-are_kinds
returns-then-not-are_kinds c = let a = c.args in
    let p = problem_of a.n a.m a.factor.now a.gradient.now a.kinds.now a.values.now a.widths.now a.jacobian.now a.lower.now a.upper.now in
    let s = pasted_of a.d.now a.multipliers.now a.lowers.now a.uppers.now in
    kind-refused p s a.tolerance a.w.now a.iw.now (sym c.are_sizes.ensures ∙ c.if-not-are_sizes.false) (sym c.are_lengths.ensures ∙ c.if-not-are_lengths.false) (sym c.are_other_lengths.ensures ∙ c.if-not-are_other_lengths.false) (sym c.are_sides.ensures ∙ c.if-not-are_sides.false) (sym c.is_room.ensures ∙ c.if-not-is_room.false) (sym c.are_kinds.ensures ∙ c.if-not-are_kinds.true)

pub are_widths-requires : goal.are_widths-requires
are_widths-requires c = let a = c.args in
    let l = lengths-are a.n a.m _ _ _ _ _ (sym c.are_lengths.ensures ∙ c.if-not-are_lengths.false) in
    let o = others-are a.n a.m _ _ _ _ _ (sym c.are_other_lengths.ensures ∙ c.if-not-are_other_lengths.false) in
    (l.2, o.0)

pub returns-then-not-are_widths : goal.returns-then-not-are_widths
returns-then-not-are_widths c = let a = c.args in
    let p = problem_of a.n a.m a.factor.now a.gradient.now a.kinds.now a.values.now a.widths.now a.jacobian.now a.lower.now a.upper.now in
    let s = pasted_of a.d.now a.multipliers.now a.lowers.now a.uppers.now in
    width-refused p s a.tolerance a.w.now a.iw.now (sym c.are_sizes.ensures ∙ c.if-not-are_sizes.false) (sym c.are_lengths.ensures ∙ c.if-not-are_lengths.false) (sym c.are_other_lengths.ensures ∙ c.if-not-are_other_lengths.false) (sym c.are_sides.ensures ∙ c.if-not-are_sides.false) (sym c.is_room.ensures ∙ c.if-not-is_room.false) (sym c.are_kinds.ensures ∙ c.if-not-are_kinds.false) (sym c.are_widths.ensures ∙ c.if-not-are_widths.true)

pub returns-then-not-is_tolerance : goal.returns-then-not-is_tolerance
returns-then-not-is_tolerance c = let a = c.args in
    let p = problem_of a.n a.m a.factor.now a.gradient.now a.kinds.now a.values.now a.widths.now a.jacobian.now a.lower.now a.upper.now in
    let s = pasted_of a.d.now a.multipliers.now a.lowers.now a.uppers.now in
    tolerance-refused p s a.tolerance a.w.now a.iw.now (sym c.are_sizes.ensures ∙ c.if-not-are_sizes.false) (sym c.are_lengths.ensures ∙ c.if-not-are_lengths.false) (sym c.are_other_lengths.ensures ∙ c.if-not-are_other_lengths.false) (sym c.are_sides.ensures ∙ c.if-not-are_sides.false) (sym c.is_room.ensures ∙ c.if-not-is_room.false) (sym c.are_kinds.ensures ∙ c.if-not-are_kinds.false) (sym c.are_widths.ensures ∙ c.if-not-are_widths.false) (sym c.is_tolerance.ensures ∙ c.if-not-is_tolerance.true)

pub check_all-verdict-requires : goal.check_all-verdict-requires
check_all-verdict-requires c = let a = c.args in
    let o = others-are a.n a.m _ _ _ _ _ (sym c.are_other_lengths.ensures ∙ c.if-not-are_other_lengths.false) in
    let h = sides-are a.n _ _ (sym c.are_sides.ensures ∙ c.if-not-are_sides.false) in
    let r = room-ge a.w.now a.iw.now (sym c.is_room.ensures ∙ c.if-not-is_room.false) in
    (o.3, o.4, h.0, h.1, r.0, r.1)

pub returns : goal.returns
returns c = let a = c.args in
    let p = problem_of a.n a.m a.factor.now a.gradient.now a.kinds.now a.values.now a.widths.now a.jacobian.now a.lower.now a.upper.now in
    let s = pasted_of a.d.now a.multipliers.now a.lowers.now a.uppers.now in
    all-passed p s a.tolerance a.w.now a.iw.now (sym c.are_sizes.ensures ∙ c.if-not-are_sizes.false) (sym c.are_lengths.ensures ∙ c.if-not-are_lengths.false) (sym c.are_other_lengths.ensures ∙ c.if-not-are_other_lengths.false) (sym c.are_sides.ensures ∙ c.if-not-are_sides.false) (sym c.is_room.ensures ∙ c.if-not-is_room.false) (sym c.are_kinds.ensures ∙ c.if-not-are_kinds.false) (sym c.are_widths.ensures ∙ c.if-not-are_widths.false) (sym c.is_tolerance.ensures ∙ c.if-not-is_tolerance.false) _ _ _ c.check_all-verdict.ensures
