-- `solve_tested`: the tests in their order, then the step.
use mathlib.Core.Path.{sym, ◌∙◌}
use native.Mathlib.Omega.{arith}
use Rattle.std.proofs.lemmas.Result.{err_from_is_err_and}
use Rattle.workspace.proofs.Tests.{room-ge}
use Rattle.step_call.proofs.Bounds.{all_pass, all-stop}
use Rattle.step_call.proofs.Calls.{sizes-le, lengths-are, others-are, size-refused, length-refused, room-refused, kind-refused, width-refused, bound-refused, call-answered, lengths-bad, lengths-good, lengths-rest}
use Rattle.step_call.proofs.solve_tested.Goals as goal

pub returns-then-not-are_sizes : goal.returns-then-not-are_sizes
returns-then-not-are_sizes c = let a = c.args in size-refused _ _ _ _ _ _ a.d.now a.multipliers.now a.w.now a.iw.now (sym c.are_sizes.ensures ∙ c.if-not-are_sizes.true)

pub are_lengths-requires : goal.are_lengths-requires
are_lengths-requires c = let a = c.args in sizes-le a.n a.m (sym c.are_sizes.ensures ∙ c.if-not-are_sizes.false)

pub returns-then-not-are_lengths : goal.returns-then-not-are_lengths
returns-then-not-are_lengths c = let a = c.args in length-refused _ _ _ _ _ _ a.d.now a.multipliers.now a.w.now a.iw.now (sym c.are_sizes.ensures ∙ c.if-not-are_sizes.false) (lengths-bad _ _ _ _ _ _ (sym c.are_lengths.ensures ∙ c.if-not-are_lengths.true))

pub returns-then-not-are_other_lengths : goal.returns-then-not-are_other_lengths
returns-then-not-are_other_lengths c = let a = c.args in length-refused _ _ _ _ _ _ a.d.now a.multipliers.now a.w.now a.iw.now (sym c.are_sizes.ensures ∙ c.if-not-are_sizes.false) (lengths-rest _ _ _ _ _ _ (sym c.are_lengths.ensures ∙ c.if-not-are_lengths.false) (sym c.are_other_lengths.ensures ∙ c.if-not-are_other_lengths.true))

pub returns-then-not-is_room : goal.returns-then-not-is_room
returns-then-not-is_room c = let a = c.args in room-refused _ _ _ _ _ _ a.d.now a.multipliers.now a.w.now a.iw.now (sym c.are_sizes.ensures ∙ c.if-not-are_sizes.false) (lengths-good _ _ _ _ _ _ (sym c.are_lengths.ensures ∙ c.if-not-are_lengths.false) (sym c.are_other_lengths.ensures ∙ c.if-not-are_other_lengths.false)) (sym c.is_room.ensures ∙ c.if-not-is_room.true)

pub returns-then-not-are_kinds : goal.returns-then-not-are_kinds
returns-then-not-are_kinds c = let a = c.args in kind-refused _ _ _ _ _ _ a.d.now a.multipliers.now a.w.now a.iw.now (sym c.are_sizes.ensures ∙ c.if-not-are_sizes.false) (lengths-good _ _ _ _ _ _ (sym c.are_lengths.ensures ∙ c.if-not-are_lengths.false) (sym c.are_other_lengths.ensures ∙ c.if-not-are_other_lengths.false)) (sym c.is_room.ensures ∙ c.if-not-is_room.false) (sym c.are_kinds.ensures ∙ c.if-not-are_kinds.true)

pub are_widths-requires : goal.are_widths-requires
are_widths-requires c = let a = c.args in
    let l = lengths-are a.n a.m _ _ _ _ _ (sym c.are_lengths.ensures ∙ c.if-not-are_lengths.false) in
    let d = others-are a.n a.m _ _ _ _ _ (sym c.are_other_lengths.ensures ∙ c.if-not-are_other_lengths.false) in
    (l.2, d.0)

pub returns-then-not-are_widths : goal.returns-then-not-are_widths
returns-then-not-are_widths c = let a = c.args in width-refused _ _ _ _ _ _ _ a.d.now a.multipliers.now a.w.now a.iw.now (sym c.are_sizes.ensures ∙ c.if-not-are_sizes.false) (lengths-good _ _ _ _ _ _ (sym c.are_lengths.ensures ∙ c.if-not-are_lengths.false) (sym c.are_other_lengths.ensures ∙ c.if-not-are_other_lengths.false)) (sym c.is_room.ensures ∙ c.if-not-is_room.false) (sym c.are_kinds.ensures ∙ c.if-not-are_kinds.false) (sym c.are_widths.ensures ∙ c.if-not-are_widths.true)

pub test_bounds-requires : goal.test_bounds-requires
test_bounds-requires c = let a = c.args in
    let z = sizes-le a.n a.m (sym c.are_sizes.ensures ∙ c.if-not-are_sizes.false) in
    let d = others-are a.n a.m _ _ _ _ _ (sym c.are_other_lengths.ensures ∙ c.if-not-are_other_lengths.false) in
    (omega (arith, z.0, c.requires), omega (arith, d.1, c.requires), omega (arith, d.2, c.requires))

pub returns-in_err-test_bounds : goal.returns-in_err-test_bounds
returns-in_err-test_bounds c = let a = c.args in
    let p = err_from_is_err_and c.from_residual.result c.from_residual.ensures.1 in
    rw (p.1, p.2) (bound-refused _ _ _ _ _ _ _ _ a.d.now a.multipliers.now a.w.now a.iw.now (sym c.are_sizes.ensures ∙ c.if-not-are_sizes.false) (lengths-good _ _ _ _ _ _ (sym c.are_lengths.ensures ∙ c.if-not-are_lengths.false) (sym c.are_other_lengths.ensures ∙ c.if-not-are_other_lengths.false)) (sym c.is_room.ensures ∙ c.if-not-is_room.false) (sym c.are_kinds.ensures ∙ c.if-not-are_kinds.false) (sym c.are_widths.ensures ∙ c.if-not-are_widths.false) (all-stop a.lower.now a.upper.now _ a.tested 0 _ (sym c.test_bounds.ensures ∙ c.in_err-test_bounds.was)))

pub step_all-requires : goal.step_all-requires
step_all-requires c = let a = c.args in
    let s = sizes-le a.n a.m (sym c.are_sizes.ensures ∙ c.if-not-are_sizes.false) in
    let l = lengths-are a.n a.m _ _ _ _ _ (sym c.are_lengths.ensures ∙ c.if-not-are_lengths.false) in
    let d = others-are a.n a.m _ _ _ _ _ (sym c.are_other_lengths.ensures ∙ c.if-not-are_other_lengths.false) in
    let r = room-ge a.w.now a.iw.now (sym c.is_room.ensures ∙ c.if-not-is_room.false) in
    (d.3, d.4, r.0, r.1)

pub returns : goal.returns
returns c = let a = c.args in
    call-answered _ _ _ _ _ _ _ _ _ a.d.now _ a.multipliers.now _ a.w.now _ a.iw.now _ (sym c.are_sizes.ensures ∙ c.if-not-are_sizes.false) (lengths-good _ _ _ _ _ _ (sym c.are_lengths.ensures ∙ c.if-not-are_lengths.false) (sym c.are_other_lengths.ensures ∙ c.if-not-are_other_lengths.false)) (sym c.is_room.ensures ∙ c.if-not-is_room.false) (sym c.are_kinds.ensures ∙ c.if-not-are_kinds.false) (sym c.are_widths.ensures ∙ c.if-not-are_widths.false)
    (all_pass a.lower.now a.upper.now _ a.tested 0 (sym c.test_bounds.ensures ∙ c.in_ok-test_bounds.was)) c.step_all.ensures
