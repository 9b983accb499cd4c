-- `test_call`: the tests in their order.
use mathlib.Core.Path.{sym, ◌∙◌}
use Rattle.std.proofs.lemmas.Result.{err_from_is_err_and}
use Rattle.settle.specs.Settle.{measured}
use Rattle.settle_call.proofs.Testing.{sizes, fitting, size-told, length-told, answers-told, room-told, tolerance-told, value-told, rest-told}
use Rattle.settle_call.proofs.arguments.test_call.Goals as goal

pub returns-then-not-are_sizes : goal.returns-then-not-are_sizes
returns-then-not-are_sizes c = let a = c.args in size-told (measured a.n a.m a.p a.values.now a.spreads.now a.balances.now a.limits.now a.least.now) a.tolerance a.volumes a.multipliers a.w a.iw _ c.are_sizes.ensures c.if-not-are_sizes.true

pub are_lengths-requires : goal.are_lengths-requires
are_lengths-requires c = let a = c.args in sizes a.n a.m a.p (sym c.are_sizes.ensures ∙ c.if-not-are_sizes.false)

pub returns-then-not-are_lengths : goal.returns-then-not-are_lengths
returns-then-not-are_lengths c = let a = c.args in length-told (measured a.n a.m a.p a.values.now a.spreads.now a.balances.now a.limits.now a.least.now) a.tolerance a.volumes a.multipliers a.w a.iw _ _ c.are_sizes.ensures c.if-not-are_sizes.false c.are_lengths.ensures c.if-not-are_lengths.true

pub are_answers-requires : goal.are_answers-requires
are_answers-requires c = let a = c.args in
    let z = sizes a.n a.m a.p (sym c.are_sizes.ensures ∙ c.if-not-are_sizes.false) in
    (z.1, z.2)

pub returns-then-not-are_answers : goal.returns-then-not-are_answers
returns-then-not-are_answers c = let a = c.args in answers-told (measured a.n a.m a.p a.values.now a.spreads.now a.balances.now a.limits.now a.least.now) a.tolerance a.volumes a.multipliers a.w a.iw _ _ _ c.are_sizes.ensures c.if-not-are_sizes.false c.are_lengths.ensures c.if-not-are_lengths.false c.are_answers.ensures c.if-not-are_answers.true

pub returns-then-not-is_room : goal.returns-then-not-is_room
returns-then-not-is_room c = let a = c.args in room-told (measured a.n a.m a.p a.values.now a.spreads.now a.balances.now a.limits.now a.least.now) a.tolerance a.volumes a.multipliers a.w a.iw _ _ _ _ c.are_sizes.ensures c.if-not-are_sizes.false c.are_lengths.ensures c.if-not-are_lengths.false c.are_answers.ensures c.if-not-are_answers.false c.is_room.ensures c.if-not-is_room.true

pub returns-then-not-is_tolerance : goal.returns-then-not-is_tolerance
returns-then-not-is_tolerance c = let a = c.args in tolerance-told (measured a.n a.m a.p a.values.now a.spreads.now a.balances.now a.limits.now a.least.now) a.tolerance a.volumes a.multipliers a.w a.iw _ _ _ _ _ c.are_sizes.ensures c.if-not-are_sizes.false c.are_lengths.ensures c.if-not-are_lengths.false c.are_answers.ensures c.if-not-are_answers.false c.is_room.ensures c.if-not-is_room.false c.is_tolerance.ensures c.if-not-is_tolerance.true

pub test_values-requires : goal.test_values-requires
test_values-requires c = let a = c.args in
    let i = fitting (measured a.n a.m a.p a.values.now a.spreads.now a.balances.now a.limits.now a.least.now) (sym c.are_sizes.ensures ∙ c.if-not-are_sizes.false) (sym c.are_lengths.ensures ∙ c.if-not-are_lengths.false) in
    (i.n16, i.lv, i.ls)

pub returns-in_err-test_values : goal.returns-in_err-test_values
returns-in_err-test_values c = let a = c.args in
    let p = err_from_is_err_and c.from_residual.result c.from_residual.ensures.1 in
    rw (p.1, p.2) (value-told (measured a.n a.m a.p a.values.now a.spreads.now a.balances.now a.limits.now a.least.now) a.tolerance a.volumes a.multipliers a.w a.iw _ _ _ _ _ _ c.are_sizes.ensures c.if-not-are_sizes.false c.are_lengths.ensures c.if-not-are_lengths.false c.are_answers.ensures c.if-not-are_answers.false c.is_room.ensures c.if-not-is_room.false c.is_tolerance.ensures c.if-not-is_tolerance.false (sym c.test_values.ensures ∙ c.in_err-test_values.was))

pub test_leasts-requires : goal.test_leasts-requires
test_leasts-requires c = let a = c.args in
    let i = fitting (measured a.n a.m a.p a.values.now a.spreads.now a.balances.now a.limits.now a.least.now) (sym c.are_sizes.ensures ∙ c.if-not-are_sizes.false) (sym c.are_lengths.ensures ∙ c.if-not-are_lengths.false) in
    (i.p48, i.lf)

pub returns : goal.returns
returns c = let a = c.args in
    rest-told (measured a.n a.m a.p a.values.now a.spreads.now a.balances.now a.limits.now a.least.now) a.tolerance a.volumes a.multipliers a.w a.iw _ _ _ _ _ _ c.are_sizes.ensures c.if-not-are_sizes.false c.are_lengths.ensures c.if-not-are_lengths.false c.are_answers.ensures c.if-not-are_answers.false c.is_room.ensures c.if-not-is_room.false c.is_tolerance.ensures c.if-not-is_tolerance.false (sym c.test_values.ensures ∙ c.in_ok-test_values.was) c.test_leasts.ensures
