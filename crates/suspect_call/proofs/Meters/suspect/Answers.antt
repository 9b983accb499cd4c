-- `Meters::suspect`: the tests in their order, meter by meter, then the arithmetic.
use mathlib.Core.Path.{sym, ◌∙◌}
use Rattle.std.proofs.lemmas.Result.{err_from_is_err_and}
use Rattle.workspace.proofs.Tests.{room-ge}
use Rattle.reconcile_call.proofs.Calls.{sizes}
use Rattle.suspect.specs.Suspect.{suspect}
use Rattle.suspect_call.proofs.Testing.{all_pass, all-stop}
use Rattle.suspect_call.proofs.Calls.{both_true, left_false, right-false, length-refused, room-refused, meter-refused, all-passed, inputs, outputs}
use Rattle.suspect_call.proofs.Meters.suspect.Goals as goal

pub are_inputs-requires : goal.are_inputs-requires
are_inputs-requires c = let a = c.args in sizes a.n a.m (sym c.are_sizes.ensures ∙ c.if-not-are_sizes.false)

pub returns-then-not-are_inputs : goal.returns-then-not-are_inputs
returns-then-not-are_inputs c = let a = c.args in length-refused _ _ _ _ a.numbers.now a.groups.now a.marks.now a.w.now a.iw.now (sym c.are_sizes.ensures ∙ c.if-not-are_sizes.false) (left_false _ _ (sym c.are_inputs.ensures ∙ c.if-not-are_inputs.true))

pub are_outputs-requires : goal.are_outputs-requires
are_outputs-requires c = let a = c.args in (sizes a.n a.m (sym c.are_sizes.ensures ∙ c.if-not-are_sizes.false)).0

pub returns-then-not-are_outputs : goal.returns-then-not-are_outputs
returns-then-not-are_outputs c = let a = c.args in length-refused _ _ _ _ a.numbers.now a.groups.now a.marks.now a.w.now a.iw.now (sym c.are_sizes.ensures ∙ c.if-not-are_sizes.false) (right-false _ _ (sym c.are_inputs.ensures ∙ c.if-not-are_inputs.false) (sym c.are_outputs.ensures ∙ c.if-not-are_outputs.true))

pub returns-then-not-is_room : goal.returns-then-not-is_room
returns-then-not-is_room c = let a = c.args in room-refused _ _ _ _ a.numbers.now a.groups.now a.marks.now a.w.now a.iw.now (sym c.are_sizes.ensures ∙ c.if-not-are_sizes.false) (both_true _ _ (sym c.are_inputs.ensures ∙ c.if-not-are_inputs.false) (sym c.are_outputs.ensures ∙ c.if-not-are_outputs.false)) (sym c.is_room.ensures ∙ c.if-not-is_room.true)

pub test_all-requires : goal.test_all-requires
test_all-requires c = let a = c.args in let l = inputs a.n a.m a.values.now a.spreads.now a.balances.now a.still.now (sym c.are_inputs.ensures ∙ c.if-not-are_inputs.false) in ((sizes a.n a.m (sym c.are_sizes.ensures ∙ c.if-not-are_sizes.false)).0, l.0, l.1)

pub returns-in_err-test_all : goal.returns-in_err-test_all
returns-in_err-test_all c = let a = c.args in
    let p = err_from_is_err_and c.from_residual.result c.from_residual.ensures.1 in
    rw (p.1, p.2) (meter-refused _ _ _ _ a.numbers.now a.groups.now a.marks.now a.w.now a.iw.now _ (sym c.are_sizes.ensures ∙ c.if-not-are_sizes.false) (both_true _ _ (sym c.are_inputs.ensures ∙ c.if-not-are_inputs.false) (sym c.are_outputs.ensures ∙ c.if-not-are_outputs.false)) (sym c.is_room.ensures ∙ c.if-not-is_room.false)
    (all-stop a.values.now a.spreads.now a.n 0 _ _ (sym c.test_all.ensures ∙ c.in_err-test_all.was)))

pub invariant_of-day : goal.invariant_of-day
invariant_of-day c = let a = c.args in
    let z = sizes a.n a.m (sym c.are_sizes.ensures ∙ c.if-not-are_sizes.false) in
    let l = inputs a.n a.m a.values.now a.spreads.now a.balances.now a.still.now (sym c.are_inputs.ensures ∙ c.if-not-are_inputs.false) in
    record { few_meters = z.0; few_balances = z.1; value = l.0; spread = l.1; balance = l.2; mark = l.3 }

pub solve_all-requires : goal.solve_all-requires
solve_all-requires c = let a = c.args in
    let o = outputs a.n a.numbers.now a.groups.now a.marks.now (sym c.are_outputs.ensures ∙ c.if-not-are_outputs.false) in
    let r = room-ge a.w.now a.iw.now (sym c.is_room.ensures ∙ c.if-not-is_room.false) in
    (o.0, o.1, o.2, r.0, r.1)

pub returns : goal.returns
returns c = let a = c.args in
    all-passed _ _ _ _ (suspect a.n a.m a.values.now a.spreads.now a.balances.now a.still.now) c.solve_all.result _ _ _ _ _ _ _ _ _ _ (sym c.are_sizes.ensures ∙ c.if-not-are_sizes.false) (both_true _ _ (sym c.are_inputs.ensures ∙ c.if-not-are_inputs.false) (sym c.are_outputs.ensures ∙ c.if-not-are_outputs.false)) (sym c.is_room.ensures ∙ c.if-not-is_room.false)
    (all_pass a.values.now a.spreads.now a.n 0 _ (sym c.test_all.ensures ∙ c.in_ok-test_all.was)) c.solve_all.ensures
