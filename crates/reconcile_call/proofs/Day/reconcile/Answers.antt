-- `Day::reconcile`: the tests in their order, meter by meter, then the arithmetic.
use mathlib.Core.Path.{sym, ◌∙◌}
use native.Mathlib.Omega.{arith}
use Rattle.std.proofs.lemmas.Result.{err_from_is_err_and}
use Rattle.workspace.proofs.Tests.{room-ge}
use Rattle.reconcile_call.proofs.Calls.{meter-refused, all-passed, sizes, lengths}
use Rattle.reconcile_call.proofs.Testing.{all_pass, all-stop, readings}
use Rattle.reconcile_call.proofs.Day.reconcile.Goals as goal

pub returns-in_err-test_meters : goal.returns-in_err-test_meters
returns-in_err-test_meters c = let a = c.args in
    let p = err_from_is_err_and c.from_residual.result c.from_residual.ensures.1 in
    rw (p.1, p.2) (meter-refused _ _ _ _ _ a.volumes.now a.named.now a.w.now a.iw.now _ (sym c.are_sizes.ensures ∙ c.if-not-are_sizes.false) (sym c.are_lengths.ensures ∙ c.if-not-are_lengths.false) (sym c.is_room.ensures ∙ c.if-not-is_room.false)
    (all-stop a.before.now a.after.now a.spreads.now a.n 0 _ _ (sym c.test_meters.ensures ∙ c.in_err-test_meters.was)))

pub solve_all-requires : goal.solve_all-requires
solve_all-requires c = let a = c.args in
    let z = sizes a.n a.m (sym c.are_sizes.ensures ∙ c.if-not-are_sizes.false) in
    let l = lengths a.n a.m a.before.now a.after.now a.spreads.now a.balances.now a.volumes.now a.named.now (sym c.are_lengths.ensures ∙ c.if-not-are_lengths.false) in
    let r = room-ge a.w.now a.iw.now (sym c.is_room.ensures ∙ c.if-not-is_room.false) in
    let q = readings a.before.now a.after.now a.spreads.now a.n (sym c.test_meters.ensures ∙ c.in_ok-test_meters.was) in
    (record { n16 = z.0; lb = l.0; la = l.1; ls = l.2; old = λ i h. (q i (omega (arith, l.0))).0; new = λ i h. (q i (omega (arith, l.1))).1 }, z.1, l.3, l.4, l.5, r.0, r.1)

pub returns : goal.returns
returns c = let a = c.args in
    all-passed _ _ _ _ _ _ c.solve_all.result _ _ _ _ _ _ _ _ (sym c.are_sizes.ensures ∙ c.if-not-are_sizes.false) (sym c.are_lengths.ensures ∙ c.if-not-are_lengths.false) (sym c.is_room.ensures ∙ c.if-not-is_room.false)
    (all_pass a.before.now a.after.now a.spreads.now a.n 0 _ (sym c.test_meters.ensures ∙ c.in_ok-test_meters.was)) c.solve_all.ensures
