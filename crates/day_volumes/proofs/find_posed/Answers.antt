-- `find_posed`: refused, or the tables of what is settled.
use mathlib.Core.Path.{refl, ap, ◌∙◌}
use native.Mathlib.Omega.{arith}
use lib.ListN.{length}
use lib.Seq.{length-take-le}
use Rattle.std.proofs.lemmas.Result.{err_from_is_err_and}
use Rattle.day_volumes.proofs.Laid.{signs-length}
use Rattle.day_volumes.proofs.Whole.{posed-done, posed-refused}
use Rattle.day_volumes.proofs.find_posed.Goals as goal

pub returns-in_err-far : goal.returns-in_err-far
returns-in_err-far c = let a = c.args in
    let d = a.day.now in
    let p = err_from_is_err_and c.from_residual.result c.from_residual.ensures.1 in
    let k = rw c.requires.3 at c.settle_day.ensures in
    rw (c.requires.3, p.1, p.2) (posed-refused d.n d.m d.p a.q a.z.now a.f.now d.values.now d.balances.now d.limits.now d.least.now _ _ _ _ _ _ _ refl k c.in_err-far.was c.requires.4.bf c.requires.4.bs)

pub put_within-requires : goal.put_within-requires
put_within-requires c = let p = c.requires in
    (p.0, p.1, c.settle_day.auto.x ∙ length-take-le _ _ (omega (arith, c.args.day.now.few_values, c.number_room-volumes.ensures)), c.tell_tests.auto.signs ∙ ap length p.4.bs ∙ signs-length)

pub returns : goal.returns
returns c = let a = c.args in
    let d = a.day.now in
    let k = rw c.requires.3 at c.settle_day.ensures in
    rw c.requires.3 (posed-done d.n d.m d.p a.q a.z.now a.f.now d.values.now d.balances.now d.limits.now d.least.now d.few_balances c.requires.0 _ _ _ _ _ _ _ _ refl k c.in_ok-far.was c.tell_tests.ensures c.put_within.ensures)
