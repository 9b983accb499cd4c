-- `give`: nothing, or the volumes and their multipliers.
use mathlib.Core.Path.{refl, ◌∙◌}
use Rattle.std.proofs.lemmas.Result.{err_from_is_err_and}
use Rattle.lsei_call.proofs.Giving.{multipliers-are}
use Rattle.settle.specs.inner.Work.{settled_in}
use Rattle.settle_call.proofs.Answers.{given-none, given-all}
use Rattle.settle_call.proofs.give.Goals as goal

pub returns-in_err-far : goal.returns-in_err-far
returns-in_err-far c = let a = c.args in
    let d = a.day.now in
    let p = err_from_is_err_and c.from_residual.result c.from_residual.ensures.1 in
    rw (p.1, p.2) (given-none a.settled (settled_in d.n d.m d.p a.w.now) _ a.volumes.now a.multipliers.now c.in_err-far.was)

pub returns : goal.returns
returns c = let a = c.args in
    let d = a.day.now in
    let A = c.copy_strided in
    let B = c.copy_strided-2 in
    given-all a.settled (settled_in d.n d.m d.p a.w.now) _ a.volumes.now c.unload.new.v a.multipliers.now B.new.dst c.in_ok-far.was refl c.unload.ensures
    (multipliers-are 6048 d.m 6066 d.p a.w.now a.multipliers.now A.new.dst B.new.dst (B.auto.dst ∙ A.auto.dst ∙ c.requires.2) A.ensures B.ensures)
