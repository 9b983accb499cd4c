-- `give`: nothing, or the volumes and their marks.
use mathlib.Core.Path.{◌∙◌}
use native.Mathlib.Omega.{arith}
use Rattle.lsei_nullspace.specs.inner.Work.{solution_in}
use Rattle.reconcile_call.proofs.Answers.{given-none, given-all}
use Rattle.std.proofs.lemmas.Result.{err_from_is_err_and}
use Rattle.reconcile_call.proofs.give.Goals as goal

pub returns-in_err-ending : goal.returns-in_err-ending
returns-in_err-ending c = let a = c.args in
    let p = err_from_is_err_and c.from_residual.result c.from_residual.ensures.1 in
    rw (p.1, p.2) (given-none a.n a.ending (solution_in a.n a.m a.n a.w.now) _ a.volumes.now a.named.now c.in_err-ending.was)

pub unload-requires : goal.unload-requires
unload-requires c = let p = c.requires in (omega (arith, p.0, p.1), p.2)

pub mark_all-requires : goal.mark_all-requires
mark_all-requires c = let p = c.requires in (c.unload.auto.v ∙ p.2, p.3)

pub shape_of-volumes : goal.shape_of-volumes
shape_of-volumes c = c.unload.auto.v

pub shape_of-named : goal.shape_of-named
shape_of-named c = c.mark_all.auto.marks

pub returns : goal.returns
returns c = let a = c.args in
    given-all a.n a.ending (solution_in a.n a.m a.n a.w.now) a.volumes.now c.unload.new.v a.named.now c.mark_all.new.marks c.in_ok-ending.was c.unload.ensures c.mark_all.ensures
