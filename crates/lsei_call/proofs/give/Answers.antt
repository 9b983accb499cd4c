-- `give`: nothing, or x and the multipliers.
use mathlib.Core.List.{◌++◌}
use Rattle.workspace.specs.Readings.{vec}
use Rattle.lsei_call.proofs.Giving.{given-none, given-all}
use Rattle.std.proofs.lemmas.Result.{err_from_is_err_and}
use Rattle.lsei_call.proofs.give.Goals as goal

pub returns-in_err-ending : goal.returns-in_err-ending
returns-in_err-ending c = let a = c.args in
    let p = err_from_is_err_and c.from_residual.result c.from_residual.ensures.1 in
    rw (p.1, p.2) (given-none a.ending (record { x = vec a.p a.n a.w.now; multipliers = vec a.q a.c a.w.now ++ vec a.r a.m a.w.now }) _ a.x.now a.l.now c.in_err-ending.was)

pub unload-requires : goal.unload-requires
unload-requires c = let p = c.requires in (p.0, p.3)

pub give_multipliers-requires : goal.give_multipliers-requires
give_multipliers-requires c = let p = c.requires in (p.1, p.2, p.4)

pub shape_of-x : goal.shape_of-x
shape_of-x c = c.unload.auto.v

pub shape_of-l : goal.shape_of-l
shape_of-l c = c.give_multipliers.auto.l

pub returns : goal.returns
returns c = let a = c.args in
    given-all a.ending (record { x = vec a.p a.n a.w.now; multipliers = vec a.q a.c a.w.now ++ vec a.r a.m a.w.now }) a.x.now _ a.l.now _ c.in_ok-ending.was c.unload.ensures c.give_multipliers.ensures
