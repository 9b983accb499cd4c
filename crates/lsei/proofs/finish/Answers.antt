-- `finish`: the residual, the test of its last entry, and two quotients.
use mathlib.Core.Path.{◌∙◌}
use native.Mathlib.Omega.{arith}
use Rattle.lsei.proofs.Dual.{not-finished, finished, lit-infeasibility}
use Rattle.lsei.proofs.finish.Goals as goal

pub overflow_add-n : goal.overflow_add-n
overflow_add-n c = omega arith

pub residual_all-requires : goal.residual_all-requires
residual_all-requires c = omega arith

pub overflow_add-d : goal.overflow_add-d
overflow_add-d c = omega arith

pub offset_bounds-w-n : goal.offset_bounds-w-n
offset_bounds-w-n c = omega arith

pub bounds-w-n : goal.bounds-w-n
bounds-w-n c = omega (arith, c.residual_all.auto.w)

pub shape_of-w-then-d : goal.shape_of-w-then-d
shape_of-w-then-d c = c.residual_all.auto.w

pub returns-then-d : goal.returns-then-d
returns-then-d c = let a = c.args in
    let R = c.residual_all in
    not-finished a.m a.n a.w.now R.new.w c.requires.0 c.requires.1 c.requires.3 R.ensures _ lit-infeasibility c.if-d.true

pub divide-requires : goal.divide-requires
divide-requires c = omega (arith, c.residual_all.auto.w, c.requires)

pub divide-requires-2 : goal.divide-requires-2
divide-requires-2 c = omega (arith, c.divide.auto.w, c.residual_all.auto.w, c.requires)

pub shape_of-w : goal.shape_of-w
shape_of-w c = c.divide-2.auto.w ∙ c.divide.auto.w ∙ c.residual_all.auto.w

pub returns : goal.returns
returns c = let a = c.args in
    let R = c.residual_all in
    let X = c.divide in
    let U = c.divide-2 in
    finished a.m a.n a.w.now R.new.w c.requires.0 c.requires.1 c.requires.3 R.ensures _ X.new.w U.new.w lit-infeasibility
    c.if-d.false X.ensures U.ensures
