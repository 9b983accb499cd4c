-- `solve_ldp`: the dual's right side, NNLS, and what is made of its answer.
use mathlib.Core.Path.{◌∙◌}
use native.Mathlib.Omega.{arith}
use Rattle.lsei.specs.inner.Work.{distance_in}
use Rattle.lsei.proofs.Dual.{side₂, ldp-capped, ldp-ended}
use Rattle.lsei.proofs.solve_ldp.Goals as goal

pub write_side-requires : goal.write_side-requires
write_side-requires c = omega arith

pub overflow_add-n : goal.overflow_add-n
overflow_add-n c = omega arith

pub overflow_mul-m : goal.overflow_mul-m
overflow_mul-m c = omega arith

pub solve_in-e-requires : goal.solve_in-e-requires
solve_in-e-requires c = omega (arith, c.write_side.auto.w, c.requires)

pub finish-ending-requires : goal.finish-ending-requires
finish-ending-requires c = let a = c.args in
    let B = c.write_side in
    let N = c.solve_in-e in
    (c.requires.0, c.requires.1, omega (arith, N.auto.w, B.auto.w, c.requires), side₂ a.m a.n a.w.now B.new.w N.new.w a.iw.now N.new.iw N.result c.requires.0 c.requires.1 B.ensures N.ensures)

pub shape_of-w-in-Err : goal.shape_of-w-in-Err
shape_of-w-in-Err c = c.solve_in-e.auto.w ∙ c.write_side.auto.w

pub shape_of-iw-in-Err : goal.shape_of-iw-in-Err
shape_of-iw-in-Err c = c.solve_in-e.auto.iw

pub returns-in-Err : goal.returns-in-Err
returns-in-Err c = let a = c.args in
    let B = c.write_side in
    let N = c.solve_in-e in
    ldp-capped a.m a.n a.w.now B.new.w N.new.w a.iw.now N.new.iw N.result c.requires.0 c.requires.1 B.ensures N.ensures
    _ c.in-Err.is (distance_in a.m a.n N.new.w)

pub shape_of-w-in-Ok : goal.shape_of-w-in-Ok
shape_of-w-in-Ok c = c.finish-ending.auto.w ∙ c.solve_in-e.auto.w ∙ c.write_side.auto.w

pub shape_of-iw-in-Ok : goal.shape_of-iw-in-Ok
shape_of-iw-in-Ok c = c.solve_in-e.auto.iw

pub returns-in-Ok : goal.returns-in-Ok
returns-in-Ok c = let a = c.args in
    let B = c.write_side in
    let N = c.solve_in-e in
    let F = c.finish-ending in
    ldp-ended a.m a.n a.w.now B.new.w N.new.w a.iw.now N.new.iw N.result c.requires.0 c.requires.1 B.ensures N.ensures
    _ c.in-Ok.is F.result (distance_in a.m a.n F.new.w) F.ensures
