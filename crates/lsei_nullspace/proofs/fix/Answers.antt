-- `fix`: permuted, in place, and under R'^-1.
use mathlib.Core.Path.{◌∙◌}
use native.Mathlib.Omega.{arith}
use Rattle.lsei_nullspace.proofs.Joining.{fixed-is}
use Rattle.lsei_nullspace.proofs.fix.Goals as goal

pub pick-requires : goal.pick-requires
pick-requires c = (omega arith, omega arith, c.requires.2, λ t h. omega (arith, c.requires.3 t h))

pub copy_up-requires : goal.copy_up-requires
copy_up-requires c = omega (arith, c.pick.auto.w, c.requires)

pub solve_rt-requires : goal.solve_rt-requires
solve_rt-requires c = omega (arith, c.copy_up.auto.w, c.pick.auto.w, c.requires)

pub shape_of-w : goal.shape_of-w
shape_of-w c = c.solve_rt.auto.w ∙ c.copy_up.auto.w ∙ c.pick.auto.w

pub returns : goal.returns
returns c = let a = c.args in
    let P = c.pick in
    let C = c.copy_up in
    let S = c.solve_rt in
    fixed-is a.mc a.iw.now a.w.now P.new.w C.new.w S.new.w c.requires.0 c.requires.3 P.ensures C.ensures S.ensures
