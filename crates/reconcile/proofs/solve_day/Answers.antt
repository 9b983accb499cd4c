-- `solve_day`: the problem in, and LSEI's kernel.
use mathlib.Core.Path.{◌∙◌}
use native.Mathlib.Omega.{arith}
use Rattle.reconcile.specs.Day.{corrected}
use Rattle.reconcile.proofs.solve_day.Goals as goal

pub write_day-requires : goal.write_day-requires
write_day-requires c = let p = c.requires in (p.0, p.1, p.2, p.3)

pub solve_lsei-requires : goal.solve_lsei-requires
solve_lsei-requires c = let p = c.requires in omega (arith, p.0.n16, p.1, p.3, p.4, c.write_day.auto.w)

pub shape_of-w : goal.shape_of-w
shape_of-w c = c.solve_lsei.auto.w ∙ c.write_day.auto.w

pub shape_of-iw : goal.shape_of-iw
shape_of-iw c = c.solve_lsei.auto.iw

pub returns : goal.returns
unfolding corrected
returns c = let d = c.write_day.ensures in c.solve_lsei.ensures ∙ rw (d.the_c, d.the_d, d.the_e, d.the_f, d.the_g, d.the_h)
