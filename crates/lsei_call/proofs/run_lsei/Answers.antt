-- `run_lsei`: the problem in, and the kernel.
use mathlib.Core.Path.{◌∙◌}
use native.Mathlib.Omega.{arith}
use Rattle.lsei_call.proofs.run_lsei.Goals as goal

pub load_lsei-requires : goal.load_lsei-requires
load_lsei-requires c = let p = c.requires in (p.0, p.1)

pub solve_lsei-requires : goal.solve_lsei-requires
solve_lsei-requires c = let p = c.requires in omega (arith, p.0.others.rows.n17, p.0.c16, p.0.others.e17, p.0.others.rows.m66, p.1, p.2, c.load_lsei.auto.w)

pub shape_of-w : goal.shape_of-w
shape_of-w c = c.solve_lsei.auto.w ∙ c.load_lsei.auto.w

pub shape_of-iw : goal.shape_of-iw
shape_of-iw c = c.solve_lsei.auto.iw

pub returns : goal.returns
returns c = let a = c.args in
    let L = c.load_lsei in
    c.solve_lsei.ensures ∙ rw (L.ensures.equalities, L.ensures.values, L.ensures.matrix, L.ensures.side, L.ensures.rows, L.ensures.bounds)
