-- `run_lsi`: the problem in, and the kernel.
use mathlib.Core.Path.{◌∙◌}
use native.Mathlib.Omega.{arith}
use Rattle.lsei_call.proofs.run_lsi.Goals as goal

pub load_lsi-requires : goal.load_lsi-requires
load_lsi-requires c = let p = c.requires in (p.0, p.1)

pub solve_lsi-requires : goal.solve_lsi-requires
solve_lsi-requires c = let p = c.requires in omega (arith, p.0.rows.n17, p.0.e17, p.0.rows.m66, p.1, p.2, c.load_lsi.auto.w)

pub shape_of-w : goal.shape_of-w
shape_of-w c = c.solve_lsi.auto.w ∙ c.load_lsi.auto.w

pub shape_of-iw : goal.shape_of-iw
shape_of-iw c = c.solve_lsi.auto.iw

pub returns : goal.returns
returns c = let a = c.args in
    let L = c.load_lsi in
    c.solve_lsi.ensures ∙ rw (L.ensures.matrix, L.ensures.side, L.ensures.rows, L.ensures.bounds)
