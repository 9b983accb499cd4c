-- `run_ldp`: the problem in, and the kernel.
use mathlib.Core.Path.{ap₂, ◌∙◌}
use native.Mathlib.Omega.{arith}
use Rattle.lsei.specs.Lsei as Definition
use Rattle.lsei_call.proofs.run_ldp.Goals as goal

pub load_rows-requires : goal.load_rows-requires
load_rows-requires c = let p = c.requires in (p.0, omega (arith, p.0.m66, p.0.n17, p.1))

pub solve_ldp-requires : goal.solve_ldp-requires
solve_ldp-requires c = let p = c.requires in omega (arith, p.0.m66, p.0.n17, p.1, p.2, c.load_rows.auto.w)

pub shape_of-w : goal.shape_of-w
shape_of-w c = c.solve_ldp.auto.w ∙ c.load_rows.auto.w

pub shape_of-iw : goal.shape_of-iw
shape_of-iw c = c.solve_ldp.auto.iw

pub returns : goal.returns
returns c = let a = c.args in
    let L = c.load_rows in
    c.solve_ldp.ensures ∙ ap₂ (Definition.ldp a.m a.n) L.ensures.rows L.ensures.bounds
