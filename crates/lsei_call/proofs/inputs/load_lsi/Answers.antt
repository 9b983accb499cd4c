-- `load_lsi`: E, f, and the inequalities.
use mathlib.Core.Path.{◌∙◌}
use native.Mathlib.Omega.{arith}
use Rattle.lsei_call.proofs.Loading.{lsi-loaded}
use Rattle.lsei_call.proofs.inputs.load_lsi.Goals as goal

pub load_matrix-requires : goal.load_matrix-requires
load_matrix-requires c = let p = c.requires in (omega (arith, p.0.e17), omega (arith, p.0.rows.n17), p.0.le, omega (arith, p.0.rows.n17, p.1))

pub load-requires : goal.load-requires
load-requires c = let p = c.requires in (omega (arith, p.0.lf), omega (arith, p.0.e17, p.1, c.load_matrix.auto.w))

pub load_rows-requires : goal.load_rows-requires
load_rows-requires c = let p = c.requires in (p.0.rows, omega (arith, p.0.rows.m66, p.0.rows.n17, p.1, c.load.auto.w, c.load_matrix.auto.w))

pub shape_of-w : goal.shape_of-w
shape_of-w c = c.load_rows.auto.w ∙ c.load.auto.w ∙ c.load_matrix.auto.w

pub returns : goal.returns
returns c = let a = c.args in
    let p = c.requires.0 in
    let E = c.load_matrix in
    let F = c.load in
    let R = c.load_rows in
    lsi-loaded a.n a.me a.mg a.e.now a.f.now a.g.now a.h.now a.w.now E.new.w F.new.w R.new.w p.rows.n17 p.e17 p.lf
    E.ensures F.ensures R.ensures
