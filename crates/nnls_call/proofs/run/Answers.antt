-- `run`, of its steps.
use mathlib.Core.Path.{◌∙◌}
use native.Mathlib.Omega.{arith}
use Rattle.nnls_call.proofs.Answers.{ran}
use Rattle.nnls_call.proofs.run.Goals as goal

pub load_matrix-requires : goal.load_matrix-requires
load_matrix-requires c = let s = c.requires in
    (s.0, s.1, s.3, omega arith)

pub load-requires : goal.load-requires
load-requires c = let s = c.requires in
    (omega (arith, s.4), omega (arith, s.0, s.5, c.load_matrix.auto.w))

pub solve_in-requires : goal.solve_in-requires
solve_in-requires c = let s = c.requires in
    (s.0, s.1, omega (arith, s.5, c.load_matrix.auto.w, c.load.auto.w), s.6, s.2)

pub shape_of-w : goal.shape_of-w
shape_of-w c = c.solve_in.auto.w ∙ c.load.auto.w
    ∙ c.load_matrix.auto.w

pub shape_of-iw : goal.shape_of-iw
shape_of-iw c = c.solve_in.auto.iw

pub returns : goal.returns
returns c = let a = c.args in
    let v₁ = c.load_matrix in
    let v₂ = c.load in
    let v₃ = c.solve_in in
    ran a.m a.n a.k a.a.now a.b.now a.w.now v₁.new.w v₂.new.w v₃.result _ _
    c.requires.0 c.requires.1 c.requires.4 v₁.ensures v₂.ensures v₃.ensures
