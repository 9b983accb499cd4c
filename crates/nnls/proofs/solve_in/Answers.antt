-- `solve_in`, of its steps.
use mathlib.Core.Path.{ap}
use native.Mathlib.Omega.{arith}
use Rattle.nnls.specs.inner.State.{State, read}
use Rattle.nnls.proofs.States.{read-start}
use Rattle.nnls.proofs.Rounding.{nnls-whole}
use Rattle.nnls.proofs.solve_in.Goals as goal

pub run_rounds-requires : goal.run_rounds-requires
run_rounds-requires c = let a = c.args in
    let v₁ = c.blank in
    let v₂ = c.blank_words in
    let e = read-start a.m a.n a.w.now v₁.new.w c.requires.0 c.requires.1 a.iw.now v₂.new.iw v₁.ensures v₂.ensures in
    (c.requires.0, c.requires.1, omega (arith, v₁.auto.w, c.requires.2), omega (arith, v₂.auto.iw, c.requires.3), c.requires.4, ap (λ (q : State). q.x) e, ap (λ (q : State). q.passive) e)

pub returns : goal.returns
returns c = let a = c.args in
    let v₁ = c.blank in
    let v₂ = c.blank_words in
    let v₃ = c.run_rounds in
    nnls-whole a.m a.n a.k (read a.m a.n a.w.now a.iw.now) (read a.m a.n v₁.new.w v₂.new.iw)
    (read a.m a.n v₃.new.w v₃.new.iw) v₃.result
    (read-start a.m a.n a.w.now v₁.new.w c.requires.0 c.requires.1 a.iw.now v₂.new.iw v₁.ensures v₂.ensures)
    v₃.ensures
