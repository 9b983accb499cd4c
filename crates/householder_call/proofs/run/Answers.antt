use mathlib.Core.Path.{ap, ◌∙◌}
use Rattle.householder.specs.Qr.{factor}
use Rattle.householder_call.proofs.run.Goals as goal

pub returns : goal.returns
returns c = let a = c.args in
    c.factor_in.ensures ∙ ap (factor a.m a.n) c.load_matrix.ensures.matrix
