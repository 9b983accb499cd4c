-- `write_target`: the gradient in, solved for, and negated.
use mathlib.Core.Path.{ap, ◌∙◌}
use native.Mathlib.Omega.{arith}
use mathlib.Core.List.{List, map}
use lib.Ieee.{Float, neg}
use Rattle.numbers.specs.Numbers.{transposed}
use Rattle.householder.specs.Qr.{downward}
use Rattle.step.specs.Step.{target}
use Rattle.step.proofs.Target.{loaded-front}
use Rattle.step.proofs.assembly.write_target.Goals as goal

pub returns : goal.returns
unfolding target
returns c = let p = c.args.p.now in
    c.negate.ensures
    ∙ ap (map neg)
    (c.substitute.ensures
    ∙ ap (λ (y : List Float). downward p.n (transposed p.n p.n p.factor.now) p.n y) (loaded-front _ _ _ _ (omega arith) c.load.ensures))
