-- `theta_of`: the two cases of theta.
use lib.Ieee.{round, of_bits}
use Rattle.hessian.specs.Hessian.{theta}
use Rattle.hessian.proofs.theta_of.Goals as goal

pub returns-then-sy-sbs : goal.returns-then-sy-sbs
unfolding theta round of_bits
returns-then-sy-sbs c = rw c.if-sy-sbs.true

pub returns-else-sy-sbs : goal.returns-else-sy-sbs
unfolding theta round of_bits
returns-else-sy-sbs c = rw c.if-sy-sbs.false
