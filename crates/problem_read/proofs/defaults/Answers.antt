-- `defaults`: after i turns the first i places hold their defaults.
use native.Mathlib.Omega.{arith}
use Rattle.numbers.proofs.Fills.{fill_none, fill_more, fill-all}
use Rattle.problem_read.specs.inner.Spots.{default_values}
use Rattle.problem_read.proofs.defaults.Goals as goal

pub loop-i-init : goal.loop-i-init
loop-i-init c = fill_none _ _

pub loop-i-preserved : goal.loop-i-preserved
loop-i-preserved c = fill_more c.loop-i.invariant (omega arith) c.default_at.ensures

pub returns : goal.returns
unfolding default_values
returns c = fill-all c.loop-i.invariant (omega arith) (omega arith)
