-- `dot` is the sum of the products.
use Rattle.numbers.specs.Numbers.{dot}
use Rattle.numbers.proofs.Sums.{Σ-none, Σ-more}
use Rattle.numbers.proofs.dot.Goals as goal

pub loop-k-init : goal.loop-k-init
unfolding dot
loop-k-init c = Σ-none _

pub loop-k-preserved : goal.loop-k-preserved
unfolding dot
loop-k-preserved c = Σ-more _ _ _ c.loop-k.invariant
