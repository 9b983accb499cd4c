-- `dot_within` is the sum of the products.
use Rattle.numbers.proofs.Sums.{Σ-none, Σ-more}
use Rattle.numbers.proofs.dot_within.Goals as goal

pub loop-k-init : goal.loop-k-init
loop-k-init c = Σ-none _

pub loop-k-preserved : goal.loop-k-preserved
loop-k-preserved c = Σ-more _ _ _ c.loop-k.invariant
