-- `sum` meets its contract.
use Rattle.numbers.specs.Root.{sum_of}
use Rattle.numbers.proofs.Sums.{Σ-none, Σ-more, Σ-done}
use Rattle.numbers.proofs.sum.Goals as goal

pub loop-x-init : goal.loop-x-init
loop-x-init c = Σ-none _

pub loop-x-preserved : goal.loop-x-preserved
loop-x-preserved c = Σ-more _ _ _ c.loop-x.invariant

pub returns : goal.returns
unfolding sum_of
returns c = Σ-done _ _ _ _ c.loop-x.auto.x-index-end c.loop-x-test.false c.loop-x.invariant
