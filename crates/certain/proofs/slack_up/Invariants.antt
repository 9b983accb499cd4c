use Rattle.numbers.specs.Numbers.{at}
use Rattle.certain.specs.Bound.{slack_term, row_within}
use Rattle.interval.specs.Intervals.{sum_up}
use mathlib.Core.Path.{◌≡◌}
use Rattle.certain.proofs.slack_up.Given as goal

abbrev pub invariant-loop-k : goal.invariant-loop-k
invariant-loop-k l = l.sum ≡ sum_up l.k (λ i. slack_term (at l.z i) (at l.least i) (row_within l.n i l.limits l.x))
