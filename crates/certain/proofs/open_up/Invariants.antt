use Rattle.numbers.specs.Numbers.{at}
use Rattle.certain.specs.Bound.{open_term, row_within}
use Rattle.interval.specs.Intervals.{sum_up}
use mathlib.Core.Path.{◌≡◌}
use Rattle.certain.proofs.open_up.Given as goal

abbrev pub invariant-loop-j : goal.invariant-loop-j
invariant-loop-j l = l.sum ≡ sum_up l.j (λ k. open_term (at l.y k) (row_within l.n k l.balances l.x))
