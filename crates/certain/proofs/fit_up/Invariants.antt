use Rattle.numbers.specs.Numbers.{at}
use Rattle.certain.specs.Bound.{fit_term, pull_within}
use Rattle.interval.specs.Intervals.{sum_up}
use mathlib.Core.Path.{◌≡◌}
use Rattle.certain.proofs.fit_up.Given as goal

abbrev pub invariant-loop-i : goal.invariant-loop-i
invariant-loop-i l = l.sum ≡ sum_up l.i (λ k. fit_term (at l.x k) (at l.values k) (at l.spreads k) (pull_within l.n l.m l.p k l.balances l.limits l.y l.z))
