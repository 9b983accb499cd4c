use mathlib.Core.Path.{◌≡◌}
use Rattle.numbers.specs.Numbers.{at}
use Rattle.interval.specs.Intervals.{sum_within, product}
use Rattle.interval.proofs.dot.Given as goal

abbrev pub invariant-loop-i : goal.invariant-loop-i
invariant-loop-i l = l.sum ≡ sum_within l.i (λ k. product (at l.a k) (at l.b k))
