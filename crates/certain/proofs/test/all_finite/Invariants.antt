use mathlib.Core.Bool.{true}
use Rattle.numbers.specs.Numbers.{at}
use Rattle.certain.specs.Bound.{all_below}
use Rattle.interval.specs.Intervals.{is_finite}
use mathlib.Core.Path.{◌≡◌}
use Rattle.certain.proofs.test.all_finite.Given as goal

abbrev pub invariant-loop-i : goal.invariant-loop-i
invariant-loop-i l = all_below l.i (λ k. is_finite (at l.v k)) ≡ true
