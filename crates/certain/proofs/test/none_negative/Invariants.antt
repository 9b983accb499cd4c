use mathlib.Core.Bool.{true}
use Rattle.numbers.specs.Numbers.{+0, at}
use Rattle.certain.specs.Bound.{all_below}
use lib.Ieee.{le}
use mathlib.Core.Path.{◌≡◌}
use Rattle.certain.proofs.test.none_negative.Given as goal

abbrev pub invariant-loop-i : goal.invariant-loop-i
invariant-loop-i l = all_below l.i (λ k. le +0 (at l.v k)) ≡ true
