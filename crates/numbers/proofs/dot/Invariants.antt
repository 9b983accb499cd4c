-- `dot` is the sum of the products: after k turns t is the sum of the first k.
use mathlib.Core.Path.{◌≡◌}
use Rattle.numbers.specs.Numbers.{dot}
use Rattle.numbers.proofs.dot.Given as goal

abbrev pub invariant-loop-k : goal.invariant-loop-k
invariant-loop-k l = l.t ≡ dot l.k l.a l.b
