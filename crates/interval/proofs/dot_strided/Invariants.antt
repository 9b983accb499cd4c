use Prim.Native.Nat.{◌+◌, ◌*◌}
use mathlib.Core.Path.{◌≡◌}
use Rattle.numbers.specs.Numbers.{at}
use Rattle.interval.specs.Intervals.{sum_within, product}
use Rattle.interval.proofs.dot_strided.Given as goal

abbrev pub invariant-loop-i : goal.invariant-loop-i
invariant-loop-i l = l.sum ≡ sum_within l.i (λ k. product (at l.xs (l.a + k * l.s)) (at l.ys (l.b + k * l.t)))
