use mathlib.Core.Path.{◌≡◌}
use Prim.Native.Nat.{◌+◌, ◌-◌, ◌≤◌}
use lib.ListN.{length}
use Rattle.numbers.specs.Numbers.{at}
use Rattle.lsei.specs.inner.Work.{Spaced}
use Rattle.settle.proofs.problem.load_sides.Given as goal

abbrev pub invariant-loop-k : goal.invariant-loop-k
invariant-loop-k l = (l.k ≤ l.day.p) × (length l.w ≡ length l.initial.w) × Spaced (1056 + l.day.n) l.k (λ i. at l.day.least.now i) l.initial.w l.w

abbrev pub decreases-loop-k : goal.decreases-loop-k
decreases-loop-k l = l.day.p - l.k
