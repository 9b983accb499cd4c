use mathlib.Core.Path.{◌≡◌}
use Prim.Native.Nat.{◌+◌, ◌-◌, ◌*◌, ◌≤◌}
use Rattle.certain.specs.Bound.{all_below}
use Rattle.numbers.specs.Numbers.{+0, one, at}
use lib.Dec.{eqb}
use lib.Ieee.{eq}
use mathlib.Core.Bool.{true, cond}
use Rattle.settle.proofs.again.is_own.Given as goal

abbrev pub invariant-loop-j : goal.invariant-loop-j
invariant-loop-j l = (l.j ≤ l.n) × (all_below l.j (λ u. eq (at l.limits (l.k * l.n + u)) (cond (eqb u l.i) one +0)) ≡ true)

abbrev pub decreases-loop-j : goal.decreases-loop-j
decreases-loop-j l = l.n - l.j
