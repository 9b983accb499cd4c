-- `go_on`: at j the total is the sum of the first j products, and q is the place of entry (i, j).
use mathlib.Core.Path.{◌≡◌}
use Prim.Native.Nat.{◌+◌, ◌≤◌, ◌-◌}
use Rattle.numbers.specs.Numbers.{Σ, at, ◌⊗◌}
use Rattle.hessian_packed.specs.Packed.{count, place}
use Rattle.hessian_packed.proofs.go_on.Given as goal

abbrev pub invariant-loop-j : goal.invariant-loop-j
invariant-loop-j l = (l.i + 1 ≤ l.j) × (l.j ≤ l.n) × (l.q ≡ count l.j + l.i) × (l.total ≡ Σ l.j (λ k. at l.p (place l.i k) ⊗ at l.v k))

abbrev pub decreases-loop-j : goal.decreases-loop-j
decreases-loop-j l = l.n - l.j
