-- `times_into`: after i turns the first i entries are written.
use Prim.Native.Nat.{◌≤◌, ◌-◌}
use Rattle.numbers.specs.Numbers.{Σ, at, ◌⊗◌}
use Rattle.numbers.proofs.Fills.{Fill}
use Rattle.hessian_packed.specs.Packed.{place}
use Rattle.hessian_packed.proofs.times_into.Given as goal

abbrev pub invariant-loop-i : goal.invariant-loop-i
invariant-loop-i l = (l.i ≤ l.n) × Fill l.i (λ k. Σ l.n (λ j. at l.p (place k j) ⊗ at l.v j)) l.initial.out l.out

abbrev pub decreases-loop-i : goal.decreases-loop-i
decreases-loop-i l = l.n - l.i
