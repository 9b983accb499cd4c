-- `times_into`: after i turns the first i entries are written.
use Prim.Native.Nat.{◌≤◌, ◌-◌}
use Rattle.numbers.specs.Numbers.{dot, row}
use Rattle.numbers.proofs.Fills.{Fill}
use Rattle.hessian.proofs.times_into.Given as goal

abbrev pub invariant-loop-i : goal.invariant-loop-i
invariant-loop-i l = (l.i ≤ l.n) × Fill l.i (λ k. dot l.n (row l.n k l.b) l.v) l.initial.out l.out

abbrev pub decreases-loop-i : goal.decreases-loop-i
decreases-loop-i l = l.n - l.i
