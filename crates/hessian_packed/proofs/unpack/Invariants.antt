-- `unpack`: after i turns the first i rows are written.
use Prim.Native.Nat.{◌≤◌, ◌-◌}
use Rattle.numbers.specs.Numbers.{at}
use Rattle.numbers.proofs.Fills.{Rows}
use Rattle.hessian_packed.specs.Packed.{place}
use Rattle.hessian_packed.proofs.unpack.Given as goal

abbrev pub invariant-loop-i : goal.invariant-loop-i
invariant-loop-i l = (l.i ≤ l.n) × Rows l.i l.n (λ k j. at l.p (place k j)) l.initial.square l.square

abbrev pub decreases-loop-i : goal.decreases-loop-i
decreases-loop-i l = l.n - l.i
