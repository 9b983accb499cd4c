-- `pack`: after i turns the first i rows are written.
use Prim.Native.Nat.{◌≤◌, ◌-◌}
use Rattle.numbers.specs.Numbers.{entry}
use Rattle.hessian_packed.proofs.Triangles.{Rising}
use Rattle.hessian_packed.proofs.pack.Given as goal

abbrev pub invariant-loop-i : goal.invariant-loop-i
invariant-loop-i l = (l.i ≤ l.n) × Rising l.i (λ k j. entry l.n l.square k j) l.initial.p l.p

abbrev pub decreases-loop-i : goal.decreases-loop-i
decreases-loop-i l = l.n - l.i
