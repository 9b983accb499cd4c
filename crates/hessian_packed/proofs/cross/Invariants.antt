-- `cross`: after t turns t entries from i on are written, and q is the place of the next.
use mathlib.Core.Path.{◌≡◌}
use Prim.Native.Nat.{◌+◌, ◌≤◌, ◌-◌}
use Rattle.numbers.specs.Numbers.{at}
use Rattle.numbers.proofs.Fills.{Put}
use Rattle.hessian_packed.specs.Packed.{count}
use Rattle.hessian_packed.proofs.cross.Given as goal

abbrev pub invariant-loop-t : goal.invariant-loop-t
invariant-loop-t l = (l.t ≤ l.c) × (l.q ≡ count (l.i + l.t) + l.i) × Put l.i l.t (λ k. at l.p (count (l.i + k) + l.i)) l.initial.x l.x

abbrev pub decreases-loop-t : goal.decreases-loop-t
decreases-loop-t l = l.c - l.t
