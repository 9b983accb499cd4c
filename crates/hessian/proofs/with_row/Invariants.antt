-- `with_row`: after j turns row i has its first j entries.
use mathlib.Core.Path.{◌≡◌}
use Prim.Native.Nat.{◌*◌, ◌≤◌, ◌-◌}
use lib.ListN.{length}
use Rattle.hessian.specs.Hessian.{with_row}
use Rattle.hessian.proofs.with_row.Given as goal

abbrev pub invariant-loop-j : goal.invariant-loop-j
invariant-loop-j l = (l.j ≤ l.i) × (l.l ≡ with_row l.n l.b l.i l.initial.l l.j) × (length l.l ≡ l.n * l.n)

abbrev pub decreases-loop-j : goal.decreases-loop-j
decreases-loop-j l = l.i - l.j
