-- `factor`: after i turns L has its first i rows.
use mathlib.Core.Path.{◌≡◌}
use mathlib.Core.Bool.{true}
use Prim.Native.Nat.{◌*◌, ◌≤◌, ◌-◌}
use lib.ListN.{length}
use Rattle.hessian.specs.Hessian.{first_rows}
use Rattle.hessian.specs.inner.Work.{made_of}
use Rattle.hessian.proofs.factor.Given as goal

abbrev pub invariant-loop-i : goal.invariant-loop-i
invariant-loop-i l = (l.i ≤ l.n) × (made_of true l.l ≡ first_rows l.n l.b l.i) × (length l.l ≡ l.n * l.n)

abbrev pub decreases-loop-i : goal.decreases-loop-i
decreases-loop-i l = l.n - l.i
