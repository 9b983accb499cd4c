-- `identity_into`: after i turns the first i rows are written.
use Prim.Native.Nat.{◌≤◌, ◌-◌}
use mathlib.Core.Bool.{cond}
use lib.Dec.{eqb}
use Rattle.numbers.specs.Numbers.{+0, one}
use Rattle.numbers.proofs.Fills.{Rows}
use Rattle.hessian.proofs.identity_into.Given as goal

abbrev pub invariant-loop-i : goal.invariant-loop-i
invariant-loop-i l = (l.i ≤ l.n) × Rows l.i l.n (λ i' j. cond (eqb i' j) one +0) l.initial.out l.out

abbrev pub decreases-loop-i : goal.decreases-loop-i
decreases-loop-i l = l.n - l.i
