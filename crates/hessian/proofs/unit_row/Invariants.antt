-- `unit_row`: after j turns the first j entries are written.
use Prim.Native.Nat.{◌≤◌, ◌-◌}
use mathlib.Core.Bool.{cond}
use lib.Dec.{eqb}
use Rattle.numbers.specs.Numbers.{+0, one}
use Rattle.numbers.proofs.Fills.{Fill}
use Rattle.hessian.proofs.unit_row.Given as goal

abbrev pub invariant-loop-j : goal.invariant-loop-j
invariant-loop-j l = (l.j ≤ l.n) × Fill l.j (λ k. cond (eqb l.i k) one +0) l.initial.x l.x

abbrev pub decreases-loop-j : goal.decreases-loop-j
decreases-loop-j l = l.n - l.j
