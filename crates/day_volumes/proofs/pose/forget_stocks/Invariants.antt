use mathlib.Core.Path.{◌≡◌}
use mathlib.Core.Bool.{cond}
use lib.Dec.{eqb}
use Prim.Native.Nat.{◌+◌, ◌-◌, ◌≤◌}
use lib.ListN.{length}
use Rattle.workspace.specs.Readings.{Written}
use Rattle.numbers.specs.Numbers.{nth}
use Rattle.day_volumes.proofs.pose.forget_stocks.Given as goal

abbrev pub invariant-loop-i : goal.invariant-loop-i
invariant-loop-i l = (l.i ≤ l.n) × (length l.still ≡ length l.initial.still) × Written 0 0 l.i (λ k. cond (eqb (nth l.z (32 + k)) 2) 0 (nth l.initial.still k)) l.initial.still l.still

abbrev pub decreases-loop-i : goal.decreases-loop-i
decreases-loop-i l = l.n - l.i
