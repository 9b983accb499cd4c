use mathlib.Core.Path.{◌≡◌}
use Prim.Native.Nat.{◌+◌, ◌-◌, ◌≤◌}
use Rattle.workspace.specs.Readings.{vec, nums}
use Rattle.settle.specs.Settle as Definition
use Rattle.settle.proofs.again.witness.Given as goal

abbrev pub invariant-loop-t : goal.invariant-loop-t
invariant-loop-t l = (l.t ≤ l.c) × (l.z ≡ Definition.witness l.m l.t (nums 300 l.c l.iw) (vec 360 (l.m + l.c) l.w) l.k)

abbrev pub decreases-loop-t : goal.decreases-loop-t
decreases-loop-t l = l.c - l.t
