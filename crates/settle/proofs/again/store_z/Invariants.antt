use mathlib.Core.Path.{◌≡◌}
use Prim.Native.Nat.{◌+◌, ◌-◌, ◌≤◌}
use lib.ListN.{length}
use Rattle.workspace.specs.Readings.{vec, nums, Block}
use Rattle.settle.specs.Settle as Definition
use Rattle.settle.proofs.again.store_z.Given as goal

abbrev pub invariant-loop-k : goal.invariant-loop-k
invariant-loop-k l = (l.k ≤ l.p) × (length l.w ≡ length l.initial.w) × Block 6150 l.k (λ u. Definition.witness l.m l.c (nums 300 l.c l.iw) (vec 360 (l.m + l.c) l.initial.w) u) l.initial.w l.w

abbrev pub decreases-loop-k : goal.decreases-loop-k
decreases-loop-k l = l.p - l.k
