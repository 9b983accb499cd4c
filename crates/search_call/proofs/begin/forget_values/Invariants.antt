-- `forget_values`: after j turns j values are not known.
use mathlib.Core.Path.{◌≡◌}
use Prim.Native.Nat.{◌+◌, ◌-◌, ◌≤◌}
use lib.ListN.{length}
use lib.Ieee.{nan}
use Rattle.workspace.specs.Readings.{Block}
use Rattle.search_call.proofs.begin.forget_values.Given as goal

abbrev pub invariant-loop-j : goal.invariant-loop-j
invariant-loop-j l = (l.j ≤ l.m + 1) × (l.j-end ≡ l.m + 1) × (length l.f ≡ length l.initial.f) × Block 128 l.j (λ t. nan) l.initial.f l.f

abbrev pub decreases-loop-j : goal.decreases-loop-j
decreases-loop-j l = l.m + 1 - l.j
