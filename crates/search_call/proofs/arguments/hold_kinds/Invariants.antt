-- `hold_kinds`: after j turns the kinds that are left decide.
use mathlib.Core.Path.{◌≡◌}
use Prim.Native.Nat.{◌-◌, ◌≤◌}
use lib.ListN.{drop}
use Rattle.workspace.specs.Readings.{nums}
use Rattle.search.specs.Setup.{are_kinds}
use Rattle.search_call.proofs.arguments.hold_kinds.Given as goal

abbrev pub invariant-loop-j : goal.invariant-loop-j
invariant-loop-j l = (l.j ≤ l.m) × (are_kinds (nums 16 l.m l.u) ≡ are_kinds (drop l.j (nums 16 l.m l.u)))

abbrev pub decreases-loop-j : goal.decreases-loop-j
decreases-loop-j l = l.m - l.j
