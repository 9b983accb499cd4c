-- `all_within`: after i turns it speaks of i meters.
use mathlib.Core.Path.{◌≡◌}
use Prim.Native.Nat.{◌-◌, ◌≤◌}
use Rattle.workspace.specs.Readings.{vec}
use Rattle.suspect.specs.Suspect.{are_within}
use Rattle.suspect.proofs.findings.all_within.Given as goal

abbrev pub invariant-loop-i : goal.invariant-loop-i
invariant-loop-i l = (l.i ≤ l.n) × (l.all ≡ are_within (vec 1020 l.n l.w) (vec 1056 l.n l.w) l.i)

abbrev pub decreases-loop-i : goal.decreases-loop-i
decreases-loop-i l = l.n - l.i
