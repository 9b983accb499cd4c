-- `find_lead`: after i turns it is the lead of i meters.
use mathlib.Core.Path.{◌≡◌}
use Prim.Native.Nat.{◌-◌, ◌≤◌}
use Rattle.workspace.specs.Readings.{vec}
use Rattle.suspect.specs.Suspect.{largest}
use Rattle.suspect.proofs.findings.find_lead.Given as goal

abbrev pub invariant-loop-i : goal.invariant-loop-i
invariant-loop-i l = (l.i ≤ l.n) × (l.best ≡ largest (vec 1020 l.n l.w) (vec 1056 l.n l.w) l.i)

abbrev pub decreases-loop-i : goal.decreases-loop-i
decreases-loop-i l = l.n - l.i
