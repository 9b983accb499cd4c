-- `group_of`: after d turns it is the least of the d meters before i that is tied to i, or i.
use mathlib.Core.Path.{◌≡◌}
use Prim.Native.Nat.{◌-◌, ◌≤◌}
use Rattle.workspace.specs.Readings.{vec, stack}
use Rattle.suspect.specs.Suspect.{group_of}
use Rattle.suspect.proofs.findings.group_of.Given as goal

abbrev pub invariant-loop-d : goal.invariant-loop-d
invariant-loop-d l = (l.d ≤ l.i) × (l.l ≡ group_of l.n l.r (stack 732 l.n l.n l.w) (vec 1020 l.n l.w) l.i l.d) × (l.l ≤ l.i)

abbrev pub decreases-loop-d : goal.decreases-loop-d
decreases-loop-d l = l.i - l.d
