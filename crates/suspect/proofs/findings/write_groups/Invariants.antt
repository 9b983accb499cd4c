-- `write_groups`: after i turns i groups are written.
use mathlib.Core.Path.{◌≡◌}
use Prim.Native.Nat.{◌-◌, ◌≤◌}
use lib.ListN.{length}
use Rattle.workspace.specs.Readings.{vec, stack, Span}
use Rattle.suspect.specs.Suspect.{group_of}
use Rattle.suspect.proofs.findings.write_groups.Given as goal

abbrev pub invariant-loop-i : goal.invariant-loop-i
invariant-loop-i l = (l.i ≤ l.n) × (length l.iw ≡ length l.initial.iw) × Span 18 l.i (λ t. group_of l.n l.r (stack 732 l.n l.n l.w) (vec 1020 l.n l.w) t t) l.initial.iw l.iw

abbrev pub decreases-loop-i : goal.decreases-loop-i
decreases-loop-i l = l.n - l.i
