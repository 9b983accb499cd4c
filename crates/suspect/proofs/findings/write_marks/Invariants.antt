-- `write_marks`: after i turns i marks are written.
use mathlib.Core.Path.{◌≡◌}
use Prim.Native.Nat.{◌-◌, ◌≤◌}
use lib.ListN.{length}
use Rattle.workspace.specs.Readings.{vec, stack, Span}
use Rattle.suspect.specs.Suspect.{mark_unless}
use Rattle.suspect.proofs.findings.write_marks.Given as goal

abbrev pub invariant-loop-i : goal.invariant-loop-i
invariant-loop-i l = (l.i ≤ l.n) × (length l.iw ≡ length l.initial.iw) × Span 36 l.i (mark_unless l.agree l.n l.r (stack 732 l.n l.n l.w) (vec 1020 l.n l.w) (vec 1056 l.n l.w) l.best) l.initial.iw l.iw

abbrev pub decreases-loop-i : goal.decreases-loop-i
decreases-loop-i l = l.n - l.i
