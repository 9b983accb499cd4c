-- `put_doubts`: after j turns j lines are written.
use mathlib.Core.Path.{◌≡◌}
use Prim.Native.Nat.{◌+◌, ◌-◌, ◌*◌, ◌≤◌}
use lib.ListN.{length}
use Rattle.ascii.proofs.Writing.{Writing}
use Rattle.day_text.specs.Report.{doubts_text}
use Rattle.day_text.proofs.head.put_doubts.Given as goal

abbrev pub invariant-loop-j : goal.invariant-loop-j
invariant-loop-j l = (l.j ≤ l.d) × Writing l.initial.out l.at (doubts_text l.d 0 l.texts) l.out l.to (doubts_text (l.d - l.j) l.j l.texts) × (length l.out ≡ length l.initial.out) × (l.to ≤ l.at + 79 * l.j)

abbrev pub decreases-loop-j : goal.decreases-loop-j
decreases-loop-j l = l.d - l.j
