-- `mark_still`: after i turns i marks are written.
use mathlib.Core.Path.{◌≡◌}
use Prim.Native.Nat.{◌-◌, ◌≤◌}
use lib.ListN.{length}
use Rattle.numbers.specs.Numbers.{at}
use Rattle.workspace.specs.Readings.{Span}
use Rattle.suspect.specs.Suspect.{still_of}
use Rattle.suspect.proofs.mark_still.Given as goal

abbrev pub invariant-loop-i : goal.invariant-loop-i
invariant-loop-i l = (l.i ≤ l.n) × (length l.still ≡ length l.initial.still) × Span 0 l.i (λ t. still_of (at l.values t) (at l.corrected t) (at l.spreads t)) l.initial.still l.still

abbrev pub decreases-loop-i : goal.decreases-loop-i
decreases-loop-i l = l.n - l.i
