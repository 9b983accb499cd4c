-- `write_tests`: after i turns i tests are written.
use mathlib.Core.Path.{◌≡◌}
use Prim.Native.Nat.{◌-◌, ◌≤◌}
use lib.ListN.{length}
use Rattle.numbers.specs.Numbers.{at}
use Rattle.workspace.specs.Readings.{vec, stack, Block}
use Rattle.suspect.specs.Suspect.{correction, test_of}
use Rattle.suspect.proofs.measure.write_tests.Given as goal

abbrev pub invariant-loop-i : goal.invariant-loop-i
invariant-loop-i l = (l.i ≤ l.n) × (length l.w ≡ length l.initial.w) × Block 1056 l.i (λ t. test_of (at (vec 1020 l.n l.initial.w) t) (correction l.n l.r (stack 732 l.n l.n l.initial.w) (vec 714 l.r l.initial.w) t)) l.initial.w l.w

abbrev pub decreases-loop-i : goal.decreases-loop-i
decreases-loop-i l = l.n - l.i
