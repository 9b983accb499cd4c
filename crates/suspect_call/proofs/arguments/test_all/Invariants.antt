-- `tests/test_all`: what is still to test gives the answer.
use mathlib.Core.Path.{◌≡◌}
use Prim.Native.Nat.{◌-◌, ◌≤◌}
use Rattle.suspect_call.specs.inner.Work.{tested_outcome}
use Rattle.suspect_call.proofs.arguments.test_all.Given as goal

abbrev pub invariant-loop-i : goal.invariant-loop-i
invariant-loop-i l = (l.i ≤ l.n) × (tested_outcome l.values l.spreads l.n 0 ≡ tested_outcome l.values l.spreads (l.n - l.i) l.i)

abbrev pub decreases-loop-i : goal.decreases-loop-i
decreases-loop-i l = l.n - l.i
