-- `clip_into`: after i turns i coordinates are written.
use mathlib.Core.Path.{◌≡◌}
use Prim.Native.Nat.{◌-◌, ◌≤◌}
use lib.ListN.{length}
use Rattle.numbers.specs.Numbers.{at}
use Rattle.workspace.specs.Readings.{Block}
use Rattle.search.specs.Turn.{clip}
use Rattle.search_call.proofs.begin.clip_into.Given as goal

abbrev pub invariant-loop-i : goal.invariant-loop-i
invariant-loop-i l = (l.i ≤ l.n) × (length l.f ≡ length l.initial.f) × Block l.o l.i (λ k. clip (at l.lower k) (at l.upper k) (at l.x k)) l.initial.f l.f

abbrev pub decreases-loop-i : goal.decreases-loop-i
decreases-loop-i l = l.n - l.i
