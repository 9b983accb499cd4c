-- `along_into`: after i turns i coordinates are written, and what is read is as it was.
use mathlib.Core.Path.{◌≡◌}
use Prim.Native.Nat.{◌+◌, ◌-◌, ◌≤◌}
use lib.ListN.{length}
use Rattle.numbers.specs.Numbers.{at, ◌⊕◌, ◌⊗◌}
use Rattle.workspace.specs.Readings.{Block}
use Rattle.search.specs.Turn.{clip}
use Rattle.search_turn.proofs.along_into.Given as goal

abbrev pub invariant-loop-i : goal.invariant-loop-i
invariant-loop-i l = (l.i ≤ l.n) × (length l.f ≡ length l.initial.f) × Block l.o l.i (λ j. clip (at l.initial.f (16 + j)) (at l.initial.f (32 + j)) (at l.initial.f (48 + j) ⊕ l.alpha ⊗ at l.initial.f (64 + j))) l.initial.f l.f

abbrev pub decreases-loop-i : goal.decreases-loop-i
decreases-loop-i l = l.n - l.i
