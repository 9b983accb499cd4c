-- `gaps_into`: after i turns i distances are written.
use mathlib.Core.Path.{◌≡◌}
use Prim.Native.Nat.{◌+◌, ◌-◌, ◌≤◌}
use lib.ListN.{length}
use Rattle.numbers.specs.Numbers.{at, ◌⊖◌}
use Rattle.workspace.specs.Readings.{Block}
use Rattle.search_open.proofs.gaps_into.Given as goal

abbrev pub invariant-loop-i : goal.invariant-loop-i
invariant-loop-i l = (l.i ≤ l.n) × (length l.gaps ≡ length l.initial.gaps) × Block 0 l.i (λ k. at l.f (l.o + k) ⊖ at l.f (48 + k)) l.initial.gaps l.gaps

abbrev pub decreases-loop-i : goal.decreases-loop-i
decreases-loop-i l = l.n - l.i
