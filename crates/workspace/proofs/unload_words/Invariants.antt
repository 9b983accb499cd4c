-- `unload_words`: after t turns t numbers are copied.
use mathlib.Core.Path.{◌≡◌}
use Prim.Native.Nat.{◌+◌, ◌-◌, ◌≤◌}
use lib.ListN.{length}
use Rattle.numbers.specs.Numbers.{nth}
use Rattle.workspace.specs.Readings.{Span}
use Rattle.workspace.proofs.unload_words.Given as goal

abbrev pub invariant-loop-t : goal.invariant-loop-t
invariant-loop-t l = (l.t ≤ l.n) × (length l.l ≡ length l.initial.l) × Span 0 l.t (λ i. nth l.iw (l.o + i)) l.initial.l l.l

abbrev pub decreases-loop-t : goal.decreases-loop-t
decreases-loop-t l = l.n - l.t
