-- `space`: after t turns t entries are copied, and what is still to be read is as it was.
use mathlib.Core.Path.{◌≡◌}
use Prim.Native.Nat.{◌+◌, ◌-◌, ◌≤◌}
use lib.ListN.{length}
use Rattle.numbers.specs.Numbers.{at}
use Rattle.lsei.specs.inner.Work.{Spaced}
use Rattle.lsei_nullspace.proofs.space.Given as goal

abbrev pub invariant-loop-t : goal.invariant-loop-t
invariant-loop-t l = (l.t ≤ l.c) × (length l.w ≡ length l.initial.w) × Spaced l.q l.t (λ i. at l.initial.w (l.p + i)) l.initial.w l.w

abbrev pub decreases-loop-t : goal.decreases-loop-t
decreases-loop-t l = l.c - l.t
