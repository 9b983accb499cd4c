-- `load_sides`: after t turns t sides are in.
use mathlib.Core.Path.{◌≡◌}
use Prim.Native.Nat.{◌-◌, ◌≤◌}
use lib.ListN.{length}
use Rattle.numbers.specs.Numbers.{at}
use Rattle.lsei.specs.inner.Work.{Spaced}
use Rattle.lsei_call.proofs.inputs.load_sides.Given as goal

abbrev pub invariant-loop-t : goal.invariant-loop-t
invariant-loop-t l = (l.t ≤ l.m) × (length l.w ≡ length l.initial.w) × Spaced l.q l.t (λ i. at l.h i) l.initial.w l.w

abbrev pub decreases-loop-t : goal.decreases-loop-t
decreases-loop-t l = l.m - l.t
