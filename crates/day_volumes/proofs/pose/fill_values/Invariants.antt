use mathlib.Core.Path.{◌≡◌}
use Prim.Native.Nat.{◌+◌, ◌-◌, ◌≤◌}
use lib.ListN.{length}
use Rattle.numbers.specs.Numbers.{at, nth}
use Rattle.numbers.proofs.Fills.{Fill}
use Rattle.day_volumes.specs.Posed.{kind_at, value_of}
use Rattle.day_volumes.proofs.pose.fill_values.Given as goal

abbrev pub invariant-loop-i : goal.invariant-loop-i
invariant-loop-i l = (l.i ≤ l.n) × (length l.v ≡ length l.initial.v) × Fill l.i (λ t. value_of (kind_at l.z t) (nth l.z t) (nth l.z (16 + t)) (at l.f t) (at l.f (16 + t)) (at l.f (32 + t))) l.initial.v l.v

abbrev pub decreases-loop-i : goal.decreases-loop-i
decreases-loop-i l = l.n - l.i
