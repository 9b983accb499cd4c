-- `permute`: after i turns i rows are permuted.
use mathlib.Core.Path.{◌≡◌}
use Prim.Native.Nat.{◌≤◌, ◌-◌}
use lib.ListN.{length}
use Rattle.lsei.specs.inner.Work.{Permuted}
use Rattle.lsei.proofs.permute.Given as goal

abbrev pub invariant-loop-i : goal.invariant-loop-i
invariant-loop-i l = (l.i ≤ l.mg) × (length l.w ≡ length l.initial.w) × Permuted l.n l.i l.iw l.initial.w l.w

abbrev pub decreases-loop-i : goal.decreases-loop-i
decreases-loop-i l = l.mg - l.i
