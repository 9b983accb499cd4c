-- `unload_matrix`: after i turns i rows are out.
use mathlib.Core.Path.{◌≡◌}
use Prim.Native.Nat.{◌+◌, ◌*◌, ◌-◌, ◌≤◌}
use lib.ListN.{length}
use Rattle.numbers.specs.Numbers.{at}
use Rattle.workspace.proofs.Copies.{Rowed}
use Rattle.workspace.proofs.unload_matrix.Given as goal

abbrev pub invariant-loop-i : goal.invariant-loop-i
invariant-loop-i l = (l.i ≤ l.m) × (length l.a ≡ length l.initial.a) × Rowed l.n l.i (λ i' j. at l.w (l.o + i' + j * 18)) l.a

abbrev pub decreases-loop-i : goal.decreases-loop-i
decreases-loop-i l = l.m - l.i
