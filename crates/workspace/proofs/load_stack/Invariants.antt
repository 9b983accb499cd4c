-- `load_stack`: after k turns k rows are in.
use mathlib.Core.Path.{◌≡◌}
use Prim.Native.Nat.{◌+◌, ◌*◌, ◌-◌, ◌≤◌}
use lib.ListN.{length}
use Rattle.numbers.specs.Numbers.{at}
use Rattle.workspace.proofs.Copies.{Laid}
use Rattle.workspace.proofs.load_stack.Given as goal

abbrev pub invariant-loop-k : goal.invariant-loop-k
invariant-loop-k l = (l.k ≤ l.c) × (length l.w ≡ length l.initial.w) × Laid l.o l.m l.k (λ k' i. at l.a (k' * l.m + i * 1)) l.initial.w l.w

abbrev pub decreases-loop-k : goal.decreases-loop-k
decreases-loop-k l = l.c - l.k
