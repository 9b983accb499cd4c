-- `unload_stack`: after k turns k vectors are out.
use mathlib.Core.Path.{◌≡◌}
use Prim.Native.Nat.{◌+◌, ◌*◌, ◌-◌, ◌≤◌}
use lib.ListN.{length}
use Rattle.numbers.specs.Numbers.{at}
use Rattle.workspace.proofs.Copies.{Rowed}
use Rattle.workspace.proofs.unload_stack.Given as goal

abbrev pub invariant-loop-k : goal.invariant-loop-k
invariant-loop-k l = (l.k ≤ l.c) × (length l.a ≡ length l.initial.a) × Rowed l.m l.k (λ k' i. at l.w (l.o + k' * 18 + i * 1)) l.a

abbrev pub decreases-loop-k : goal.decreases-loop-k
decreases-loop-k l = l.c - l.k
