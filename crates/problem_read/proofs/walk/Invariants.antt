-- `walk`: before record k, what is still to come gives the answer.
use mathlib.Core.Path.{◌≡◌}
use Prim.Native.Nat.{◌-◌}
use lib.ListN.{length}
use Rattle.problem_read.specs.inner.Filling.{walk_tables}
use Rattle.problem_read.proofs.walk.Given as goal

abbrev pub invariant-loop-k : goal.invariant-loop-k
invariant-loop-k l = (length l.marks ≡ 592) × (length l.vals ≡ 592) × (walk_tables l.sizes.constraints l.sizes.variables l.bytes (l.whole - l.k) l.k l.marks l.vals ≡ walk_tables l.sizes.constraints l.sizes.variables l.bytes (l.whole - 1) 1 l.initial.marks l.initial.vals)
