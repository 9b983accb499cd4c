-- `repeat`: after each turn one period more is counted.
use Prim.Native.Nat.{◌-◌}
use Rattle.nnls.specs.inner.Memory.{Repeated}
use Rattle.nnls.proofs.memory.repeat.Given as goal

abbrev pub invariant-loop-p : goal.invariant-loop-p
invariant-loop-p l = Repeated l.d l.e l.past l.f l.k (record { past = l.p; factorings = l.g })

abbrev pub decreases-loop-p : goal.decreases-loop-p
decreases-loop-p l = l.k - l.p
