-- `run_rounds`: after each look back what is left of the rounds gives the answer.
use mathlib.Core.Path.{◌≡◌}
use Prim.Native.Nat.{◌-◌}
use lib.ListN.{length}
use Rattle.nnls.specs.inner.State.{read}
use Rattle.nnls.proofs.Rounding.{Running}
use Rattle.nnls.proofs.run_rounds.Given as goal

abbrev pub invariant-loop-c : goal.invariant-loop-c
invariant-loop-c l = (length l.w ≡ length l.initial.w) × (length l.iw ≡ length l.initial.iw) × Running l.m l.n l.k (read l.m l.n l.initial.w l.initial.iw) (read l.m l.n l.w l.iw) l.memory l.c × (length l.memory ≡ 80)

abbrev pub decreases-loop-c : goal.decreases-loop-c
decreases-loop-c l = l.k - l.c.past
