-- `damp`: after i turns the first i entries of r stand behind Bs.
use mathlib.Core.List.{List}
use Prim.Native.Nat.{ℕ, ◌≤◌, ◌-◌}
use lib.Ieee.{Float}
use Rattle.numbers.specs.Numbers.{at, one, ◌⊕◌, ◌⊖◌, ◌⊗◌}
use Rattle.numbers.proofs.Fills.{Put}
use Rattle.hessian.proofs.damp.Given as goal

abbrev pub new : Float → List Float → List Float → ℕ → Float
new θ y bs i = θ ⊗ at y i ⊕ (one ⊖ θ) ⊗ at bs i

abbrev pub invariant-loop-i : goal.invariant-loop-i
invariant-loop-i l = (l.i ≤ l.n) × Put l.n l.i (new l.theta l.y l.initial.w) l.initial.w l.w

abbrev pub decreases-loop-i : goal.decreases-loop-i
decreases-loop-i l = l.n - l.i
