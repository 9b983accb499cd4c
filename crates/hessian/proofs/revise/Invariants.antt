-- `revise`: after i turns the first i rows are new.
use mathlib.Core.List.{List}
use Prim.Native.Nat.{ℕ, ◌+◌, ◌*◌, ◌≤◌, ◌-◌}
use lib.Ieee.{Float}
use Rattle.numbers.specs.Numbers.{at, ◌⊕◌, ◌⊖◌, ◌⊗◌, ◌⊘◌}
use Rattle.numbers.proofs.Fills.{Rows}
use Rattle.hessian.proofs.revise.Given as goal

-- the new entry in row i, column j
abbrev pub new : ℕ → List Float → List Float → List Float → Float → Float → ℕ → ℕ → Float
new n b r bs sr sbs i j = at b (i * n + j) ⊕ (at r i ⊗ at r j ⊘ sr ⊖ at bs i ⊗ at bs j ⊘ sbs)

abbrev pub invariant-loop-i : goal.invariant-loop-i
invariant-loop-i l = (l.i ≤ l.n) × Rows l.i l.n (new l.n l.initial.b l.r l.bs l.sr l.sbs) l.initial.b l.b

abbrev pub decreases-loop-i : goal.decreases-loop-i
decreases-loop-i l = l.n - l.i
