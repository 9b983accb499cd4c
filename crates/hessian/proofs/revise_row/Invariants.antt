-- `revise_row`: after j turns the first j entries are new.
use mathlib.Core.List.{List}
use Prim.Native.Nat.{ℕ, ◌≤◌, ◌-◌}
use lib.Ieee.{Float}
use Rattle.numbers.specs.Numbers.{at, ◌⊕◌, ◌⊖◌, ◌⊗◌, ◌⊘◌}
use Rattle.numbers.proofs.Fills.{Fill}
use Rattle.hessian.proofs.revise_row.Given as goal

-- the new entry j
abbrev pub new : List Float → List Float → List Float → Float → Float → Float → Float → ℕ → Float
new x r bs ri bi sr sbs j = at x j ⊕ (ri ⊗ at r j ⊘ sr ⊖ bi ⊗ at bs j ⊘ sbs)

abbrev pub invariant-loop-j : goal.invariant-loop-j
invariant-loop-j l = (l.j ≤ l.n) × Fill l.j (new l.initial.x l.r l.bs l.ri l.bi l.sr l.sbs) l.initial.x l.x

abbrev pub decreases-loop-j : goal.decreases-loop-j
decreases-loop-j l = l.n - l.j
