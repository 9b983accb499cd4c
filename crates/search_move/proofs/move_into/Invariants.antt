-- `move_into`: after i turns the first i entries are written.
use Prim.Native.Nat.{◌+◌, ◌-◌, ◌≤◌}
use Rattle.numbers.specs.Numbers.{at, ◌⊖◌}
use Rattle.numbers.proofs.Fills.{Fill}
use Rattle.search_move.proofs.move_into.Given as goal

abbrev pub invariant-loop-i : goal.invariant-loop-i
invariant-loop-i l = (l.i ≤ l.n) × Fill l.i (λ k. at l.f (112 + k) ⊖ at l.f (48 + k)) l.initial.s l.s

abbrev pub decreases-loop-i : goal.decreases-loop-i
decreases-loop-i l = l.n - l.i
