-- `change_into`: after i turns the first i entries are written.
use Prim.Native.Nat.{suc, ◌-◌, ◌*◌, ◌≤◌}
use Rattle.numbers.specs.Numbers.{◌⊖◌}
use Rattle.numbers.proofs.Fills.{Fill}
use Rattle.workspace.specs.Readings.{vec}
use Rattle.search.specs.Turn.{lagrangian_at}
use Rattle.search_move.proofs.change_into.Given as goal

abbrev pub invariant-loop-i : goal.invariant-loop-i
invariant-loop-i l = (l.i ≤ l.n) × Fill l.i (λ k. lagrangian_at l.n (vec 0 (suc l.m * l.n) l.w) (vec 96 l.m l.f) k l.m ⊖ lagrangian_at l.n (vec 176 (suc l.m * l.n) l.f) (vec 96 l.m l.f) k l.m) l.initial.y l.y

abbrev pub decreases-loop-i : goal.decreases-loop-i
decreases-loop-i l = l.n - l.i
