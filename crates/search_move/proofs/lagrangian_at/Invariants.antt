-- `lagrangian_at`: after j turns the first j terms are taken off.
use mathlib.Core.Path.{◌≡◌}
use Prim.Native.Nat.{suc, ◌*◌, ◌-◌, ◌≤◌}
use Rattle.workspace.specs.Readings.{vec}
use Rattle.search.specs.Turn.{lagrangian_at}
use Rattle.search_move.proofs.lagrangian_at.Given as goal

abbrev pub invariant-loop-j : goal.invariant-loop-j
invariant-loop-j l = (l.j ≤ l.m) × (l.total ≡ lagrangian_at l.n (vec l.o (suc l.m * l.n) l.g) (vec 96 l.m l.f) l.i l.j)

abbrev pub decreases-loop-j : goal.decreases-loop-j
decreases-loop-j l = l.m - l.j
