-- `write_columns`: after j turns j columns are written.
use mathlib.Core.Path.{◌≡◌}
use Prim.Native.Nat.{◌+◌, ◌*◌, ◌-◌, ◌≤◌}
use mathlib.Core.Bool.{cond}
use lib.Dec.{leb}
use lib.ListN.{length}
use Rattle.numbers.specs.Numbers.{+0, at}
use Rattle.workspace.proofs.Copies.{Laid}
use Rattle.step.proofs.assembly.write_columns.Given as goal

abbrev pub invariant-loop-j : goal.invariant-loop-j
invariant-loop-j l = (l.j ≤ l.n) × (length l.w ≡ length l.initial.w) × Laid 444 (l.n + 1) l.j (λ j' i. cond (leb i j') (at l.factor (j' * l.n + i)) +0) l.initial.w l.w

abbrev pub decreases-loop-j : goal.decreases-loop-j
decreases-loop-j l = l.n - l.j
