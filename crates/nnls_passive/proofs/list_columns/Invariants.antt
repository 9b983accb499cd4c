-- `list_columns`: after j turns the marked of the first j columns are listed.
use mathlib.Core.Path.{◌≡◌}
use Prim.Native.Nat.{◌-◌, ◌≤◌}
use lib.ListN.{length}
use Rattle.nnls_passive.specs.inner.Work.{Listed}
use Rattle.nnls_passive.proofs.list_columns.Given as goal

abbrev pub invariant-loop-j : goal.invariant-loop-j
invariant-loop-j l = (l.j ≤ l.n) × (l.c ≤ l.j) × (length l.iw ≡ length l.initial.iw) × Listed l.j l.c l.initial.iw l.iw

abbrev pub decreases-loop-j : goal.decreases-loop-j
decreases-loop-j l = l.n - l.j
