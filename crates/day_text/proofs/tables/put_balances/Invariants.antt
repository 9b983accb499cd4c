-- `put_balances`: after j turns j rows are written.
use mathlib.Core.Path.{◌≡◌}
use Prim.Native.Nat.{◌+◌, ◌-◌, ◌*◌, ◌≤◌}
use lib.ListN.{length}
use Rattle.ascii.proofs.Writing.{Writing}
use Rattle.day_text.specs.Tables.{balance_rows}
use Rattle.day_text.proofs.tables.put_balances.Given as goal

abbrev pub invariant-loop-j : goal.invariant-loop-j
invariant-loop-j l = (l.j ≤ l.m) × Writing l.initial.out l.at (balance_rows l.m 0 l.texts l.figures l.signs) l.out l.to (balance_rows (l.m - l.j) l.j l.texts l.figures l.signs) × (length l.out ≡ length l.initial.out) × (l.to ≤ l.at + 66 * l.j)

abbrev pub decreases-loop-j : goal.decreases-loop-j
decreases-loop-j l = l.m - l.j
