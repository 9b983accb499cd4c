-- `put_limits`: after j turns j rows are written.
use mathlib.Core.Path.{◌≡◌}
use Prim.Native.Nat.{◌+◌, ◌-◌, ◌*◌, ◌≤◌}
use lib.ListN.{length}
use Rattle.ascii.proofs.Writing.{Writing}
use Rattle.day_text.specs.Tables.{limit_rows}
use Rattle.day_text.proofs.tables.put_limits.Given as goal

abbrev pub invariant-loop-j : goal.invariant-loop-j
invariant-loop-j l = (l.j ≤ l.q) × Writing l.initial.out l.at (limit_rows l.q 0 l.texts l.wholes l.numbers l.figures l.signs) l.out l.to (limit_rows (l.q - l.j) l.j l.texts l.wholes l.numbers l.figures l.signs) × (length l.out ≡ length l.initial.out) × (l.to ≤ l.at + 96 * l.j)

abbrev pub decreases-loop-j : goal.decreases-loop-j
decreases-loop-j l = l.q - l.j
