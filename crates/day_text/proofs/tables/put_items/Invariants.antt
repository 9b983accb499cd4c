-- `put_items`: after i turns i rows are written.
use mathlib.Core.Path.{◌≡◌}
use Prim.Native.Nat.{◌+◌, ◌-◌, ◌*◌, ◌≤◌}
use lib.ListN.{length}
use Rattle.ascii.proofs.Writing.{Writing}
use Rattle.day_text.specs.Tables.{item_rows}
use Rattle.day_text.proofs.tables.put_items.Given as goal

abbrev pub invariant-loop-i : goal.invariant-loop-i
invariant-loop-i l = (l.i ≤ l.n) × Writing l.initial.out l.at (item_rows l.n 0 l.texts l.wholes l.numbers l.figures l.signs) l.out l.to (item_rows (l.n - l.i) l.i l.texts l.wholes l.numbers l.figures l.signs) × (length l.out ≡ length l.initial.out) × (l.to ≤ l.at + 318 * l.i)

abbrev pub decreases-loop-i : goal.decreases-loop-i
decreases-loop-i l = l.n - l.i
