-- `put_escaped`: after i turns i bytes of the text are written.
use Prim.Native.Nat.{◌+◌, ◌*◌, ◌≤◌}
use lib.ListN.{drop}
use Rattle.ascii.proofs.Writing.{Writing}
use Rattle.sheet_parts.specs.Shown.{escaped}
use Rattle.sheet_parts.proofs.put_escaped.Given as goal

abbrev pub invariant-loop-c : goal.invariant-loop-c
invariant-loop-c l = (l.p ≤ l.at + 4 * l.c-index) × Writing l.initial.out l.at (escaped l.text) l.out l.p (escaped (drop l.c-index l.text))
