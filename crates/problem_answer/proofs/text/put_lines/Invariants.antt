-- `put_lines`: after i turns i lines are written.
use mathlib.Core.Path.{◌≡◌}
use Prim.Native.Nat.{◌+◌, ◌*◌, ◌≤◌}
use lib.ListN.{length, drop}
use Rattle.problem_answer.specs.Text.{lines_text}
use Rattle.ascii.proofs.Writing.{Writing}
use Rattle.problem_answer.proofs.text.put_lines.Given as goal

abbrev pub invariant-loop-i : goal.invariant-loop-i
invariant-loop-i l = Writing l.initial.out l.at (lines_text l.tag 0 l.xs) l.out l.to (lines_text l.tag l.i (drop l.i l.xs)) × (l.to ≤ l.at + 40 * l.i)
