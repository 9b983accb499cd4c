-- `put_others`: those from k to i are written.
use mathlib.Core.Path.{◌≡◌}
use Prim.Native.Nat.{◌+◌, ◌-◌, ◌*◌, ◌≤◌}
use lib.ListN.{length}
use Rattle.ascii.proofs.Writing.{Writing}
use Rattle.day_text.specs.Verdict.{other_suspects}
use Rattle.day_text.proofs.verdict.put_others.Given as goal

abbrev pub invariant-loop-i : goal.invariant-loop-i
invariant-loop-i l = (l.k ≤ l.i) × (l.i ≤ l.n) × Writing l.initial.out l.at (other_suspects (l.n - l.k) l.k l.texts l.signs) l.out l.to (other_suspects (l.n - l.i) l.i l.texts l.signs) × (length l.out ≡ length l.initial.out) × (l.to + 20 * l.k ≤ l.at + 20 * l.i)

abbrev pub decreases-loop-i : goal.decreases-loop-i
decreases-loop-i l = l.n - l.i
