-- `before_remark`: what is kept of the text so far, and of the rest, is what is kept of all.
use mathlib.Core.Path.{◌≡◌}
use Prim.Native.Nat.{◌+◌}
use lib.ListN.{length, drop}
use Rattle.sheet_words.specs.Lines.{unremarked_from, unremarked}
use Rattle.sheet_words.proofs.before_remark.Given as goal

abbrev pub invariant-loop-i : goal.invariant-loop-i
invariant-loop-i l = l.i + length (unremarked_from l.free (drop l.i l.text)) ≡ length (unremarked l.text)
