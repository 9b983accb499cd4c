-- `line_end`: the rest of the line ends where the whole does.
use mathlib.Core.Path.{◌≡◌}
use Prim.Native.Nat.{◌+◌}
use lib.ListN.{length, drop}
use Rattle.day_words.specs.Words.{up_to, is_feed}
use Rattle.day_words.proofs.line_end.Given as goal

abbrev pub invariant-loop-i : goal.invariant-loop-i
invariant-loop-i l = l.at + length (up_to is_feed (drop l.at l.bytes)) ≡ l.i + length (up_to is_feed (drop l.i l.bytes))
