-- `word_end`: the rest of the word ends where the whole does.
use mathlib.Core.Path.{◌≡◌}
use Prim.Native.Nat.{◌+◌}
use lib.ListN.{length, drop}
use Rattle.day_words.specs.Words.{up_to, is_blank}
use Rattle.day_words.proofs.word_end.Given as goal

abbrev pub invariant-loop-i : goal.invariant-loop-i
invariant-loop-i l = l.from + length (up_to is_blank (drop l.from l.line)) ≡ l.i + length (up_to is_blank (drop l.i l.line))
