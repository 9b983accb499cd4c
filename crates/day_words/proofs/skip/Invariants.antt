-- `skip`: what is left has the same words.
use mathlib.Core.Path.{◌≡◌}
use lib.ListN.{drop}
use Rattle.day_words.specs.Words.{skip_blanks}
use Rattle.day_words.proofs.skip.Given as goal

abbrev pub invariant-loop-i : goal.invariant-loop-i
invariant-loop-i l = skip_blanks (drop l.from l.line) ≡ skip_blanks (drop l.i l.line)
