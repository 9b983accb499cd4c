-- `trim`: what is left of the text has the same text.
use mathlib.Core.Path.{◌≡◌}
use lib.ListN.{take}
use Rattle.sheet_parts.specs.Texts.{without_blanks}
use Rattle.sheet_parts.proofs.trim.Given as goal

abbrev pub invariant-loop-i : goal.invariant-loop-i
invariant-loop-i l = without_blanks l.text ≡ without_blanks (take l.i l.text)
