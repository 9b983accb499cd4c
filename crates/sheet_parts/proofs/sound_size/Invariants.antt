-- `sound_size`: up to a foreign byte, and 72.
use mathlib.Core.Path.{◌≡◌}
use Prim.Native.Nat.{◌+◌, ◌≤◌}
use lib.ListN.{length, drop}
use Rattle.day_words.specs.Words.{up_to}
use Rattle.sheet_parts.specs.Texts.{is_foreign}
use Rattle.sheet_parts.proofs.sound_size.Given as goal

abbrev pub invariant-loop-i : goal.invariant-loop-i
invariant-loop-i l = (l.i ≤ 72) × (l.i + length (up_to is_foreign (drop l.i l.text)) ≡ length (up_to is_foreign l.text))
