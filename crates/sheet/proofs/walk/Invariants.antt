-- `walk`: the lines that are left give the answer.
use mathlib.Core.Path.{◌≡◌}
use Prim.Native.Nat.{◌+◌, ◌-◌, ◌≤◌}
use lib.ListN.{length, drop}
use Rattle.day_words.specs.Words.{lines_of}
use Rattle.sheet_lines.specs.inner.Work.{state, Few}
use Rattle.sheet.specs.Sheet.{lines_read}
use Rattle.sheet.proofs.walk.Given as goal

abbrev pub invariant-loop-at : goal.invariant-loop-at
invariant-loop-at l = (l.k ≤ l.at) × (l.at ≤ length l.bytes + 1) × Few l.s × (length l.texts ≡ 1992) × (length l.wholes ≡ 64) × (length l.numbers ≡ 577)
    × (lines_read (lines_of (drop l.from l.bytes)) 0 (state l.initial.s l.initial.texts l.initial.wholes l.initial.numbers) ≡ lines_read (lines_of (drop l.at l.bytes)) l.k (state l.s l.texts l.wholes l.numbers))

abbrev pub decreases-loop-at : goal.decreases-loop-at
decreases-loop-at l = length l.bytes - l.at
