-- `take_terms`: the words that are left give the answer.
use mathlib.Core.Path.{◌≡◌}
use Prim.Native.Nat.{◌-◌, ◌≤◌}
use lib.ListN.{length, drop}
use Rattle.sheet_words.specs.Lines.{words_of}
use Rattle.sheet_terms.specs.Terms.{terms, terms_from}
use Rattle.sheet_terms.specs.inner.Work.{turn}
use Rattle.sheet_terms.proofs.take_terms.Given as goal

abbrev pub invariant-loop-t : goal.invariant-loop-t
invariant-loop-t l = (l.at ≤ length l.line) × (length l.numbers ≡ length l.initial.numbers) × (terms l.balance l.p l.texts (words_of (drop l.from l.line)) l.initial.numbers ≡ terms_from l.balance l.p l.texts (words_of (drop l.at l.line)) (turn l.t l.numbers))

abbrev pub decreases-loop-t : goal.decreases-loop-t
decreases-loop-t l = length l.line - l.at
