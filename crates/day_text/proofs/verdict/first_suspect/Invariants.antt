-- `first_suspect`: what is still to be looked through has the first.
use mathlib.Core.Path.{◌≡◌}
use Prim.Native.Nat.{◌-◌}
use Rattle.day_text.specs.Verdict.{first_suspect}
use Rattle.day_text.proofs.verdict.first_suspect.Given as goal

abbrev pub invariant-loop-i : goal.invariant-loop-i
invariant-loop-i l = first_suspect l.n 0 l.signs ≡ first_suspect (l.n - l.i) l.i l.signs
