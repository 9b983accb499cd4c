-- `is_taken`: the names not compared yet give the answer.
use mathlib.Core.Path.{◌≡◌}
use Prim.Native.Nat.{◌-◌, ◌≤◌}
use Rattle.sheet_words.specs.Names.{is_taken}
use Rattle.sheet_words.proofs.is_taken.Given as goal

abbrev pub invariant-loop-k : goal.invariant-loop-k
invariant-loop-k l = (l.k ≤ l.n) × (is_taken l.n 0 l.name l.texts ≡ is_taken (l.n - l.k) l.k l.name l.texts)

abbrev pub decreases-loop-k : goal.decreases-loop-k
decreases-loop-k l = l.n - l.k
