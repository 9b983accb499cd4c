-- `dot_strided` meets its contract. The loop's invariant: `part` is the sum of the first `i` products.
use mathlib.Core.Path.{◌≡◌}
use Prim.Native.Nat.{◌+◌, ◌*◌}
use Rattle.numbers.specs.Numbers.{Σ, at, ◌⊗◌}
use Rattle.numbers.proofs.dot_strided.Given as goal

abbrev pub invariant-loop-i : goal.invariant-loop-i
invariant-loop-i l = l.part ≡ Σ l.i (λ k. at l.xs (l.a + k * l.s) ⊗ at l.ys (l.b + k * l.t))
