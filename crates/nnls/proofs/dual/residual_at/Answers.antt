-- `residual_at`, by the sum.
use mathlib.Core.Path.{ap, ◌∙◌}
use Prim.Native.Nat.{ℕ, ◌+◌, ◌*◌}
use native.Mathlib.Omega.{arith}
use lib.Ieee.{Float}
use Rattle.numbers.specs.Numbers.{at, ◌⊖◌, ◌⊗◌}
use Rattle.numbers.proofs.Sums.{Σ-same}
use Rattle.nnls.specs.inner.Dual.{residual_at}
use Rattle.nnls.proofs.dual.residual_at.Goals as goal

pub overflow_add-result : goal.overflow_add-result
overflow_add-result c = omega arith

pub offset_bounds-w-i : goal.offset_bounds-w-i
offset_bounds-w-i c = omega arith

pub bounds-w-i : goal.bounds-w-i
bounds-w-i c = omega arith

pub returns : goal.returns
unfolding residual_at
returns c = let a = c.args in
    ap (λ (t : Float). at a.w.now (1188 + a.i) ⊖ t)
    (c.dot_strided-t.ensures ∙ Σ-same a.n _ _ (λ j h. ap (λ (x : ℕ). at a.w.now (a.i + j * 18) ⊗ at a.w.now x) (omega arith)))
