-- `value`: a NaN pattern, or the bits' own float.
use mathlib.Core.Path.{refl, ◌≡◌, sym, subst, ◌∙◌}
use mathlib.Core.Bool.{Bool, false, not}
use lib.Dec.{T}
use lib.Ieee.{nan_bits, binary64}
use Rattle.problem_read.proofs.Bytes.{nan-bits, nan-value, no-nan-field, no-nan-digits, zero_by_zero}
use Rattle.problem_read.proofs.floats.value.Goals as goal
use Rattle.problem_read.proofs.floats.value.Goals.{then-e-eq2047+else-t-ne0, else-e-eq2047}

pub returns-then-t-ne0 : goal.returns-then-t-ne0
returns-then-t-ne0 c = let b = c.args.bits in
    zero_by_zero ∙ sym (nan-value b (nan-bits b c.if-e-eq2047.true c.if-t-ne0.true))

pub float_from_bits-result : goal.float_from_bits-result
float_from_bits-result c = let b = c.args.bits in
    let e : nan_bits binary64 b ≡ false = elim c.if-e-eq2047.branch [
      | then-e-eq2047+else-t-ne0 w ↦ no-nan-digits b w.if-t-ne0.false
      | else-e-eq2047 w ↦ no-nan-field b w.if-e-eq2047.false
    ] in
    subst (λ (t : Bool). T (not t)) (sym e) tt

pub returns : goal.returns
returns c = refl
