-- `thousandths`: by the fields of the pattern.
use mathlib.Core.Path.{sym, ap, ◌∙◌}
use Prim.Native.Nat.{ℕ, ◌*◌, ◌^◌}
use native.Mathlib.Omega.{arith}
use lib.Ieee.Nearest.{closest}
use Rattle.decimals.proofs.Sizes.{units-low, units-high}
use Rattle.decimals.proofs.print.thousandths.Goals as goal

pub returns-then-e-eq0 : goal.returns-then-e-eq0
returns-then-e-eq0 c = let b = c.args.b in record { value = c.thousandths_at.ensures.value ∙ ap (λ (n : ℕ). closest (1000 * n) (2 ^ 1074)) (sym (units-low b c.if-e-eq0.true)); upper_bound = c.thousandths_at.ensures.upper_bound }

pub returns : goal.returns
returns c = let b = c.args.b in record { value = c.thousandths_at-2.ensures.value ∙ ap (λ (n : ℕ). closest (1000 * n) (2 ^ 1074)) (sym (units-high b (omega arith))); upper_bound = c.thousandths_at-2.ensures.upper_bound }
