-- `unit_digits` meets its contract: laws of `proofs/Patterns.antt`.
use mathlib.Core.Path.{sym}
use native.Mathlib.Omega.{arith}
use Rattle.norms.proofs.Patterns.{digits_low, digits-high}
use Rattle.norms.proofs.unit_digits.Goals as goal

pub overflow_cast-result : goal.overflow_cast-result
overflow_cast-result c = omega (arith, (digits_low c.args.b c.requires.0 (omega arith)).1)

pub overflow_sub-result : goal.overflow_sub-result
overflow_sub-result c = omega (arith, (digits_low c.args.b c.requires.0 (omega arith)).1)

pub returns-then-e-eq0 : goal.returns-then-e-eq0
returns-then-e-eq0 c = let d = digits_low c.args.b c.requires.0 (omega arith) in
    (sym d.0, omega (arith, d.1), omega (arith, d.1))

pub returns : goal.returns
returns c = (sym (digits-high c.args.b (omega arith)), omega arith, omega arith)
