-- `hex_digit`: below ten, or above.
use native.Mathlib.Omega.{arith}
use Rattle.sheet_parts.proofs.Shown.{hex-low, hex-high}
use Rattle.sheet_parts.proofs.hex_digit.Goals as goal

pub overflow_add-result : goal.overflow_add-result
overflow_add-result c = omega arith

pub returns-then-d-lt10 : goal.returns-then-d-lt10
returns-then-d-lt10 c = hex-low _ c.if-d-lt10.true

pub overflow_add-result-2 : goal.overflow_add-result-2
overflow_add-result-2 c = omega arith

pub returns : goal.returns
returns c = hex-high _ c.if-d-lt10.false
