-- `put_small`: by its thousandths, or that it is near zero.
use mathlib.Core.Path.{sym, ◌∙◌}
use native.Mathlib.Omega.{arith}
use Rattle.decimals.specs.Fixed.{small_text}
use Rattle.decimals.proofs.print.put_small.Goals as goal

pub is_tiny-requires : goal.is_tiny-requires
is_tiny-requires c = tt

pub put_tiny-requires : goal.put_tiny-requires
put_tiny-requires c = omega arith

pub shape_of-out-then-is_tiny : goal.shape_of-out-then-is_tiny
shape_of-out-then-is_tiny c = omega arith

pub returns-then-is_tiny : goal.returns-then-is_tiny
unfolding small_text
returns-then-is_tiny c = record { wrote = rw (sym c.is_tiny.ensures ∙ c.if-is_tiny.true) c.put_tiny.ensures.wrote; upper_bound = c.put_tiny.ensures.upper_bound }

pub put_thousandths-requires : goal.put_thousandths-requires
put_thousandths-requires c = (omega arith, omega arith)

pub shape_of-out : goal.shape_of-out
shape_of-out c = omega arith

pub returns : goal.returns
unfolding small_text
returns c = record { wrote = rw (sym c.is_tiny.ensures ∙ c.if-is_tiny.false) c.put_thousandths.ensures.wrote; upper_bound = c.put_thousandths.ensures.upper_bound }
