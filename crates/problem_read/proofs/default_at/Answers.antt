-- `default_at`: a default for each part of the tables.
use native.Mathlib.Omega.{arith}
use borrow.Author.Tests.{eq-eqb, ne_eqb, lt-ltb, le-ltb}
use lib.Ieee.{of_bits, nan_bits, round}
use Rattle.problem_read.specs.inner.Spots.{default_at}
use Rattle.problem_read.proofs.default_at.Goals as goal

pub nonzero_div-p : goal.nonzero_div-p
nonzero_div-p c = omega arith

pub nonzero_rem-p : goal.nonzero_rem-p
nonzero_rem-p c = omega arith

pub returns-then-p-n : goal.returns-then-p-n
unfolding default_at round of_bits
returns-then-p-n c = simp (lt-ltb _ _ c.if-p-lt-GRADIENT.true, eq-eqb _ _ c.if-p-n.true)

pub returns-then-p-lt-GRADIENT : goal.returns-then-p-lt-GRADIENT
unfolding default_at round of_bits
returns-then-p-lt-GRADIENT c = simp (lt-ltb _ _ c.if-p-lt-GRADIENT.true, ne_eqb _ _ c.if-p-n.false)

pub returns-then-p-lt-LOWER : goal.returns-then-p-lt-LOWER
unfolding default_at round of_bits
returns-then-p-lt-LOWER c = simp (le-ltb _ _ c.if-p-lt-GRADIENT.false, lt-ltb _ _ c.if-p-lt-LOWER.true)

pub float_from_bits-result : goal.float_from_bits-result
unfolding nan_bits
float_from_bits-result c = tt

pub returns-then-p-lt-UPPER : goal.returns-then-p-lt-UPPER
unfolding default_at of_bits
returns-then-p-lt-UPPER c = simp (le-ltb _ _ c.if-p-lt-GRADIENT.false, le-ltb _ _ c.if-p-lt-LOWER.false, lt-ltb _ _ c.if-p-lt-UPPER.true)

pub float_from_bits-result-then-p-lt-WIDTHS : goal.float_from_bits-result-then-p-lt-WIDTHS
unfolding nan_bits
float_from_bits-result-then-p-lt-WIDTHS c = tt

pub returns-then-p-lt-WIDTHS : goal.returns-then-p-lt-WIDTHS
unfolding default_at of_bits
returns-then-p-lt-WIDTHS c = simp (le-ltb _ _ c.if-p-lt-GRADIENT.false, le-ltb _ _ c.if-p-lt-LOWER.false, le-ltb _ _ c.if-p-lt-UPPER.false, lt-ltb _ _ c.if-p-lt-WIDTHS.true)

pub returns : goal.returns
unfolding default_at round of_bits
returns c = simp (le-ltb _ _ c.if-p-lt-GRADIENT.false, le-ltb _ _ c.if-p-lt-LOWER.false, le-ltb _ _ c.if-p-lt-UPPER.false, le-ltb _ _ c.if-p-lt-WIDTHS.false)
