-- `is_same`: both NaN, or of the same bits.
use mathlib.Core.Path.{ap}
use borrow.Author.Tests.{eq-eqb}
use lib.Ieee.{binary64, to_bits}
use Rattle.problem_read.proofs.Bytes.{never, nan_same, nan-alike, nan-apart, some_bits, same_bits}
use Rattle.problem_read.proofs.floats.is_same.Goals as goal

pub returns-then-x : goal.returns-then-x
returns-then-x c = record { x_value = λ e. nan_same _ _ c.if-x.true e; value = λ e. nan-alike _ _ c.if-x.true e }

pub returns-then-y : goal.returns-then-y
returns-then-y c = record { x_value = λ e. never e; value = λ e. nan-apart _ _ c.if-x.false c.if-y.true e }

pub float_to_bits-result : goal.float_to_bits-result
float_to_bits-result c = some_bits _ c.if-x.false

pub float_to_bits-result-2 : goal.float_to_bits-result-2
float_to_bits-result-2 c = some_bits _ c.if-y.false

pub returns : goal.returns
returns c = record { x_value = λ e. same_bits _ _ c.well_formed.0.1 c.well_formed.1.0.1 e; value = λ e. eq-eqb _ _ (ap (to_bits binary64) e) }
